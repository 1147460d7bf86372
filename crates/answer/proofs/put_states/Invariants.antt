-- `answer::put_states` meets its contract. The loop's invariant: the lines of the states that were passed were written, 13 bytes each. Assumes nothing.
use Prim.Native.Nat.{◌+◌, ◌*◌}
use mathlib.Core.Path.{◌≡◌}
use lib.ListN.{take}
use Rattle.text.specs.Writing.{Writes}
use Rattle.answer.specs.Answer.{state_lines}
use Rattle.answer.proofs.put_states.Given as goal

abbrev pub invariant-loop-s : goal.invariant-loop-s
invariant-loop-s l = (l.next ≡ l.at + 13 * l.s-index) × Writes l.at (state_lines l.kind (take l.s-index l.states)) l.initial.out l.next l.out

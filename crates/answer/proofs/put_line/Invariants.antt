-- `answer::put_line` meets its contract. The loop's invariant: the digits of the bytes that were passed were written, and their sum was kept. Assumes
-- nothing.
use Prim.Native.Nat.{◌+◌, ◌*◌, ◌≤◌}
use mathlib.Core.Path.{◌≡◌}
use lib.ListN.{take}
use Rattle.text.specs.Writing.{Writes}
use Rattle.line.specs.Text.{sum}
use Rattle.answer.specs.Output.{digits}
use Rattle.answer.proofs.put_line.Given as goal

abbrev pub invariant-loop-byte : goal.invariant-loop-byte
invariant-loop-byte l =
    (l.next ≡ l.at + 2 * l.byte-index)
    × (l.sum ≤ 255 * l.byte-index)
    × (l.sum ≡ sum (take l.byte-index l.frame))
    × Writes l.at (digits (take l.byte-index l.frame)) l.initial.out l.next l.out

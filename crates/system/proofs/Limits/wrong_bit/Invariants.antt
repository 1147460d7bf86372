-- `Limits::wrong_bit` meets its contract: the whole list says what is left of it says. Assumes nothing.
use mathlib.Core.Path.{◌≡◌}
use lib.ListN.{length}
use Rattle.system.specs.System.{wrong_bit}
use Rattle.system.proofs.Limits.wrong_bit.Given as goal

abbrev pub invariant-loop-left : goal.invariant-loop-left
invariant-loop-left l = wrong_bit l.self.low l.self.high l.self.wires l.list ≡ wrong_bit l.self.low l.self.high l.self.wires l.left

abbrev pub decreases-loop-left : goal.decreases-loop-left
decreases-loop-left l = length l.left

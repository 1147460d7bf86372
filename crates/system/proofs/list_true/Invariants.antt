-- `system::list_true` meets its contract: the whole list says what is left of it says. Assumes nothing.
use mathlib.Core.Path.{◌≡◌}
use lib.ListN.{length}
use Rattle.system.specs.System.{list_true}
use Rattle.system.proofs.list_true.Given as goal

abbrev pub invariant-loop-left : goal.invariant-loop-left
invariant-loop-left l = list_true l.list l.word.pair l.word.wires ≡ list_true l.left l.word.pair l.word.wires

abbrev pub decreases-loop-left : goal.decreases-loop-left
decreases-loop-left l = length l.left

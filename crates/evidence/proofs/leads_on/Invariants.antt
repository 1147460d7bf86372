-- `evidence::leads_on` meets its contract. The loop's invariant: what is left of the path leads where the whole path leads. What is asked of the low
-- halves is asked of the states, as each is below 2^32. The measure is what is left of the path. Assumes nothing.
use lib.ListN.{length}
use Rattle.system.specs.System.{some_true, pair}
use Rattle.evidence.proofs.Paths.{Left}
use Rattle.evidence.proofs.leads_on.Given as goal

abbrev pub invariant-loop-left : goal.invariant-loop-left
invariant-loop-left l = Left (λ s t. some_true l.free.w l.step (pair s t)) (some_true l.free.w l.bad) l.path l.left

abbrev pub decreases-loop-left : goal.decreases-loop-left
decreases-loop-left l = length l.left

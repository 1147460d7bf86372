-- `look::scan` meets its contract. What a block says, the list says; blocks that say nothing say nothing together, so the loop keeps nothing. The measure
-- is what is left of the mask of blocks. Assumes nothing.
use Rattle.look.proofs.scan.Given as goal

abbrev pub invariant-loop-left : goal.invariant-loop-left
invariant-loop-left l = Unit {0}

abbrev pub decreases-loop-left : goal.decreases-loop-left
decreases-loop-left l = l.left

-- `look::scan_part` meets its contract. What a clause says, the list says; clauses that say nothing say nothing together, so the loop keeps only that the
-- list is false where what is left is. The measure is the length of what is left. Assumes nothing.
use lib.ListN.{length}
use Rattle.look.proofs.Lists.{Walks}
use Rattle.look.proofs.scan_part.Given as goal

abbrev pub invariant-loop-left : goal.invariant-loop-left
invariant-loop-left l = Walks l.list l.left

abbrev pub decreases-loop-left : goal.decreases-loop-left
decreases-loop-left l = length l.left

-- `order::mark` is safe and ends. The measure is what is left of the mask. Assumes nothing.
use Rattle.order.proofs.mark.Given as goal

abbrev pub decreases-loop-left : goal.decreases-loop-left
decreases-loop-left l = l.left

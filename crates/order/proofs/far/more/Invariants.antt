-- `order::far::more` is safe and ends. The measure is how many wires are left. Assumes nothing.
use Rattle.order.proofs.far.more.Given as goal

abbrev pub decreases-loop-k : goal.decreases-loop-k
decreases-loop-k l = l.k

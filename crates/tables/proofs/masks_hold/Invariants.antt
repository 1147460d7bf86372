-- `tables::masks_hold` is safe and ends. The measure is the literals that are left, as one number. Assumes nothing.
use Rattle.tables.proofs.masks_hold.Given as goal

abbrev pub decreases-loop-left : goal.decreases-loop-left
decreases-loop-left l = l.left

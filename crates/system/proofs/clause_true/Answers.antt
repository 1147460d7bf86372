-- `system::clause_true` meets its contract: the masks of the pair decide, or those of the wires. Assumes nothing.
use Rattle.system.specs.System.{four_true}
use Rattle.system.proofs.Refusals.{or_first, or_next}
use Rattle.system.proofs.clause_true.Goals as goal

pub returns-then-masks_true : goal.returns-then-masks_true
unfolding four_true
returns-then-masks_true c = or_first _ c.masks_true.ensures c.if-masks_true.true

pub returns-else-masks_true : goal.returns-else-masks_true
unfolding four_true
returns-else-masks_true c = or_next c.masks_true.ensures c.if-masks_true.false c.masks_true-else-masks_true.ensures

-- `Limits::wrong_mask` meets its contract: the state's half decides, or the later one. Assumes nothing.
use Rattle.system.specs.System.{wrong_mask}
use Rattle.system.proofs.Refusals.{or_first, or_next}
use Rattle.system.proofs.Limits.wrong_mask.Goals as goal

pub returns-then-reaches : goal.returns-then-reaches
unfolding wrong_mask
returns-then-reaches c = or_first _ c.reaches.ensures c.if-reaches.true

pub returns-else-reaches : goal.returns-else-reaches
unfolding wrong_mask
returns-else-reaches c = or_next c.reaches.ensures c.if-reaches.false c.reaches-else-reaches.ensures

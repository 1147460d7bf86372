-- `Limits::wrong_clause` meets its contract: each mask is tested in its turn, and the first that is wrong decides. Assumes nothing.
use Rattle.system.specs.System.{wrong_clause}
use Rattle.system.proofs.Refusals.{or_first, or_next, or_second, or_third}
use Rattle.system.proofs.Limits.wrong_clause.Goals as goal

pub returns-then-wrong_mask : goal.returns-then-wrong_mask
unfolding wrong_clause
returns-then-wrong_mask c = or_first _ c.wrong_mask.ensures c.if-wrong_mask.true

pub returns-then-wrong_mask-2 : goal.returns-then-wrong_mask-2
unfolding wrong_clause
returns-then-wrong_mask-2 c =
    or_second c.wrong_mask.ensures c.if-wrong_mask.false c.wrong_mask-else-wrong_mask.ensures _ c.if-wrong_mask-2.true

pub returns-then-reaches : goal.returns-then-reaches
unfolding wrong_clause
returns-then-reaches c =
    or_third c.wrong_mask.ensures c.if-wrong_mask.false c.wrong_mask-else-wrong_mask.ensures c.if-wrong_mask-2.false
    (or_first _ c.reaches.ensures c.if-reaches.true)

pub returns-else-reaches : goal.returns-else-reaches
unfolding wrong_clause
returns-else-reaches c =
    or_third c.wrong_mask.ensures c.if-wrong_mask.false c.wrong_mask-else-wrong_mask.ensures c.if-wrong_mask-2.false
    (or_next c.reaches.ensures c.if-reaches.false c.reaches-else-reaches.ensures)

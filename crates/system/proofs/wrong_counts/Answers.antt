-- `system::wrong_counts` meets its contract: each list is tested by `wrong_count`, and the first that is wrong decides. Assumes nothing.
use Rattle.system.proofs.Refusals.{or_first, or_second, or_third}
use Rattle.system.proofs.wrong_counts.Goals as goal

pub returns-then-wrong_count : goal.returns-then-wrong_count
returns-then-wrong_count c = or_first _ c.wrong_count.ensures c.if-wrong_count.true

pub returns-then-wrong_count-2 : goal.returns-then-wrong_count-2
returns-then-wrong_count-2 c =
    or_second c.wrong_count.ensures c.if-wrong_count.false c.wrong_count-else-wrong_count.ensures _ c.if-wrong_count-2.true

pub returns-else-wrong_count-2 : goal.returns-else-wrong_count-2
returns-else-wrong_count-2 c =
    or_third c.wrong_count.ensures c.if-wrong_count.false c.wrong_count-else-wrong_count.ensures c.if-wrong_count-2.false c.wrong_count-else-wrong_count-2.ensures

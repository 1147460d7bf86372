-- `part::put_row` meets its contract: within the store one row is set, and past its end nothing is. Assumes nothing.
use Rattle.aiger.proofs.Threes.{puts_row, puts_none}
use Rattle.aiger.proofs.part.put_row.Goals as goal

pub returns-then-at-rows : goal.returns-then-at-rows
returns-then-at-rows c = puts_row _ _ _ c.if-at-rows.true

pub returns-else-at-rows : goal.returns-else-at-rows
returns-else-at-rows c = puts_none _ _ _ c.if-at-rows.false

-- `house::read_into` meets its contract: the lines are taken into cleared stores, and after a refusal these are cleared again. Assumes nothing.
use Rattle.house.proofs.Reading.{cleared_lie, reads_file, reads_refused}
use Rattle.house.proofs.read_into.Goals as goal

pub take_lines-requires : goal.take_lines-requires
take_lines-requires c = cleared_lie _ _ c.clear.ensures.lists

pub returns-in-Ok-clause-lists : goal.returns-in-Ok-clause-lists
returns-in-Ok-clause-lists c = reads_file _ _ _ _ c.clear.ensures.lists _ c.in-Ok.ensures.lists

pub returns-in-Err-clause-lists : goal.returns-in-Err-clause-lists
returns-in-Err-clause-lists c = reads_refused _ _ _ _ c.clear.ensures.lists _ c.in-Err.ensures.lists _ c.clear-in-Err.ensures.lists

-- `aiger::enter_start` meets its contract: what was written, and zeros behind it. Assumes nothing.
use Rattle.aiger.specs.Inner.{start_list}
use Rattle.aiger.proofs.Entering.{enters}
use Rattle.aiger.proofs.clauses.enter_start.Goals as goal

pub returns : goal.returns
unfolding start_list
returns c = enters c.put_start-end.ensures c.clear_behind.ensures

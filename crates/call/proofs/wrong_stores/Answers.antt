-- `call::wrong_stores` meets its contract: each test is one of the definition's. Assumes nothing.
use borrow.Author.Rules.{rules}
use Rattle.call.specs.Call.{wrong_stores}
use Rattle.call.proofs.wrong_stores.Goals as goal

pub returns-then-states-levels : goal.returns-then-states-levels
unfolding wrong_stores
returns-then-states-levels c = search rules

pub returns-then-states-gt-MOST_STORED : goal.returns-then-states-gt-MOST_STORED
unfolding wrong_stores
returns-then-states-gt-MOST_STORED c = search rules

pub returns : goal.returns
unfolding wrong_stores
returns c = search rules

-- `house::enter::one_more` meets its contract: each return is a case of the definition. Assumes nothing.
use native.Mathlib.Omega.{arith}
use Rattle.house.proofs.Entering.{more_last, more_full, more_on}
use Rattle.house.proofs.enter.one_more.Goals as goal

pub returns-then-r-ge-MOST_CLAUSE_LINES : goal.returns-then-r-ge-MOST_CLAUSE_LINES
returns-then-r-ge-MOST_CLAUSE_LINES c = more_last _ _ _ _ _ _ (omega arith)

pub returns-then-not-room : goal.returns-then-not-room
returns-then-not-room c = more_full _ _ _ _ _ _ (omega arith) c.if-not-room.true

pub returns : goal.returns
returns c = more_on _ _ _ _ _ _ (omega arith) c.if-not-room.false

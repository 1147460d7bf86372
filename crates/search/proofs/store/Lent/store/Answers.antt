-- `Lent::store` meets its contract: the entry of the state, if it has one, says whether its level is raised in place or it is stored
-- behind the others. Assumes nothing.
use native.Mathlib.Omega.{arith}
use Rattle.search.proofs.Keeping.{kept_raised, kept_new, kept_full}
use Rattle.search.proofs.store.Lent.store.Goals as goal

pub returns-in-Some-clause-kept_as : goal.returns-in-Some-clause-kept_as
returns-in-Some-clause-kept_as c =
    let w = c.in-Some.ensures in
    kept_raised _ _ _ _ _ _ w.0 (omega arith) (omega arith) w.1

pub returns-then-count-self-clause-kept_as : goal.returns-then-count-self-clause-kept_as
returns-then-count-self-clause-kept_as c =
    kept_new _ _ _ _ _ _ c.in_default.ensures (omega arith) (omega arith) (omega arith) (omega arith)

pub returns-clause-kept_as : goal.returns-clause-kept_as
returns-clause-kept_as c =
    kept_full _ _ _ _ _ _ c.in_default.ensures (omega arith) (omega arith) (omega arith) (omega arith)

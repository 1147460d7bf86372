-- `Lent::blocked` meets its contract: the state is stored or raised by `store`, and then the duty is settled by `settled`; without room
-- the search ends. Assumes nothing.
use native.Mathlib.Numerals.{add-one}
use Rattle.call.specs.Promise.{stores}
use Rattle.search.proofs.Keeping.{kept_fits, kept_not}
use Rattle.search.proofs.store.Lent.blocked.Goals as goal

pub returns-in-Some-clause-moves : goal.returns-in-Some-clause-moves
returns-in-Some-clause-moves c =
    let w = rw add-one at c.in-Some.ensures.kept_as in
    rw (c.store.ensures.path) (kept_fits _ _ _ _ _ _ _ _ w.fit w.store (c.settled.ensures (stores _ _ _)))

pub returns-in-None-clause-moves : goal.returns-in-None-clause-moves
returns-in-None-clause-moves c =
    let w = rw add-one at c.in-None.ensures.kept_as in
    kept_not _ _ _ _ _ _ w

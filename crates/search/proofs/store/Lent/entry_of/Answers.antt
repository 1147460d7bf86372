-- `Lent::entry_of` meets its contract: the first place of the state among the stored. Assumes nothing.
use native.Mathlib.Omega.{arith}
use Rattle.search.proofs.Walks.{front_first}
use Rattle.search.proofs.store.Lent.entry_of.Goals as goal

pub returns : goal.returns
returns c = front_first _ _ _ (omega arith) _ c.place_of.ensures

-- `Lent::next_at` meets its contract: the first place among the levels from j on, counted from j. Assumes nothing.
use mathlib.Core.Path.{sym}
use Rattle.search.proofs.Walks.{first_some, first_none}
use Rattle.search.proofs.store.Lent.next_at.Goals as goal

pub returns-in_err-further : goal.returns-in_err-further
returns-in_err-further c = rw c.from_residual.ensures (first_none _ _ _ _ c.requires.within c.requires.from (sym c.in_err-further.ensures))

pub returns : goal.returns
returns c = first_some _ _ _ _ c.requires.within c.requires.from _ (sym c.in_ok-further.ensures)

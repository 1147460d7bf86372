-- `Lent::finish` meets its contract: each store is cleared behind its front, the levels have none. Assumes nothing.
use mathlib.Core.Path.{◌∙◌}
use Rattle.stores.proofs.Over.{over_take, over_none}
use Rattle.call.specs.Call.{leaves}
use Rattle.search.proofs.Closing.{stores_same}
use Rattle.search.proofs.store.Lent.finish.Goals as goal

pub returns-clause-left : goal.returns-clause-left
unfolding leaves
returns-clause-left c =
    stores_same
    (c.clear_behind.ensures ∙ over_take _ _ c.requires.states)
    (c.clear.ensures ∙ over_none _)
    (c.clear_behind-2.ensures ∙ over_take _ _ c.requires.path)

-- `search::turn::start_state` meets its contract: the lists in front of nothing are empty. Assumes nothing.
use mathlib.Core.Path.{◌∙◌}
use Rattle.search.proofs.Opening.{start_asked}
use Rattle.search.proofs.turn.start_state.Goals as goal

pub returns : goal.returns
returns c = c.bad_in.ensures ∙ start_asked _ _ _

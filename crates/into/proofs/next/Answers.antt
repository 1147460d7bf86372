-- `into::next` meets its contract: R(1) with nothing stored is every state. Assumes nothing.
use mathlib.Core.Path.{◌∙◌}
use Rattle.question.proofs.Listed.{step_anywhere}
use Rattle.into.proofs.next.Goals as goal

pub returns : goal.returns
returns c = c.step_in.ensures ∙ step_anywhere _ _ _ _ _ _ _ c.requires

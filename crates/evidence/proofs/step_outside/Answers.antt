-- `evidence::step_outside` meets its contract: with no level beside the listed states, R(1) is what lies outside the list. Assumes nothing.
use mathlib.Core.Path.{◌∙◌}
use Rattle.evidence.specs.Check.{outside}
use Rattle.question.proofs.Listed.{step_outside}
use Rattle.evidence.proofs.step_outside.Goals as goal

pub returns : goal.returns
unfolding outside
returns c = c.step_in.ensures ∙ step_outside _ _ _ _ _ _ c.requires _

-- `evidence::bad_outside` meets its contract: with no level beside the listed states, R(1) is what lies outside the list. Assumes nothing.
use mathlib.Core.Path.{◌∙◌}
use Rattle.evidence.specs.Check.{outside}
use Rattle.question.proofs.Listed.{bad_outside}
use Rattle.evidence.proofs.bad_outside.Goals as goal

pub returns : goal.returns
unfolding outside
returns c = c.bad_in.ensures ∙ bad_outside _ _ _ _ _ _ c.requires

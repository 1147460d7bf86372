-- `question::bad_in` meets its contract: a bad state is one that steps to state 0 by the list of bad, which is asked of the state alone. Assumes
-- nothing.
use mathlib.Core.Path.{sym, ◌∙◌}
use Rattle.question.proofs.Conditions.{bad_step}
use Rattle.question.proofs.bad_in.Goals as goal

pub returns : goal.returns
returns c = c.step_in.ensures ∙ sym (bad_step _ _ _ _ _ _ _ _)

use mathlib.Core.Path.{sym, ap, ◌∙◌}
use native.Mathlib.Omega.{arith}
use Rattle.question.specs.Question.{answered}
use Rattle.evidence.proofs.Excluding.{closed_stops, closed_passes, closed_ends}
use Rattle.evidence.proofs.closed.Goals as goal

pub returns-in-Some : goal.returns-in-Some
returns-in-Some c =
    sym (c.loop-t.invariant.1
    ∙ closed_stops _ _ _ _ _ _ c.loop-t-test.true _ (sym c.step_outside-answer.ensures ∙ ap answered c.in-Some.is))

pub loop-t-preserved : goal.loop-t-preserved
loop-t-preserved c =
    let inv = c.loop-t.invariant in (
      omega (arith, inv.0),
      inv.1 ∙ closed_passes _ _ _ _ _ _ c.loop-t-test.true (sym c.step_outside-answer.ensures ∙ ap answered c.in_default.is),
    )

pub returns : goal.returns
returns c = sym (c.loop-t.invariant.1 ∙ closed_ends _ _ _ _ c.loop-t.t-index _ (omega arith))

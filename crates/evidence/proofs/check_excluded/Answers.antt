-- `evidence::check_excluded` meets its contract: each return is a case of the definition, which the promise follows from. Assumes nothing.
use mathlib.Core.Path.{sym, ap, ◌∙◌}
use Rattle.question.specs.Question.{answered}
use Rattle.std.proofs.lemmas.Result.{err_from_is_err_and}
use Rattle.evidence.specs.Check.{excluded_states}
use Rattle.evidence.proofs.Judging.{number_checked, excluded_promised, refused_small}
use Rattle.evidence.proofs.Cases.{excluded_start, excluded_bad, excluded_closed}
use Rattle.evidence.proofs.check_excluded.Goals as goal

pub returns-in_err-refusal : goal.returns-in_err-refusal
returns-in_err-refusal c =
    let p = err_from_is_err_and c.from_residual.result c.from_residual.ensures.1 in
    rw (p.1, p.2) (excluded_promised _ _ _ (number_checked _ _ excluded_states _ c.in_err-refusal.ensures))

pub returns-then-not-start_free : goal.returns-then-not-start_free
returns-then-not-start_free c =
    excluded_start _ _ (sym c.in_ok-refusal.ensures) (sym c.start_free.ensures ∙ c.if-not-start_free.true)

pub bad_outside-answer-requires : goal.bad_outside-answer-requires
bad_outside-answer-requires c =
    refused_small _ _ (sym c.in_ok-refusal.ensures)

pub closed-requires : goal.closed-requires
closed-requires c =
    refused_small _ _ (sym c.in_ok-refusal.ensures)

pub returns-in-Some : goal.returns-in-Some
returns-in-Some c =
    excluded_bad _ _ (sym c.in_ok-refusal.ensures)
    (sym c.start_free.ensures ∙ c.if-not-start_free.false)
    _ (sym c.bad_outside-answer.ensures ∙ ap answered c.in-Some.is)

pub returns : goal.returns
returns c =
    excluded_closed _ _ (sym c.in_ok-refusal.ensures)
    (sym c.start_free.ensures ∙ c.if-not-start_free.false)
    _ (sym c.bad_outside-answer.ensures ∙ ap answered c.in_default.is)
    c.closed.ensures

-- `evidence::check_path` meets its contract: each return is a case of the definition, which the promise follows from. Assumes nothing.
use mathlib.Core.Path.{sym, ◌∙◌}
use native.Mathlib.Omega.{arith}
use Rattle.std.proofs.lemmas.Result.{err_from_is_err_and}
use Rattle.evidence.specs.Check.{path_of}
use Rattle.evidence.proofs.Judging.{number_checked, path_promised, refused_below}
use Rattle.evidence.proofs.Cases.{path_of_none, path_of_others, path_astray, path_to_bad}
use Rattle.evidence.proofs.check_path.Goals as goal

pub returns-in_err-refusal : goal.returns-in_err-refusal
returns-in_err-refusal c =
    let p = err_from_is_err_and c.from_residual.result c.from_residual.ensures.1 in
    rw (p.1, p.2) (path_promised _ _ _ (number_checked _ _ path_of _ c.in_err-refusal.ensures))

pub returns-then-path-eq0 : goal.returns-then-path-eq0
returns-then-path-eq0 c =
    path_of_none _ _ (sym c.in_ok-refusal.ensures) c.if-path-eq0.true

pub returns-then-not-is_start : goal.returns-then-not-is_start
returns-then-not-is_start c =
    path_of_others _ _ (sym c.in_ok-refusal.ensures) (omega arith) (sym c.is_start.ensures ∙ c.if-not-is_start.true)

pub leads_on-requires : goal.leads_on-requires
leads_on-requires c =
    (omega arith, refused_below _ _ (sym c.in_ok-refusal.ensures))

pub returns-then-leads_on : goal.returns-then-leads_on
returns-then-leads_on c =
    path_to_bad _ _ (sym c.in_ok-refusal.ensures) (omega arith)
    (sym c.is_start.ensures ∙ c.if-not-is_start.false)
    (sym c.leads_on.ensures ∙ c.if-leads_on.true)

pub returns : goal.returns
returns c =
    path_astray _ _ (sym c.in_ok-refusal.ensures) (omega arith)
    (sym c.is_start.ensures ∙ c.if-not-is_start.false)
    (sym c.leads_on.ensures ∙ c.if-leads_on.false)

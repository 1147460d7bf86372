-- `evidence::refusal` meets its contract: the system's own refusals come first; past them n is at most 32. Assumes nothing.
use mathlib.Core.Bool.{true, false}
use mathlib.Core.Path.{sym, ◌∙◌}
use Rattle.std.proofs.lemmas.Result.{err_from_is_err_and}
use Rattle.system.proofs.Refusals.{size_right, refusal_none}
use Rattle.evidence.proofs.Judging.{number_refused, refused_states}
use Rattle.evidence.proofs.refusal.Goals as goal

pub returns-in_err-refusal : goal.returns-in_err-refusal
returns-in_err-refusal c =
    let p = err_from_is_err_and c.from_residual.result c.from_residual.ensures.1 in
    rw (p.1, p.2) (number_refused _ _ _ c.in_err-refusal.ensures)

pub all_below-requires : goal.all_below-requires
all_below-requires c = (size_right _ _ (refusal_none _ (sym c.in_ok-refusal.ensures)).0).1

pub returns-then-all_below : goal.returns-then-all_below
returns-then-all_below c = sym (refused_states _ _ true (sym c.in_ok-refusal.ensures) (sym c.all_below.ensures ∙ c.if-all_below.true))

pub returns-else-all_below : goal.returns-else-all_below
returns-else-all_below c = sym (refused_states _ _ false (sym c.in_ok-refusal.ensures) (sym c.all_below.ensures ∙ c.if-all_below.false))

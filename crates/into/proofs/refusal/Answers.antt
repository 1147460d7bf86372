-- `into::refusal` meets its contract: the system's own refusals come first, and past them the given state is held to 2^n. Assumes nothing.
use mathlib.Core.Path.{sym}
use native.Mathlib.Omega.{arith}
use Rattle.std.proofs.lemmas.Result.{err_from_is_err_and}
use Rattle.into.proofs.Telling.{number_refused, state_taken, state_refused}
use Rattle.into.proofs.refusal.Goals as goal

pub returns-in_err-refusal : goal.returns-in_err-refusal
returns-in_err-refusal c =
    let p = err_from_is_err_and c.from_residual.result c.from_residual.ensures.1 in
    rw (p.1, p.2) (number_refused _ _ _ c.in_err-refusal.ensures)

pub returns-then-state-power : goal.returns-then-state-power
returns-then-state-power c = state_taken _ _ _ (sym c.in_ok-refusal.ensures) c.power.ensures (omega arith)

pub returns-else-state-power : goal.returns-else-state-power
returns-else-state-power c = state_refused _ _ _ (sym c.in_ok-refusal.ensures) c.power.ensures (omega arith)

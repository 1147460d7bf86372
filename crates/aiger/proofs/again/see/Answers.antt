-- `again::see` meets its contract: three runs, each watched from where the one before it ends. Assumes nothing.
use Rattle.std.proofs.Common.{rules}
use Rattle.aiger.proofs.Seeing.{unseen_outputs, unseen_bads, unseen_constraints, sees}
use Rattle.aiger.proofs.again.see.Goals as goal

pub returns-in_err-output : goal.returns-in_err-output
returns-in_err-output c = rw c.from_residual.ensures (unseen_outputs _ _ _ _ _ c.in_err-output.ensures)

pub returns-in_err-bad : goal.returns-in_err-bad
returns-in_err-bad c =
    rw c.from_residual-in_err-bad.ensures (unseen_bads _ _ _ _ _ c.in_ok-output.ensures c.in_err-bad.ensures)

pub returns-in_err-watch : goal.returns-in_err-watch
returns-in_err-watch c =
    rw c.from_residual-in_err-watch.ensures
    (unseen_constraints _ _ _ _ _ c.in_ok-output.ensures c.in_ok-bad.ensures c.in_err-watch.ensures)

pub returns-then-h-eq0 : goal.returns-then-h-eq0
returns-then-h-eq0 c = sees _ _ _ _ _ c.in_ok-output.ensures c.in_ok-bad.ensures c.in_ok-watch.ensures _ (search rules)

pub returns-else-h-eq0 : goal.returns-else-h-eq0
returns-else-h-eq0 c = sees _ _ _ _ _ c.in_ok-output.ensures c.in_ok-bad.ensures c.in_ok-watch.ensures _ (search rules)

-- `house::enter::take_line` meets its contract: what the line says, by itself, was entered. Assumes nothing.
use mathlib.Core.Path.{refl}
use Rattle.std.proofs.lemmas.Result.{err_from_is_err_and}
use Rattle.house.proofs.Entering.{line_wrong}
use Rattle.house.proofs.Taking.{line_entered}
use Rattle.house.proofs.enter.take_line.Goals as goal

pub returns-clause-lists : goal.returns-clause-lists
returns-clause-lists c = line_entered _ c.args.r _ _ _ _ c.in_ok-said.ensures c.enter.ensures.lists

pub returns-in_err-said-clause-lists : goal.returns-in_err-said-clause-lists
returns-in_err-said-clause-lists c =
    let p = err_from_is_err_and c.from_residual.result c.from_residual.ensures.1 in
    rw (p.1, p.2) (line_entered _ c.args.r _ _ _ _ c.in_err-said.ensures (line_wrong c.requires _ refl))

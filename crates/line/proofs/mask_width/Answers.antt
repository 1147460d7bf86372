-- `line::mask_width` meets its contract: it tests what the definition tests. Assumes nothing.
use mathlib.Core.Path.{sym}
use Rattle.line.proofs.Placing.{width_step, width_other}
use Rattle.line.proofs.mask_width.Goals as goal

pub returns-then-kind-eq2 : goal.returns-then-kind-eq2
returns-then-kind-eq2 c = sym (width_step _ c.if-kind-eq2.true)

pub returns-else-kind-eq2 : goal.returns-else-kind-eq2
returns-else-kind-eq2 c = sym (width_other _ c.if-kind-eq2.false)

-- `part::Form::has` meets its contract: the definition's tests, in their order. Assumes nothing.
use Rattle.std.proofs.Common.{rules}
use Rattle.aiger.specs.Inner.{count_fits}
use Rattle.aiger.proofs.part.Form.has.Goals as goal

pub returns-then-count-self : goal.returns-then-count-self
unfolding count_fits
returns-then-count-self c = search rules

pub returns-then-self : goal.returns-then-self
unfolding count_fits
returns-then-self c = search rules

pub returns-else-self : goal.returns-else-self
unfolding count_fits
returns-else-self c = search rules

-- `aiger::too_few` meets its contract. Assumes nothing.
use mathlib.Core.Path.{refl}
use Rattle.aiger.specs.Inner.{too_few}
use Rattle.aiger.proofs.too_few.Goals as goal

pub returns : goal.returns
unfolding too_few
returns c = refl

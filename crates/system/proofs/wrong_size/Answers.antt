-- `system::wrong_size` meets its contract: it tests what the definition tests, in the same order. Assumes nothing.
use mathlib.Core.Path.{refl}
use borrow.Author.Tests.{eq-eqb, ne_eqb, lt-ltb, le-ltb}
use Rattle.system.specs.System.{wrong_size}
use Rattle.system.proofs.Refusals.{or_first, or_second, or_third}
use Rattle.system.proofs.wrong_size.Goals as goal

pub returns-then-n-eq0 : goal.returns-then-n-eq0
unfolding wrong_size
returns-then-n-eq0 c = or_first _ refl (eq-eqb _ _ c.if-n-eq0.true)

pub returns-then-n-gt32 : goal.returns-then-n-gt32
unfolding wrong_size
returns-then-n-gt32 c = or_second refl (ne_eqb _ _ c.if-n-eq0.false) refl _ (lt-ltb _ _ c.if-n-gt32.true)

pub returns-else-n-gt32 : goal.returns-else-n-gt32
unfolding wrong_size
returns-else-n-gt32 c = or_third refl (ne_eqb _ _ c.if-n-eq0.false) refl (le-ltb _ _ c.if-n-gt32.false) refl

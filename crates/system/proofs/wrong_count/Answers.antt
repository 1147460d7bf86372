-- `system::wrong_count` meets its contract: it tests what the definition tests, in the same order. Assumes nothing.
use mathlib.Core.Path.{refl, ap}
use mathlib.Core.Bool.{not}
use borrow.Author.Tests.{eq-eqb, ne_eqb}
use Rattle.system.specs.System.{wrong_count}
use Rattle.system.proofs.Refusals.{or_first, or_next}
use Rattle.system.proofs.wrong_count.Goals as goal

pub returns-then-list-ne0 : goal.returns-then-list-ne0
unfolding wrong_count
returns-then-list-ne0 c = or_first _ refl (ap not (ne_eqb _ _ c.if-list-ne0.true))

pub returns-else-list-ne0 : goal.returns-else-list-ne0
unfolding wrong_count
returns-else-list-ne0 c = or_next refl (ap not (eq-eqb _ _ c.if-list-ne0.false)) refl

-- `masks::is_power` meets its contract: a word has one 1 alone exactly if it is its lowest. Assumes nothing.
use mathlib.Core.Path.{◌∙◌, sym}
use mathlib.Core.Bool.{true≢false}
use native.Mathlib.Omega.{arith}
use borrow.Author.Tests.{eqb-true, eq-eqb}
use lib.Pow.{pow_pos}
use Rattle.masks.proofs.OneBit.{shift_one}
use Rattle.masks.proofs.Words.{power_lowest, lowest_low, lowest_power}
use Rattle.masks.proofs.is_power.Goals as goal

pub returns-then-x-eq0 : goal.returns-then-x-eq0
returns-then-x-eq0 c = (λ e. absurd (true≢false (sym e)), λ o. absurd (omega (arith, o.is, pow_pos o.k)))

pub overflow_shl-result : goal.overflow_shl-result
overflow_shl-result c = lowest_low 64 _ c.if-x-eq0.false (omega arith)

pub overflow_cast-result : goal.overflow_cast-result
overflow_cast-result c = omega (arith, overflow_shl-result c)

pub returns : goal.returns
returns c =
    let x = c.args.x in
    let l = lowest_low 64 x c.if-x-eq0.false (omega arith) in (
      λ e. lowest_power 64 x c.if-x-eq0.false (omega arith) (eqb-true _ _ e ∙ shift_one 64 _ l),
      λ o. eq-eqb _ _ (power_lowest 64 x o ∙ sym (shift_one 64 _ l)),
    )

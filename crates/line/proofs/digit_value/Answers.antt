-- `line::digit_value` meets its contract: it compares as the definition does. Assumes nothing.
use mathlib.Core.Path.{sym}
use mathlib.Core.Logic.{inl, inr, ⊎_elim}
use native.Mathlib.Omega.{arith}
use Rattle.line.proofs.Digits.{digit_number, digit_letter, digit_none}
use Rattle.line.proofs.digit_value.Goals as goal

pub returns-then-c-le57 : goal.returns-then-c-le57
returns-then-c-le57 c = sym (digit_number _ c.if-c-ge48.true c.if-c-le57.true)

pub returns-then-c-le70 : goal.returns-then-c-le70
returns-then-c-le70 c = sym (digit_letter _ c.if-c-ge65.true c.if-c-le70.true)

pub returns : goal.returns
returns c =
    sym (digit_none _
    (⊎_elim (λ t. inr t.1) (λ t. inl (omega arith)) c.else-c-ge48.either)
    (⊎_elim (λ t. inr t.1) (λ t. inl (omega arith)) c.else-c-ge65.either))

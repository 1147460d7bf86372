-- `line::byte_at` meets its contract. A digit has a value of at most 16, so the byte fits. Assumes nothing.
use native.Mathlib.Omega.{arith}
use Rattle.line.specs.Inner.{byte_at}
use Rattle.line.proofs.Digits.{digit_most}
use Rattle.line.proofs.byte_at.Goals as goal

pub overflow_mul-result : goal.overflow_mul-result
overflow_mul-result c = record { fits = omega (arith, digit_most _ c.digit_value.ensures) }

pub overflow_add-result : goal.overflow_add-result
overflow_add-result c =
    record { fits = omega (arith, digit_most _ c.digit_value.ensures, digit_most _ c.digit_value-2.ensures) }

pub returns : goal.returns
unfolding byte_at
returns c = omega (arith, c.digit_value.ensures, c.digit_value-2.ensures)

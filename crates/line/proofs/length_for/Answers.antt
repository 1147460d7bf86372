-- `line::length_for` meets its contract: it tests what the definition tests, in the same order. A mask has at most eight bytes.
-- Assumes nothing.
use mathlib.Core.Path.{sym}
use native.Mathlib.Omega.{arith}
use Rattle.line.proofs.Placing.{width_most, length_size, length_count, length_clause}
use Rattle.line.proofs.length_for.Goals as goal

pub returns-then-kind-eq0 : goal.returns-then-kind-eq0
returns-then-kind-eq0 c = sym (length_size _ c.if-kind-eq0.true)

pub returns-then-kind-eq15 : goal.returns-then-kind-eq15
returns-then-kind-eq15 c = sym (length_count _ c.if-kind-eq15.true)

pub overflow_mul-result : goal.overflow_mul-result
overflow_mul-result c = record { fits = omega (arith, width_most _ c.mask_width.ensures) }

pub overflow_add-result : goal.overflow_add-result
overflow_add-result c = record { fits = omega (arith, width_most _ c.mask_width.ensures) }

pub returns : goal.returns
returns c = omega (arith, c.mask_width.ensures, length_clause _ c.if-kind-eq0.false c.if-kind-eq15.false)

use mathlib.Core.Path.{refl, ◌∙◌}
use native.Mathlib.Omega.{arith}
use lib.Seq.{take_all}
use Rattle.text.proofs.Laying.{writes_none, writes_length}
use Rattle.line.specs.Text.{sum}
use Rattle.answer.specs.Output.{digits}
use Rattle.answer.proofs.Lines.{digits_end, sum_more, line_more, line_ended}
use borrow.Author.Rules.{rules}
use Rattle.answer.proofs.put_line.Goals as goal

pub loop-byte-init : goal.loop-byte-init
unfolding sum digits
loop-byte-init c = (search rules, search rules, refl, writes_none _ _)

pub put_digits-next-requires : goal.put_digits-next-requires
put_digits-next-requires c = omega (arith, c.loop-byte.invariant.0)

pub overflow_cast-sum : goal.overflow_cast-sum
overflow_cast-sum c = omega (arith, c.type_inv.frame c.loop-byte.byte-index)

pub overflow_add-sum : goal.overflow_add-sum
overflow_add-sum c =
    let l = c.loop-byte in
    omega (arith, l.invariant.1, c.type_inv.frame l.byte-index)

pub loop-byte-preserved : goal.loop-byte-preserved
loop-byte-preserved c =
    let l = c.loop-byte in (
      omega (arith, digits_end _ c.put_digits-next.ensures),
      omega (arith, l.invariant.1, c.type_inv.frame l.byte-index),
      sum_more _ _ c.loop-byte-test.true _ l.invariant.2,
      line_more _ _ c.loop-byte-test.true l.invariant.3 c.put_digits-next.ensures,
    )

pub put_digits-next-requires-2 : goal.put_digits-next-requires-2
put_digits-next-requires-2 c = omega (arith, c.loop-byte.invariant.0)

pub put-requires : goal.put-requires
put-requires c = omega (arith, digits_end _ c.put_digits-next-2.ensures)

pub shape_of-out : goal.shape_of-out
shape_of-out c =
    let inv = c.loop-byte.invariant in
    writes_length c.put.ensures ∙ (writes_length c.put_digits-next-2.ensures ∙ writes_length inv.3)

pub returns : goal.returns
returns c =
    let inv = c.loop-byte.invariant in
    line_ended _ (take_all _ _ (omega arith)) inv.2 inv.3 c.put_digits-next-2.ensures c.put.ensures

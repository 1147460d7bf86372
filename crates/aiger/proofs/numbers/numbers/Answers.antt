use mathlib.Core.Path.{refl, sym, ◌∙◌}
use Rattle.std.proofs.Common.{arith, get_or}
use Rattle.aiger.proofs.Numbering.{digit_same, walked_first, walked_past, walked_digit, walked_huge, walked_early, walked_full, walked_blank, walked_feed, walked_other}
use Rattle.aiger.proofs.numbers.numbers.Goals as goal
use Rattle.aiger.proofs.numbers.numbers.Goals.{else-c-eq10-via-then-c-eq10+else-j-line, else-c-eq10-via-else-c-eq10, then-is_ascii_digit+else-value-ge-LIMIT, else-is_ascii_digit+in_ok-value+else-count-into+else-c-eq10+else-c-ne32}

pub loop-j-init : goal.loop-j-init
loop-j-init c = walked_first _ _

pub overflow_mul-value : goal.overflow_mul-value
overflow_mul-value c = omega (arith, c.unwrap_or.ensures, c.loop-j.invariant.small)

pub overflow_add-value : goal.overflow_add-value
overflow_add-value c = omega (arith, c.unwrap_or.ensures, c.loop-j.invariant.small)

pub returns-then-value-ge-LIMIT : goal.returns-then-value-ge-LIMIT
returns-then-value-ge-LIMIT c =
    let digit = sym (digit_same _) ∙ sym c.is_ascii_digit.ensures.value ∙ c.if-is_ascii_digit.true in
    walked_huge c.loop-j-test.true c.loop-j.invariant digit (rw c.unwrap_or.ensures at c.if-value-ge-LIMIT.true)

pub returns-in_err-value : goal.returns-in_err-value
returns-in_err-value c =
    let other = sym (digit_same _) ∙ sym c.is_ascii_digit.ensures.value ∙ c.if-is_ascii_digit.false in
    rw c.from_residual.ensures (walked_early c.loop-j-test.true c.loop-j.invariant other (rw c.in_err-value.was))

pub returns-then-count-into : goal.returns-then-count-into
returns-then-count-into c =
    let other = sym (digit_same _) ∙ sym c.is_ascii_digit.ensures.value ∙ c.if-is_ascii_digit.false in
    let walked = rw c.in_ok-value.was at c.loop-j.invariant in
    walked_full c.loop-j-test.true walked other refl c.if-count-into.true

pub bounds-into-count : goal.bounds-into-count
bounds-into-count c = omega (arith, c.loop-j.invariant.fits)

pub returns-then-j-line : goal.returns-then-j-line
returns-then-j-line c =
    let other = sym (digit_same _) ∙ sym c.is_ascii_digit.ensures.value ∙ c.if-is_ascii_digit.false in
    let walked = rw c.in_ok-value.was at c.loop-j.invariant in
    walked_feed c.loop-j-test.true walked other refl c.if-count-into.false c.if-c-eq10.true c.if-j-line.true

pub returns-then-c-ne32 : goal.returns-then-c-ne32
returns-then-c-ne32 c =
    let other = sym (digit_same _) ∙ sym c.is_ascii_digit.ensures.value ∙ c.if-is_ascii_digit.false in
    let walked = rw c.in_ok-value.was at c.loop-j.invariant in
    walked_other c.loop-j-test.true walked other refl c.if-count-into.false c.if-c-ne32.true
    (λ feed last.
    elim c.else-c-eq10.branch [
      | else-c-eq10-via-then-c-eq10+else-j-line w ↦ w.if-j-line.false last
      | else-c-eq10-via-else-c-eq10 w ↦ w.if-c-eq10.false feed
    ])

pub loop-j-preserved : goal.loop-j-preserved
loop-j-preserved c =
    let test = sym (digit_same (get_or c.args.line.now c.loop-j.j 0)) ∙ sym c.is_ascii_digit.ensures.value in
    elim c.if-is_ascii_digit.branch [
      | then-is_ascii_digit+else-value-ge-LIMIT w ↦
          rw (w.into-is, w.count-is, w.begun-is, w.unwrap_or.ensures)
          (walked_digit c.loop-j-test.true c.loop-j.invariant (test ∙ w.if-is_ascii_digit.true) (rw w.unwrap_or.ensures at w.if-value-ge-LIMIT.false))
      | else-is_ascii_digit+in_ok-value+else-count-into+else-c-eq10+else-c-ne32 w ↦
          rw (w.into-is, w.count-is, w.begun-is)
          (walked_blank c.loop-j-test.true (rw w.in_ok-value.was at c.loop-j.invariant) (test ∙ w.if-is_ascii_digit.false) refl w.if-count-into.false
          w.if-c-ne32.false)
    ]

pub returns : goal.returns
returns c = walked_past c.loop-j.invariant c.loop-j-test.false

use native.Mathlib.Omega.{arith}
use Rattle.line.proofs.Digits.{digits_more}
use Rattle.line.proofs.Malformed.{last_byte, inner_length, inner_byte, inner_digits, no_frame, a_frame}
use Rattle.line.proofs.frame_length.Goals as goal
use Rattle.line.proofs.frame_length.Goals.{then-len-eq0-via-then-len-eq0, then-len-eq0-via-else-len-eq0+then-len-gt-MOST_DIGITS, then-len-eq0-via-else-len-eq0+else-len-gt-MOST_DIGITS+then-len-ne0}

pub returns-in_default : goal.returns-in_default
returns-in_default c = no_frame _ (λ frame w pos most. omega (arith, w.size))

pub returns-then-last-ne10 : goal.returns-then-last-ne10
returns-then-last-ne10 c = no_frame _ (λ frame w pos most. c.if-last-ne10.true (last_byte _ frame w))

pub returns-then-len-eq0 : goal.returns-then-len-eq0
returns-then-len-eq0 c =
    no_frame _
    (λ frame w pos most.
    elim c.then-len-eq0.branch [
      | then-len-eq0-via-then-len-eq0 v ↦ omega (arith, w.size, inner_length c.args.line.now, v.if-len-eq0.true)
      | then-len-eq0-via-else-len-eq0+then-len-gt-MOST_DIGITS v ↦ omega (arith, w.size, inner_length c.args.line.now, v.if-len-gt-MOST_DIGITS.true)
      | then-len-eq0-via-else-len-eq0+else-len-gt-MOST_DIGITS+then-len-ne0 v ↦ omega (arith, w.size, inner_length c.args.line.now, v.if-len-ne0.true)
    ])

pub returns-then-digit_value-eq16 : goal.returns-then-digit_value-eq16
returns-then-digit_value-eq16 c =
    no_frame _
    (λ frame w pos most.
    let size = inner_length c.args.line.now in
    let same = inner_byte c.args.line.now c.loop-c.c-index (omega arith) in
    let value = rw same at c.digit_value.ensures in
    omega (arith, w.digits c.loop-c.c-index (omega (arith, w.size)), value))

pub loop-c-preserved : goal.loop-c-preserved
loop-c-preserved c = digits_more _ _ c.loop-c.invariant c.digit_value.ensures c.if-digit_value-eq16.false

pub returns : goal.returns
returns c =
    let size = inner_length c.args.line.now in
    a_frame _ _ (omega arith) (omega arith) (omega arith) c.if-last-ne10.false
    (inner_digits c.args.line.now _ (omega arith) (λ k l. c.loop-c.invariant k (omega arith)))

-- `system::wrong_bits` meets its contract: each list is tested by `wrong_bit`, and the first that is wrong decides. Assumes nothing.
use Rattle.system.proofs.Refusals.{or_first, or_second, or_third}
use Rattle.system.proofs.wrong_bits.Goals as goal

pub returns-then-wrong_bit : goal.returns-then-wrong_bit
returns-then-wrong_bit c =
    let i = c.of-of_start.ensures in
    or_first _ (rw (i.low, i.high, i.wires) at c.wrong_bit.ensures) c.if-wrong_bit.true

pub returns-then-wrong_bit-2 : goal.returns-then-wrong_bit-2
returns-then-wrong_bit-2 c =
    let i = c.of-of_start.ensures in
    let t = c.of-of_step.ensures in
    or_second (rw (i.low, i.high, i.wires) at c.wrong_bit.ensures) c.if-wrong_bit.false
    (rw (t.low, t.high, t.wires) at c.wrong_bit-else-wrong_bit.ensures) _ c.if-wrong_bit-2.true

pub returns-else-wrong_bit-2 : goal.returns-else-wrong_bit-2
returns-else-wrong_bit-2 c =
    let i = c.of-of_start.ensures in
    let t = c.of-of_step.ensures in
    let b = c.of-of_bad.ensures in
    or_third (rw (i.low, i.high, i.wires) at c.wrong_bit.ensures) c.if-wrong_bit.false
    (rw (t.low, t.high, t.wires) at c.wrong_bit-else-wrong_bit.ensures) c.if-wrong_bit-2.false
    (rw (b.low, b.high, b.wires) at c.wrong_bit-else-wrong_bit-2.ensures)

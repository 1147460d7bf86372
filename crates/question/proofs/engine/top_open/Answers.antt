-- `question::engine::top_open` meets its contract: the highest bit of the mask of the front's open bits, which is not 0, is as far from 63 as there
-- are zeros before it. The front is one of the pair, so what holds of the pair holds of the word. Assumes nothing.
use Prim.Native.Nat.{◌-◌, ◌*◌, ◌%◌, ◌^◌}
use mathlib.Core.Path.{refl}
use native.Mathlib.Nat.{mod-lt}
use native.Mathlib.Omega.{arith}
use lib.Bits.{bit_and}
use lib.Count.{count_leading_zeros}
use lib.Pow.{pow_pos}
use Rattle.masks.proofs.OneBit.{shift_one}
use Rattle.masks.proofs.Words.{no_wire}
use Rattle.look.specs.Look.{setting}
use Rattle.question.proofs.Walk.{zeros_below, top_open}
use Rattle.question.proofs.Wide.{front_open, top_wide}
use Rattle.question.proofs.engine.top_open.Goals as goal

pub overflow_sub-result : goal.overflow_sub-result
overflow_sub-result c =
    let front = c.args.front in
    let s = c.args.s in
    let f = c.ranges.front.fits in
    zeros_below 63 front (record { bits = s.bits.pair; values = (setting s).values }) f (omega arith)
    (rw (front_open s.bits (setting s).values front f (omega arith)) at c.requires)

pub returns : goal.returns
returns c =
    let front = c.args.front in
    let s = c.args.s in
    let f = c.ranges.front.fits in
    rw (no_wire (record { pair = 1 * 2 ^ (63 - count_leading_zeros 64 (bit_and front (2 ^ 64 - 1 - s.bits.pair))) % 2 ^ 64; wires = 0 })
    (mod-lt _ (pow_pos 64)) refl)
    (top_wide s.bits (setting s).values front f
    (top_open 63 front (record { bits = s.bits.pair; values = (setting s).values }) f (omega arith)
    (rw (front_open s.bits (setting s).values front f (omega arith)) at c.requires) _ (shift_one 64 _ (omega arith))))

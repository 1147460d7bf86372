-- `look::scan_low` meets its contract. What `scan_all` says of the list with all above the low half settled to 0, it says of the state of every word,
-- for the low half of the reason. Assumes nothing.
use Prim.Native.Nat.{◌-◌, ◌^◌}
use mathlib.Core.Path.{◌≡◌, refl, ap, ◌∙◌}
use lib.Bits.{bit_or}
use Rattle.masks.specs.Word.{width, word_of}
use Rattle.masks.proofs.Words.{half_width}
use Rattle.look.specs.Look.{setting}
use Rattle.look.proofs.Low.{low_fails, low_forces}
use Rattle.look.proofs.scan_low.Goals as goal

-- all positions above the low half
above : word_of (record { pair = 2 ^ 64 - 2 ^ 32; wires = 2 ^ 64 - 1 }) ≡ 2 ^ width - 2 ^ 32
unfolding word_of width
above = refl

pub returns-in-Failed : goal.returns-in-Failed
returns-in-Failed c =
    let a = c.args in
    let settled = c.or.ensures ∙ ap (bit_or (word_of a.s.bits)) above in
    rw c.low_part-in-Failed.ensures
    (low_fails width 32 half_width _ (setting a.s) _
    (rw (c.in-Failed.is, settled, c.low_part.ensures) at c.scan_all.ensures))

pub returns-in-Forced : goal.returns-in-Forced
returns-in-Forced c =
    let a = c.args in
    let settled = c.or.ensures ∙ ap (bit_or (word_of a.s.bits)) above in
    rw c.low_part-in-Forced.ensures
    (low_forces width 32 half_width _ (setting a.s) _ _ _
    (rw (c.in-Forced.is, settled, c.low_part.ensures) at c.scan_all.ensures))

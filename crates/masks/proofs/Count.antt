-- The number of bits that are 1, `ones` of the library: bit 0, and those of the half. So a new bit is counted by halving, until it is bit 0.
-- Assumes nothing.
use mathlib.Core.Path.{◌≡◌, sym, ap, ◌∙◌}
use Prim.Native.Nat.{ℕ, zero, suc, ◌+◌, ◌/◌, ◌^◌}
use native.Mathlib.Nat.{pow-suc}
use native.Mathlib.Omega.{arith}
use lib.Bits.{bit_or}
use lib.Count.{ones, ones_step}
use Rattle.masks.specs.Bit.{bit}
use Rattle.masks.proofs.Bits.{bit_zero, bit_suc}
use Rattle.masks.proofs.OneBit.{or_new}

-- a new bit counts one more
ones_new : (i m : ℕ) → bit m i ≡ 0 → ones (m + 2 ^ i) ≡ ones m + 1
ones_new zero m z =
    let e : (m + 1) / 2 ≡ m / 2 = omega (arith, bit_zero m) in
    omega (arith, ones_step (m + 1), ones_step m, bit_zero m, ap ones e)
ones_new (suc i) m z =
    let e : (m + 2 ^ suc i) / 2 ≡ m / 2 + 2 ^ i = omega (arith, pow-suc 2 i) in
    omega (arith, ones_step (m + 2 ^ suc i), ones_step m, pow-suc 2 i, ap ones e, ones_new i (m / 2) (sym (bit_suc m i) ∙ z))

-- the same for `m | 1 << i`
pub ones_or : (i m : ℕ) → bit m i ≡ 0 → ones (bit_or m (2 ^ i)) ≡ ones m + 1
ones_or i m z = rw (or_new m i z) (ones_new i m z)

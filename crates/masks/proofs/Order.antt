-- The order of numbers, from their bits. A number with no bit from w on is below 2 ^ w, since its quotient by 2 ^ w has no bit at all. Of two
-- numbers that agree above position i, the one with a 0 there is the smaller: halving keeps this, down to i = 0, where the halves are equal.
-- Assumes nothing.
use mathlib.Core.Path.{◌≡◌, sym, ◌∙◌}
use mathlib.Core.Logic.{◌↔◌}
use Prim.Native.Nat.{ℕ, zero, suc, ◌+◌, ◌*◌, ◌/◌, ◌^◌, ◌≤◌, ◌<◌}
use native.Mathlib.Nat.{div-lt_iff_lt-mul}
use native.Mathlib.Omega.{arith}
use lib.Pow.{pow_pos}
use Rattle.masks.specs.Bit.{bit}
use Rattle.masks.proofs.Bits.{bit_zero, bit_suc, bit_past, no_bits, bits_ext}
use Rattle.masks.proofs.Halves.{bit_div}

-- a number is below 2 ^ w exactly if it has no bit from w on
pub width_bits : (w m : ℕ) → (m < 2 ^ w) ↔ ((i : ℕ) → w ≤ i → bit m i ≡ 0)
width_bits w m = (
  λ h i l. bit_past w m i h l,
  λ h.
      let e : m / 2 ^ w ≡ 0 = no_bits (m / 2 ^ w) (λ i. bit_div w i m ∙ h (w + i) (omega arith)) in
      let l : m < 1 * 2 ^ w = (div-lt_iff_lt-mul (pow_pos w)).0 (omega arith) in
      omega arith,
)

-- the highest position at which two numbers differ orders them
pub bit_order : (i a b : ℕ) → ((j : ℕ) → i < j → bit a j ≡ bit b j) → bit a i ≡ 0 → bit b i ≡ 1 → a < b
bit_order zero a b above x y =
    let e : a / 2 ≡ b / 2 = bits_ext (a / 2) (b / 2) (λ j. sym (bit_suc a j) ∙ above (suc j) (omega arith) ∙ bit_suc b j) in
    omega (arith, bit_zero a, bit_zero b)
bit_order (suc i) a b above x y =
    let l : a / 2 < b / 2 =
    bit_order i (a / 2) (b / 2)
    (λ j g. sym (bit_suc a j) ∙ above (suc j) (omega arith) ∙ bit_suc b j)
    (sym (bit_suc a i) ∙ x)
    (sym (bit_suc b i) ∙ y) in
    omega arith

-- The mask with a 1 at one position alone, a power of two. Halving it moves the 1 one position down, so its bits are found by going down with it.
-- Assumes nothing.
use mathlib.Core.Logic.{◌↔◌}
use mathlib.Core.Path.{◌≡◌, refl, ap, ◌∙◌}
use Prim.Native.Nat.{ℕ, zero, suc, ◌+◌, ◌*◌, ◌-◌, ◌/◌, ◌%◌, ◌^◌, ◌≤◌, ◌<◌}
use native.Mathlib.Nat.{pow-suc, one-mul, mod-eq_of_lt, mul-mod_right}
use native.Mathlib.Omega.{arith}
use lib.Bits.{bit_and, bit_or, or_disjoint}
use lib.Pow.{pow-lt, pow-add}
use Rattle.masks.specs.Bit.{bit}
use Rattle.masks.proofs.Bits.{bit_zero, bit_suc, bit_of_zero, at_bit, bits_at}
use Rattle.masks.proofs.Operations.{meet}

-- halving moves the 1 down
half_power : (k : ℕ) → 2 ^ suc k / 2 ≡ 2 ^ k
half_power k = omega (arith, pow-suc 2 k)

-- it has its bit
pub pow_here : (k : ℕ) → bit (2 ^ k) k ≡ 1
pow_here zero = bit_zero 1
pow_here (suc k) = rw (bit_suc (2 ^ suc k) k, half_power k) (pow_here k)

-- it has no other bit
pub pow_other : (k i : ℕ) → (i ≡ k → ⊥) → bit (2 ^ k) i ≡ 0
pow_other zero zero f = absurd (f refl)
pow_other zero (suc i) f = bit_suc 1 i ∙ bit_of_zero i
pow_other (suc k) zero f = rw (bit_zero (2 ^ suc k)) (omega (arith, pow-suc 2 k))
pow_other (suc k) (suc i) f = rw (bit_suc (2 ^ suc k) i, half_power k) (pow_other k i (λ e. f (ap suc e)))

-- within w bits it is itself
pub pow_within : (w i : ℕ) → i < w → 2 ^ i % 2 ^ w ≡ 2 ^ i
pow_within w i h = mod-eq_of_lt (pow-lt h)

-- past w bits nothing is left of it
pub pow_past : (w i : ℕ) → w ≤ i → 2 ^ i % 2 ^ w ≡ 0
pow_past w i h =
    let e : i ≡ w + (i - w) = omega arith in
    let d : 2 ^ i ≡ 2 ^ w * 2 ^ (i - w) = ap (λ (x : ℕ). 2 ^ x) e ∙ pow-add 2 w (i - w) in
    rw d (mul-mod_right (2 ^ w) (2 ^ (i - w)))

-- `1 << i`
pub shift_one : (w i : ℕ) → i < w → (1 * 2 ^ i) % 2 ^ w ≡ 2 ^ i
shift_one w i h = rw one-mul (pow_within w i h)

-- `m & 1 << i` is 0 exactly if the bit is
pub and_pow : (m i : ℕ) → (bit_and m (2 ^ i) ≡ 0) ↔ (bit m i ≡ 0)
and_pow m i = (
  λ e. omega (arith, meet m (2 ^ i) i, pow_here i, at_bit i e, bit_of_zero i),
  λ z. bits_at i (bit_and m (2 ^ i)) 0
      (omega (arith, meet m (2 ^ i) i, bit_of_zero i))
      (λ j f. omega (arith, meet m (2 ^ i) j, pow_other i j f, bit_of_zero j)),
)

-- `m | 1 << i` adds, if the bit is new
pub or_new : (m i : ℕ) → bit m i ≡ 0 → bit_or m (2 ^ i) ≡ m + 2 ^ i
or_new m i z = or_disjoint m (2 ^ i) ((and_pow m i).1 z)

-- The bits of one number. Bit 0 is the remainder by 2, and bit i + 1 is bit i of the half: so what holds of all bits is shown by halving, until
-- nothing is left. By that, two numbers with the same bits are equal, which is how every equation of masks is shown: at one position at a time.
-- Assumes nothing.
use mathlib.Core.Path.{◌≡◌, refl, sym, ap, ◌∙◌}
use mathlib.Core.Logic.{◌⊎◌, inl, inr, ⊎_elim}
use Prim.Native.Nat.{ℕ, suc, ◌/◌, ◌%◌, ◌^◌, ◌≤◌, ◌<◌}
use native.Mathlib.Nat.{div-one, zero-div, div-eq_of_lt, lt_of_lt_of_le, eq-zero-or-pos}
use native.Mathlib.Numerals.{one-add}
use native.Mathlib.Omega.{arith}
use lib.Arith.{bin_ind}
use lib.Pow.{shr-shr, pow_mono}
use Rattle.base.proofs.Tests.{lt_or_ge, eq_or_ne}
use Rattle.masks.specs.Bit.{bit}

-- a bit is at most 1
pub bit_le : (m i : ℕ) → bit m i ≤ 1
unfolding bit
bit_le m i = omega arith

-- a bit is 0 or 1
pub bit_cases : (m i : ℕ) → (bit m i ≡ 0) ⊎ (bit m i ≡ 1)
bit_cases m i = ⊎_elim inl (λ p. inr (omega (arith, bit_le m i))) (eq-zero-or-pos (bit m i))

-- bit 0 is the remainder by 2
pub bit_zero : (m : ℕ) → bit m 0 ≡ m % 2
unfolding bit
bit_zero m = rw div-one

-- each further bit is a bit of the half
pub bit_suc : (m i : ℕ) → bit m (suc i) ≡ bit (m / 2) i
unfolding bit
bit_suc m i = ap (λ (x : ℕ). x % 2) (sym (rw one-add at (shr-shr m 1 i)))

-- 0 has no bit
pub bit_of_zero : (i : ℕ) → bit 0 i ≡ 0
unfolding bit
bit_of_zero i = rw zero-div

-- a number below 2 ^ w has no bit from w on
pub bit_past : (w m i : ℕ) → m < 2 ^ w → w ≤ i → bit m i ≡ 0
unfolding bit
bit_past w m i h l = rw (div-eq_of_lt (lt_of_lt_of_le h (pow_mono l)))

-- a 1 of a number below 2 ^ w stands below w
pub bit_within : (w m i : ℕ) → m < 2 ^ w → bit m i ≡ 1 → i < w
bit_within w m i h e = ⊎_elim (λ l. l) (λ g. absurd (omega (arith, bit_past w m i h g))) (lt_or_ge i w)

-- equal numbers have the same bits
pub at_bit : {a b : ℕ} (i : ℕ) → a ≡ b → bit a i ≡ bit b i
at_bit i e = ap (λ (x : ℕ). bit x i) e

-- a number with no bit is 0
pub no_bits : (m : ℕ) → ((i : ℕ) → bit m i ≡ 0) → m ≡ 0
no_bits =
    bin_ind (λ m. ((i : ℕ) → bit m i ≡ 0) → m ≡ 0)
    (λ h. refl)
    (λ m half h. omega (arith, half (λ i. sym (bit_suc m i) ∙ h (suc i)), bit_zero m, h 0))

-- equal bits make equal numbers
pub bits_ext : (a b : ℕ) → ((i : ℕ) → bit a i ≡ bit b i) → a ≡ b
bits_ext =
    bin_ind (λ a. (b : ℕ) → ((i : ℕ) → bit a i ≡ bit b i) → a ≡ b)
    (λ b h. sym (no_bits b (λ i. sym (h i) ∙ bit_of_zero i)))
    (λ a half b h.
    omega (arith, half (b / 2) (λ i. sym (bit_suc a i) ∙ h (suc i) ∙ bit_suc b i), bit_zero a, bit_zero b, h 0))

-- equal bits below the width make numbers of that width equal
pub bits_below : (w a b : ℕ) → a < 2 ^ w → b < 2 ^ w → ((i : ℕ) → i < w → bit a i ≡ bit b i) → a ≡ b
bits_below w a b p q h =
    bits_ext a b (λ i. ⊎_elim (h i) (λ g. bit_past w a i p g ∙ sym (bit_past w b i q g)) (lt_or_ge i w))

-- equal bits at one position, and at all others, make equal numbers
pub bits_at : (i a b : ℕ) → bit a i ≡ bit b i → ((j : ℕ) → (j ≡ i → ⊥) → bit a j ≡ bit b j) → a ≡ b
bits_at i a b here other = bits_ext a b (λ j. ⊎_elim (λ e. rw e here) (other j) (eq_or_ne j i))

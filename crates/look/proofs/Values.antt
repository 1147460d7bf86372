-- One bit more gets its value. Bit b, at position k, is open and is given x: 0 or b. At k the values then have the bit of x, and elsewhere they are
-- as they were. Assumes nothing.
use Prim.Native.Nat.{ℕ, ◌+◌, ◌-◌}
use mathlib.Core.Logic.{◌⊎◌, inl, inr, ⊎_elim}
use mathlib.Core.Path.{◌≡◌, ◌∙◌}
use native.Mathlib.Omega.{arith}
use lib.Bits.{bit_or}
use Rattle.masks.specs.Bit.{bit}
use Rattle.masks.proofs.Bits.{bit_of_zero, at_bit}
use Rattle.masks.proofs.Operations.{join}
use Rattle.masks.proofs.OneBit.{pow_here, pow_other}
use Rattle.look.specs.Reason.{Setting, Open}

-- ---- an open bit
module _ {width : ℕ} {s : Setting} {b : ℕ} (free : Open width s b) where
  -- b has a bit at k alone
  pub b_here : bit b free.k ≡ 1
  b_here = at_bit free.k free.is ∙ pow_here free.k

  pub b_other : (j : ℕ) → (j ≡ free.k → ⊥) → bit b j ≡ 0
  b_other j f = at_bit j free.is ∙ pow_other free.k j f

  -- a value for it has no bit elsewhere
  pub x_other : {x : ℕ} → (x ≡ 0) ⊎ (x ≡ b) → (j : ℕ) → (j ≡ free.k → ⊥) → bit x j ≡ 0
  x_other h j f = ⊎_elim (λ e. at_bit j e ∙ bit_of_zero j) (λ e. at_bit j e ∙ b_other j f) h

-- the other value
pub other_value : {b x : ℕ} → (x ≡ 0) ⊎ (x ≡ b) → (b - x ≡ 0) ⊎ (b - x ≡ b)
other_value h = ⊎_elim (λ e. inr (omega arith)) (λ e. inl (omega arith)) h

-- Bit b is open and 0 among the values, and x is a value for it: 0 or b.
pub record Choice (width : ℕ) (s : Setting) (b x : ℕ) : Type 0 where
  pub free : Open width s b
  pub empty : bit s.values free.k ≡ 0
  pub either : (x ≡ 0) ⊎ (x ≡ b)

module _ {width : ℕ} {s : Setting} {b x : ℕ} (C : Choice width s b x) where
  abbrev k : ℕ
  k = C.free.k

  pub value_here : bit (bit_or s.values x) k ≡ bit x k
  value_here = omega (arith, join s.values x k, C.empty)

  pub value_other : (j : ℕ) → (j ≡ k → ⊥) → bit (bit_or s.values x) j ≡ bit s.values j
  value_other j f = omega (arith, join s.values x j, x_other C.free C.either j f)

  -- the other value
  abbrev pub other : Choice width s b (b - x)
  other = record { free = C.free; empty = C.empty; either = other_value C.either }

  -- the one value or the other
  pub other_here : bit (b - x) k + bit x k ≡ 1
  other_here =
      ⊎_elim
      (λ e. let d : b - x ≡ b = omega arith in omega (arith, at_bit k e, at_bit k d, bit_of_zero k, b_here C.free))
      (λ e. let d : b - x ≡ 0 = omega arith in omega (arith, at_bit k e, at_bit k d, bit_of_zero k, b_here C.free))
      C.either

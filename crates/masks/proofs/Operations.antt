-- And, or and complement, at one position. Each law is a few linear facts about bits, so that `omega` does the propositional steps: an
-- equation of masks is `bits_ext` with `omega` over the laws of the operations in it. Assumes nothing.
use mathlib.Core.Path.{◌≡◌}
use mathlib.Core.Logic.{⊎_elim}
use Prim.Native.Nat.{ℕ, zero, suc, ◌+◌, ◌-◌, ◌/◌, ◌^◌, ◌≤◌, ◌<◌}
use native.Mathlib.Nat.{pow-suc}
use native.Mathlib.Omega.{arith}
use lib.Bits.{bit_and, bit_or, and_shr, and_step, or_shr, or_step}
use lib.Pow.{pow_pos, pow_mono}
use Rattle.base.proofs.Tests.{lt_or_ge}
use Rattle.masks.specs.Bit.{bit}
use Rattle.masks.proofs.Bits.{bit_zero, bit_suc, bit_of_zero, bit_past, at_bit}

-- of three bits, c is the and of a and b
abbrev pub Meet : ℕ → ℕ → ℕ → Type 0
Meet a b c = (a ≤ 1) × (b ≤ 1) × (c ≤ a) × (c ≤ b) × (a + b ≤ c + 1)

-- of three bits, c is the or of a and b
abbrev pub Join : ℕ → ℕ → ℕ → Type 0
Join a b c = (c ≤ 1) × (a ≤ c) × (b ≤ c) × (c ≤ a + b)

-- `a & b`
pub meet : (a b i : ℕ) → Meet (bit a i) (bit b i) (bit (bit_and a b) i)
unfolding bit
meet a b i = omega (arith, and_shr a b i, and_step (a / 2 ^ i) (b / 2 ^ i))

-- `a | b`
pub join : (a b i : ℕ) → Join (bit a i) (bit b i) (bit (bit_or a b) i)
unfolding bit
join a b i = omega (arith, or_shr a b i, or_step (a / 2 ^ i) (b / 2 ^ i))

-- `!m`, over w bits: below w a bit and its complement add to 1
pub flip : (w m i : ℕ) → m < 2 ^ w → i < w → bit (2 ^ w - 1 - m) i + bit m i ≡ 1
flip zero m i h l = absurd (omega arith)
flip (suc w) m zero h l = rw (bit_zero (2 ^ suc w - 1 - m), bit_zero m) (omega (arith, pow-suc 2 w))
flip (suc w) m (suc i) h l =
    let e : (2 ^ suc w - 1 - m) / 2 ≡ 2 ^ w - 1 - m / 2 = omega (arith, pow-suc 2 w) in
    rw (bit_suc (2 ^ suc w - 1 - m) i, bit_suc m i, e) (flip w (m / 2) i (omega (arith, pow-suc 2 w)) (omega arith))

-- all positions below w
pub full : (w i : ℕ) → i < w → bit (2 ^ w - 1) i ≡ 1
full w i l =
    let e : 2 ^ w - 1 - 0 ≡ 2 ^ w - 1 = omega arith in
    omega (arith, flip w 0 i (pow_pos w) l, at_bit i e, bit_of_zero i)

-- all positions below w but the k lowest
module _ (w k i : ℕ) (h : k ≤ w) where
  beyond : 2 ^ w - 2 ^ k ≡ 2 ^ w - 1 - (2 ^ k - 1)
  beyond = omega (arith, pow_pos k)

  fits : 2 ^ k - 1 < 2 ^ w
  fits = omega (arith, pow_pos k, pow_mono h)

  pub beyond_none : i < k → bit (2 ^ w - 2 ^ k) i ≡ 0
  beyond_none l = rw beyond (omega (arith, flip w (2 ^ k - 1) i fits (omega arith), full k i l))

  pub beyond_all : k ≤ i → i < w → bit (2 ^ w - 2 ^ k) i ≡ 1
  beyond_all g l = rw beyond (omega (arith, flip w (2 ^ k - 1) i fits l, bit_past k (2 ^ k - 1) i (omega (arith, pow_pos k)) g))

-- `m & !k`: the bits of m that k has not
pub less : (w m k i : ℕ) → m < 2 ^ w → k < 2 ^ w → bit (bit_and m (2 ^ w - 1 - k)) i ≡ bit m i - bit k i
less w m k i p q =
    ⊎_elim
    (λ l. omega (arith, meet m (2 ^ w - 1 - k) i, flip w k i q l))
    (λ g. omega (arith, meet m (2 ^ w - 1 - k) i, bit_past w m i p g))
    (lt_or_ge i w)

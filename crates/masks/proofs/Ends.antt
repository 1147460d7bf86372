-- The ends of a mask. The lowest 1 is as high as the zeros below it are many, counted from position 0 on: below a 0 one more than in the half,
-- below a 1 none. The highest 1 is at k if the mask lies between 2 ^ k and 2 ^ (k + 1). Assumes nothing.
use mathlib.Core.Path.{◌≡◌, refl, ◌∙◌}
use Prim.Native.Nat.{ℕ, zero, suc, ◌-◌, ◌/◌, ◌%◌, ◌^◌, ◌≤◌, ◌<◌}
use native.Mathlib.Nat.{div-eq_of_lt-le, pow-suc}
use native.Mathlib.Omega.{arith}
use lib.Count.{count_leading_zeros, leading_top, count_trailing_zeros, under}
use Rattle.masks.specs.Bit.{bit}
use Rattle.masks.specs.Ends.{Lowest, Highest}
use Rattle.masks.proofs.Bits.{bit_zero, bit_suc, bit_past}

-- the lowest 1 of m, from that of its half: d is bit 0
lowest_step : (m k d : ℕ) → m % 2 ≡ d → (d ≡ 0 → Lowest (m / 2) k) → Lowest m (under d k)
lowest_step m k zero e r =
    record { here = bit_suc m k ∙ (r refl).here; below = low }
  where
    low : (j : ℕ) → j < suc k → bit m j ≡ 0
    low zero h = bit_zero m ∙ e
    low (suc j) h = bit_suc m j ∙ (r refl).below j (omega arith)
lowest_step m k (suc d) e r = record { here = omega (arith, bit_zero m); below = λ j h. absurd (omega arith) }

-- `trailing_zeros` is the position of the lowest 1 of a mask that has one
pub lowest_end : (w m : ℕ) → 0 < m → m < 2 ^ w → Lowest m (count_trailing_zeros w m)
unfolding count_trailing_zeros
lowest_end zero m p q = absurd (omega arith)
lowest_end (suc w) m p q =
    lowest_step m (count_trailing_zeros w (m / 2)) (m % 2) refl (λ e. lowest_end w (m / 2) (omega arith) (omega (arith, pow-suc 2 w)))

-- a mask between two powers has its highest 1 at the lower
highest_at : (k m : ℕ) → 2 ^ k ≤ m → m < 2 ^ suc k → Highest m k
unfolding bit
highest_at k m p q =
    let e : m / 2 ^ k ≡ 1 = div-eq_of_lt-le (2 ^ k) (omega arith) (omega (arith, pow-suc 2 k)) in
    record { here = rw e; above = λ j l. bit_past (suc k) m j q l }

-- the last position less `leading_zeros` is the highest end, and the difference does not go below 0
pub highest_end : (w m : ℕ) → 0 < m → m < 2 ^ suc w → (count_leading_zeros (suc w) m ≤ w) × Highest m (w - count_leading_zeros (suc w) m)
highest_end w m p q =
    let t = leading_top (suc w) m p q in
    let e : w - count_leading_zeros (suc w) m ≡ t.0 = omega (arith, t.1) in
    (omega (arith, t.1), rw e (highest_at t.0 m t.2 t.3))

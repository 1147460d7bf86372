-- A pair of two parts, s + 2 ^ k * t: the first k positions are those of s, and those above are the positions of t. Dividing by 2 ^ k takes the
-- low part away and moves the high part down; adding a multiple of 2 ^ k changes no bit below k. Assumes nothing.
use mathlib.Core.Path.{◌≡◌, sym, ap, ◌∙◌}
use Prim.Native.Nat.{ℕ, suc, ◌+◌, ◌-◌, ◌*◌, ◌/◌, ◌%◌, ◌^◌, ◌<◌}
use native.Mathlib.Nat.{add-mul-div_left, add-mul-mod_self_left, mul_assoc, pow-succ', div-eq_of_lt, mul_comm, div-add-mod'}
use native.Mathlib.Omega.{arith}
use lib.Pow.{pow_pos, pow-add, shr-shr}
use Rattle.masks.specs.Bit.{bit}
use Rattle.masks.proofs.Bits.{at_bit}

-- the high part of any number
pub bit_div : (k i x : ℕ) → bit (x / 2 ^ k) i ≡ bit x (k + i)
unfolding bit
bit_div k i x = ap (λ (y : ℕ). y % 2) (shr-shr x k i)

-- a position i that lies d + 1 below the high part
under : (i d s t : ℕ) → bit (s + 2 ^ (i + suc d) * t) i ≡ bit s i
unfolding bit
under i d s t =
    let e : (s + 2 ^ (i + suc d) * t) / 2 ^ i ≡ s / 2 ^ i + 2 ^ suc d * t =
    rw (pow-add, mul_assoc) (add-mul-div_left s (2 ^ suc d * t) (pow_pos i)) in
    rw (e, pow-succ' 2 d, mul_assoc) (add-mul-mod_self_left (s / 2 ^ i) 2 (2 ^ d * t))

-- the positions below k are those of the low part
pub bit_low : (k i s t : ℕ) → i < k → bit (s + 2 ^ k * t) i ≡ bit s i
bit_low k i s t h = let e : i + suc (k - suc i) ≡ k = omega arith in rw e at (under i (k - suc i) s t)

-- the positions from k on are those of the high part
pub bit_high : (k i s t : ℕ) → s < 2 ^ k → bit (s + 2 ^ k * t) (k + i) ≡ bit t i
bit_high k i s t h =
    let e : (s + 2 ^ k * t) / 2 ^ k ≡ t = add-mul-div_left s t (pow_pos k) ∙ omega (arith, div-eq_of_lt h) in
    sym (bit_div k i (s + 2 ^ k * t)) ∙ at_bit i e

-- the low part of any number
pub bit_mod : (k i x : ℕ) → i < k → bit (x % 2 ^ k) i ≡ bit x i
bit_mod k i x h =
    let e : x % 2 ^ k + 2 ^ k * (x / 2 ^ k) ≡ x = rw (mul_comm (2 ^ k) (x / 2 ^ k)) (omega (arith, div-add-mod' x (2 ^ k))) in
    sym (bit_low k i (x % 2 ^ k) (x / 2 ^ k) h) ∙ at_bit i e

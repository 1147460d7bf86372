-- The arithmetic of the exact bounds: what the accounts of ExactAccount come to when N is n + 1, or N, and m is N + d, or more by one. Assumes nothing.
use Prim.Native.Nat.{ℕ, zero, suc, ◌+◌, ◌*◌, ◌≤◌}
use mathlib.Core.Path.{◌≡◌}
use native.Mathlib.Omega.{arith}
use native.Mathlib.Nat.{mul-suc, suc-mul, mul-add, add-mul, mul_comm, mul-le-mul}
use Rattle.ic3.specs.Exact.{up_to}

pub up_to_twice : (m : ℕ) → 2 * up_to m ≡ m * m + m
unfolding up_to
up_to_twice zero = omega arith
up_to_twice (suc m) = omega (arith, up_to_twice m, suc-mul m (suc m), mul-suc m m)

-- (n + d) (n + d), written out
square : (n d : ℕ) → (n + d) * (n + d) ≡ n * n + 2 * (n * d) + d * d
square n d = omega (arith, mul-add (n + d) n d, add-mul n d n, add-mul n d d, mul_comm d n)

-- ---- before a round
pub opened_sum : (n d p t o e q : ℕ) → p ≤ n + d → o + e ≤ suc n + d → t + up_to n ≤ suc n * p + o
    → q + n * n ≤ 2 + 2 * n + t + 2 * (n * p) + o + e → suc q ≤ 2 + 3 * up_to (suc n + d)
opened_sum n d p t o e q h l g b =
    let x : n * p ≤ n * (n + d) = mul-le-mul (omega arith) h in
    omega (arith, up_to_twice n, up_to_twice (suc n + d), square (suc n) d, suc-mul n (suc n), mul-suc n n, suc-mul n d, suc-mul n p, mul-add n n d)

pub round_sum : (n p σ t o q : ℕ) → (1 ≤ n → suc p ≤ σ) → o ≤ σ → q + n * n ≤ 2 + 2 * n + t + 2 * (n * p) + o + 0
    → suc q + σ + suc n * suc n ≤ 2 + 2 * suc n + t + 2 * (suc n * σ)
round_sum n p σ t o q h l b = omega (arith, further n h, mul-suc n p, suc-mul n (suc n), mul-suc n n, suc-mul n σ)
  where
    further : (n : ℕ) → (1 ≤ n → suc p ≤ σ) → n * suc p ≤ n * σ
    further zero h = omega arith
    further (suc n) h = mul-le-mul (omega arith) (h (omega arith))

-- ---- in a full round
pub full_sum : (N d σ t a u q : ℕ) → σ ≤ N + d → t ≤ N * σ + a → suc a ≤ u → q + u + N * N ≤ 2 + 2 * N + t + 2 * (N * σ)
    → suc q ≤ 2 * ((N + d) * (N + d)) + 2 * (N + d) + 2
full_sum N d σ t a u q h l g b =
    let x : N * σ ≤ N * (N + d) = mul-le-mul (omega arith) h in
    omega (arith, square N d, mul-add N N d)

-- ---- in a shortened round, at level 1 and above it
pub first_sum : (N d σ t a u q : ℕ) → σ ≤ N + d → t + up_to N ≤ a + 1 + N * σ → suc a ≤ u → q + u + N * N ≤ 2 + 2 * N + t + 2 * (N * σ)
    → suc q ≤ 3 + 3 * up_to (N + d)
first_sum N d σ t a u q h l g b =
    let x : N * σ ≤ N * (N + d) = mul-le-mul (omega arith) h in
    omega (arith, up_to_twice N, up_to_twice (N + d), square N d, mul-add N N d)

pub later_sum : (N d σ t a i u q : ℕ) → σ ≤ N + d → i ≤ N → t + up_to N ≤ a + i + N * σ → suc a ≤ u
    → q + u + N * N ≤ 2 + 2 * N + t + 2 * (N * σ) → suc q ≤ 2 + 3 * up_to (suc N + d)
later_sum N d σ t a i u q h o l g b =
    let x : N * σ ≤ N * (N + d) = mul-le-mul (omega arith) h in
    omega (arith, up_to_twice N, up_to_twice (suc N + d), square (suc N) d, suc-mul N (suc N), mul-suc N N, suc-mul N d, mul-add N N d)

-- Rising lists. A number above all of a rising list may follow it. No number stands twice; and of two rising lists with the same numbers each begins
-- with the least, so they have the same first number and the same rest. Assumes nothing.
use Prim.Native.Nat.{ℕ, ◌<◌}
use mathlib.Core.Bool.{true}
use mathlib.Core.List.{List, [], ◌∷◌, ◌++◌}
use mathlib.Core.Logic.{◌⊎◌, inl, inr, ⊎_elim}
use mathlib.Core.Path.{◌≡◌, refl, sym}
use native.Mathlib.Omega.{arith}
use borrow.Author.Tests.{eqb-true}
use lib.Dec.{eqb}
use Rattle.base.proofs.Tests.{test}
use Rattle.ic3.specs.Demands.{listed, Distinct}
use Rattle.ic3.proofs.Least.{order}
use Rattle.ic3.proofs.Store.{listed_none, listed_head, listed_tail}
use Rattle.into.specs.Into.{Rising}

-- what is listed is the first number or one of the rest
pub listed_cases : (x : ℕ) (xs : List ℕ) (s : ℕ) → listed (x ∷ xs) s ≡ true → (x ≡ s) ⊎ (listed xs s ≡ true)
unfolding listed
listed_cases x xs s h = test (eqb x s) (λ e. inl (eqb-true x s e)) (λ e. inr (rw (e, listed) at h))

-- ---- one number more, at the end
infixl 20 ◌then◌
abbrev pub ◌then◌ : List ℕ → ℕ → List ℕ
xs then a = xs ++ (a ∷ [])

pub then_kept : (xs : List ℕ) (a s : ℕ) → listed xs s ≡ true → listed (xs then a) s ≡ true
then_kept [] a s h = listed_none s h
then_kept (x ∷ xs) a s h =
    ⊎_elim (λ e. rw e (listed_head (xs then a) s)) (λ r. listed_tail (xs then a) x s (then_kept xs a s r)) (listed_cases x xs s h)

pub then_last : (xs : List ℕ) (a : ℕ) → listed (xs then a) a ≡ true
then_last [] a = listed_head [] a
then_last (x ∷ xs) a = listed_tail (xs then a) x a (then_last xs a)

pub then_cases : (xs : List ℕ) (a s : ℕ) → listed (xs then a) s ≡ true → (listed xs s ≡ true) ⊎ (a ≡ s)
then_cases [] a s h = ⊎_elim inr (listed_none s) (listed_cases a [] s h)
then_cases (x ∷ xs) a s h =
    ⊎_elim
    (λ e. inl (rw e (listed_head xs s)))
    (λ r. ⊎_elim (λ k. inl (listed_tail xs x s k)) inr (then_cases xs a s r))
    (listed_cases x (xs then a) s h)

-- it may follow if it is above all
pub rising_then : (xs : List ℕ) (a : ℕ) → Rising xs → ((s : ℕ) → listed xs s ≡ true → s < a) → Rising (xs then a)
rising_then [] a r h = (λ s k. listed_none s k, tt)
rising_then (x ∷ xs) a r h = (
  λ s k. ⊎_elim (r.0 s) (λ e. rw (← e) (h x (listed_head xs x))) (then_cases xs a s k),
  rising_then xs a r.1 (λ s k. h s (listed_tail xs x s k)),
)

-- ---- each number once, and in one order
pub rising_distinct : (xs : List ℕ) → Rising xs → Distinct xs
rising_distinct [] r = tt
rising_distinct (x ∷ xs) r = (
  test (listed xs x) (λ e. absurd (omega (arith, r.0 x e))) (λ e. e),
  rising_distinct xs r.1,
)

-- the first number of one stands in the other, so it is not below the other's first
first_least : (x y : ℕ) (ys : List ℕ) → Rising (y ∷ ys) → listed (y ∷ ys) x ≡ true → x < y → ⊥
first_least x y ys r h l = ⊎_elim (λ e. omega arith) (λ k. omega (arith, r.0 x k)) (listed_cases y ys x h)

-- with the same first number, what one has behind it the other has too
rest_listed : (x y : ℕ) (xs ys : List ℕ) → x ≡ y → Rising (x ∷ xs)
    → ((s : ℕ) → listed (x ∷ xs) s ≡ true → listed (y ∷ ys) s ≡ true) → (s : ℕ) → listed xs s ≡ true → listed ys s ≡ true
rest_listed x y xs ys e r h s k =
    ⊎_elim (λ q. absurd (omega (arith, r.0 s k))) (λ l. l) (listed_cases y ys s (h s (listed_tail xs x s k)))

pub rising_unique : (xs ys : List ℕ) → Rising xs → Rising ys → ((s : ℕ) → listed xs s ≡ true → listed ys s ≡ true)
    → ((s : ℕ) → listed ys s ≡ true → listed xs s ≡ true) → xs ≡ ys
rising_unique [] [] q r f g = refl
rising_unique [] (y ∷ ys) q r f g = listed_none y (g y (listed_head ys y))
rising_unique (x ∷ xs) [] q r f g = listed_none x (f x (listed_head xs x))
rising_unique (x ∷ xs) (y ∷ ys) q r f g =
    let e : x ≡ y = order x y (first_least x y ys r (f x (listed_head xs x))) (first_least y x xs q (g y (listed_head ys y))) in
    let rest : xs ≡ ys = rising_unique xs ys q.1 r.1 (rest_listed x y xs ys e q f) (rest_listed y x ys xs (sym e) r g) in
    cc

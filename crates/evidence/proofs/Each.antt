-- A test of each of a list, as a walk makes it: from index i on, one that fails decides and one that passes is passed over. Each passes exactly if
-- every listed one does. Assumes nothing.
use Prim.Native.Nat.{ℕ, zero, suc, ◌+◌, ◌≤◌, ◌<◌}
use mathlib.Core.Bool.{Bool, true, false, true≢false}
use mathlib.Core.List.{List, [], ◌∷◌}
use mathlib.Core.Path.{◌≡◌, refl, sym, ap, ◌∙◌}
use native.Mathlib.Numerals.{add-one}
use native.Mathlib.Omega.{arith}
use borrow.Author.Tests.{eqb-true, eq-eqb, ltb-true, lt-ltb, le-ltb}
use lib.Dec.{eqb, ltb}
use lib.ListN.{length, get_or, drop, drop_of_length-le}
use lib.Seq.{drop-cons}
use Rattle.base.proofs.Tests.{test, clash}
use Rattle.ic3.specs.Demands.{listed}
use Rattle.evidence.specs.Check.{each}

module _ (p : ℕ → Bool) (l : List ℕ) where
  -- a walk stands at index i: the whole list answers what it answers from there on
  abbrev pub Walked : ℕ → Type 0
  Walked i = (i ≤ length l) × (each p l ≡ each p (drop i l))

  module _ (i : ℕ) (w : Walked i) where
    -- one that fails decides
    pub each_stops : i < length l → p (get_or l i 0) ≡ false → false ≡ each p l
    unfolding each
    each_stops h e = rw (w.1, drop-cons l i 0 h) (rw (e, each))

    -- one that passes is passed over
    pub each_passes : i < length l → p (get_or l i 0) ≡ true → Walked (i + 1)
    unfolding each
    each_passes h e = (omega arith, rw (w.1, drop-cons l i 0 h, ← add-one i) (rw (e, each)))

    -- the end of the list is reached
    pub each_ends : length l ≤ i → true ≡ each p l
    unfolding each
    each_ends h = rw (w.1, drop_of_length-le l h)

-- a list whose first one passes
pub each_rest : (p : ℕ → Bool) (x : ℕ) (xs : List ℕ) → each p (x ∷ xs) ≡ true → (p x ≡ true) × (each p xs ≡ true)
unfolding each
each_rest p x xs e =
    test (p x)
    (λ f. (f, rw (f, each) at e))
    (λ f. absurd (true≢false (sym (rw (f, each) at e))))

-- every listed one passes
pub each_listed : (p : ℕ → Bool) (xs : List ℕ) → each p xs ≡ true → (s : ℕ) → listed xs s ≡ true → p s ≡ true
unfolding listed
each_listed p [] e s h = clash h refl
each_listed p (x ∷ xs) e s h =
    test (eqb x s)
    (λ q. ap p (sym (eqb-true x s q)) ∙ (each_rest p x xs e).0)
    (λ q. each_listed p xs (each_rest p x xs e).1 s (rw (q, listed) at h))

-- if every listed one passes, each does
pub listed_each : (p : ℕ → Bool) (xs : List ℕ) → ((s : ℕ) → listed xs s ≡ true → p s ≡ true) → each p xs ≡ true
unfolding each listed
listed_each p [] h = refl
listed_each p (x ∷ xs) h =
    let here : p x ≡ true = h x (rw (eq-eqb x x refl, listed)) in
    rw (here, each)
    (listed_each p xs (λ s e. h s (test (eqb x s) (λ q. rw (q, listed)) (λ q. rw (q, listed) e))))

-- one that stands at an index passes
each_at : (p : ℕ → Bool) (xs : List ℕ) → each p xs ≡ true → (j : ℕ) → j < length xs → p (get_or xs j 0) ≡ true
each_at p [] e j h = absurd (omega arith)
each_at p (x ∷ xs) e zero h = (each_rest p x xs e).0
each_at p (x ∷ xs) e (suc j) h = each_at p xs (each_rest p x xs e).1 j (omega arith)

-- each is below m, tested by comparing
module _ (m : ℕ) (l : List ℕ) (i : ℕ) (h : i < length l) where
  pub below_stops : Walked (λ x. ltb x m) l i → m ≤ get_or l i 0 → false ≡ each (λ x. ltb x m) l
  below_stops w b = each_stops (λ x. ltb x m) l i w h (le-ltb (get_or l i 0) m b)

  pub below_passes : Walked (λ x. ltb x m) l i → get_or l i 0 < m → Walked (λ x. ltb x m) l (i + 1)
  below_passes w b = each_passes (λ x. ltb x m) l i w h (lt-ltb (get_or l i 0) m b)

  pub below_at : each (λ x. ltb x m) l ≡ true → get_or l i 0 < m
  below_at e = ltb-true (get_or l i 0) m (each_at (λ x. ltb x m) l e i h)

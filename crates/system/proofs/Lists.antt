-- A list from its index i on: its clause at i, and the rest from i + 4 on. A walk that passes true clauses keeps what the list says; where fewer than four
-- masks are left nothing more is said. Assumes nothing.
use mathlib.Core.Path.{◌≡◌, refl, ap, ◌∙◌}
use mathlib.Core.Bool.{Bool, true, false}
use mathlib.Core.List.{List, [], ◌∷◌}
use Prim.Native.Nat.{ℕ, ◌+◌, ◌≤◌, ◌<◌}
use native.Mathlib.Omega.{arith}
use lib.ListN.{length, get_or, drop, length-drop}
use Rattle.base.proofs.Lists.{next_two}
use Rattle.system.specs.System.{four_true, list_true}

-- a clause at the front, with what it says
pub list_clause : (t : Bool) (a b c d : ℕ) (rest : List ℕ) (s x : ℕ) → four_true a b c d s x ≡ t
    → list_true (a ∷ (b ∷ (c ∷ (d ∷ rest)))) s x ≡ (elim t as (λ z. Bool) [ true ↦ list_true rest s x | false ↦ false ])
unfolding list_true
list_clause t a b c d rest s x e = ap (λ z. elim z as (λ y. Bool) [ true ↦ list_true rest s x | false ↦ false ]) e

module _ (l : List ℕ) (i : ℕ) where
  -- the clause at i is true
  abbrev pub true_at : ℕ → ℕ → Bool
  true_at s x = four_true (get_or l i 0) (get_or l (i + 1) 0) (get_or l (i + 2) 0) (get_or l (i + 3) 0) s x

  -- the clause at i stands before the rest
  pub next_four : i + 3 < length l
      → drop i l ≡ get_or l i 0 ∷ (get_or l (i + 1) 0 ∷ (get_or l (i + 2) 0 ∷ (get_or l (i + 3) 0 ∷ drop (i + 4) l)))
  next_four h =
      let e : i + 1 + 1 ≡ i + 2 = omega arith in
      let f : i + 2 + 1 ≡ i + 3 = omega arith in
      let g : i + 3 + 1 ≡ i + 4 = omega arith in
      (rw e at (next_two l i (omega arith))) ∙ rw (next_two l (i + 2) (omega arith), f, g)

  -- fewer than four masks are left
  pub few_left : length l ≤ i + 3 → length (drop i l) ≤ 3
  few_left h = omega (arith, length-drop i l)

  module _ (s x : ℕ) where
    -- a false clause decides
    pub list_stops : i + 3 < length l → true_at s x ≡ false → list_true (drop i l) s x ≡ false
    list_stops h e = rw (next_four h) (list_clause false _ _ _ _ _ s x e)

    -- a true clause is passed
    pub list_passes : i + 3 < length l → true_at s x ≡ true → list_true (drop i l) s x ≡ list_true (drop (i + 4) l) s x
    list_passes h e = rw (next_four h) (list_clause true _ _ _ _ _ s x e)

    -- no clause is left
    pub list_ends : length l ≤ i + 3 → list_true (drop i l) s x ≡ true
    unfolding list_true
    list_ends h = short (drop i l) (few_left h)
      where
        short : (d : List ℕ) → length d ≤ 3 → list_true d s x ≡ true
        short [] b = refl
        short (p ∷ []) b = refl
        short (p ∷ (q ∷ [])) b = refl
        short (p ∷ (q ∷ (r ∷ []))) b = refl
        short (p ∷ (q ∷ (r ∷ (t ∷ d)))) b = absurd (omega arith)

-- The sum of the levels, layer by layer: layer l has the states that sit at level l or above. Where some state sits at each level from 1 to n, each of
-- these layers has fewer states than the one below it, so layer l + 1 has at most the number stored less l, and the sum is bounded by these. Assumes
-- nothing.
use Prim.Native.Nat.{ℕ, zero, suc, ◌+◌, ◌*◌, ◌-◌, min, ◌≤◌}
use mathlib.Core.Bool.{true}
use mathlib.Core.List.{List, [], ◌∷◌}
use mathlib.Core.Path.{◌≡◌, refl, sym, ◌∙◌}
use native.Mathlib.Omega.{arith}
use native.Mathlib.Nat.{mul-suc, suc-mul}
use borrow.Author.Tests.{leb-true, leb-false, eq-eqb, ne_eqb}
use lib.Dec.{eqb, leb}
use lib.ListN.{length}
use Rattle.base.proofs.Tests.{test}
use Rattle.ic3.specs.Search.{Entry, level_of, states}
use Rattle.ic3.specs.Shape.{Tidy}
use Rattle.ic3.specs.Demands.{listed}
use Rattle.ic3.specs.Exact.{up_to}
use Rattle.ic3.proofs.Store.{rest_level, total, listed_none, states_listed, states_split, states_all}
use Rattle.ic3.proofs.Round.{level_head}

-- some state sits at level l
abbrev pub Has : List Entry → ℕ → Type 0
Has st l = (s : ℕ) × (level_of st s ≡ l)

pub taken_has : (st : List Entry) → Tidy st → (l : ℕ) → 1 ≤ l → (states (eqb l) st ≡ [] → ⊥) → Has st l
taken_has st w l h f = pick (states (eqb l) st) refl f
  where
    pick : (x : List ℕ) → states (eqb l) st ≡ x → (x ≡ [] → ⊥) → Has st l
    pick [] q g = absurd (g refl)
    pick (s ∷ x) q g = (s, level_head st w l h s x q)

-- the layers from 1 to l, summed
layers : ℕ → List Entry → ℕ
layers zero st = 0
layers (suc l) st = length (states (leb (suc l)) st) + layers l st

layers_entry : (l : ℕ) (x : Entry) (es : List Entry) → layers l (x ∷ es) ≡ min x.level l + layers l es
unfolding layers states
layers_entry zero x es = omega arith
layers_entry (suc l) x es =
    test (leb (suc l) x.level)
    (λ e. rw (e, states) (omega (arith, layers_entry l x es, leb-true (suc l) x.level e)))
    (λ e. rw (e, states) (omega (arith, layers_entry l x es, leb-false (suc l) x.level e)))

layers_total : (n : ℕ) (st : List Entry) → Tidy st → ((s : ℕ) → level_of st s ≤ n) → total st ≤ layers n st
unfolding total
layers_total n [] w h = omega arith
layers_total n (x ∷ es) w h =
    let r = rest_level x es w n h in
    omega (arith, r.0, layers_entry n x es, layers_total n es w.2 r.1)

module _ (st : List Entry) (w : Tidy st) (n : ℕ) (all : (l : ℕ) → 1 ≤ l → l ≤ n → Has st l) where
  layer_less : (l : ℕ) → 1 ≤ l → l ≤ n → suc (length (states (leb (suc l)) st)) ≤ length (states (leb l) st)
  layer_less l h b =
      let x = all l h b in
      omega (
        arith,
        states_split l st,
        pick (states (eqb l) st) x.0 (states_listed (eqb l) (ne_eqb l 0 (omega arith)) st w x.0 ∙ eq-eqb l (level_of st x.0) (sym x.1)),
      )
    where
      pick : (x : List ℕ) (s : ℕ) → listed x s ≡ true → 1 ≤ length x
      pick [] s e = listed_none s e
      pick (y ∷ x) s e = omega arith

  layer_low : (l : ℕ) → l ≤ n → length (states (leb (suc l)) st) + l ≤ length st
  layer_low zero b = omega (arith, states_all st w)
  layer_low (suc l) b = omega (arith, layer_less (suc l) (omega arith) b, layer_low l (omega arith))

  layers_low : (l : ℕ) → l ≤ suc n → layers l st + up_to l ≤ l * suc (length st)
  unfolding layers up_to
  layers_low zero b = omega arith
  layers_low (suc l) b = omega (arith, layer_low l (omega arith), layers_low l (omega arith), suc-mul l (suc (length st)))

  -- layer i + 1 as it is
  layers_but : (i k : ℕ) → i + k ≤ n
      → layers (suc (i + k)) st + up_to (suc (i + k)) ≤ length (states (leb (suc i)) st) + suc i + (i + k) * suc (length st)
  unfolding layers up_to
  layers_but i zero b = let z : i + 0 ≡ i = omega arith in rw z (omega (arith, layers_low i (omega arith)))
  layers_but i (suc k) b =
      let z : i + suc k ≡ suc (i + k) = omega arith in
      rw z (omega (arith, layers_but i k (omega arith), layer_low (suc (i + k)) (omega arith), suc-mul (i + k) (suc (length st))))

  module _ (top : (s : ℕ) → level_of st s ≤ suc n) where
    pub total_taken : total st + up_to n ≤ suc n * length st
    unfolding up_to
    total_taken =
        omega (arith, layers_total (suc n) st w top, layers_low (suc n) (omega arith), mul-suc (suc n) (length st))

    pub total_but : (i : ℕ) → i ≤ n → total st + up_to n ≤ length (states (leb (suc i)) st) + i + n * length st
    unfolding up_to
    total_but i b =
        let z : i + (n - i) ≡ n = omega arith in
        let x = rw z at (layers_but i (n - i) (omega arith)) in
        omega (arith, x, layers_total (suc n) st w top, mul-suc n (length st))

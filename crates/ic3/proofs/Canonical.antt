-- Beyond demand 2: the path is the canonical one, so that it depends on the model alone. What is reached within k steps lies in R(k) at all
-- times, so the least state of R(k) that was found is not above the least that is reached; and the path itself shows that it is reached. The
-- fact is carried along by the open duties. Two canonical paths are equal state by state, from the end. Assumes nothing.
use Prim.Native.Nat.{ℕ, zero, suc, ◌≤◌, ◌<◌}
use mathlib.Core.Bool.{Bool, true, false, ◌&&◌}
use mathlib.Core.List.{List, [], ◌∷◌}
use mathlib.Core.Option.{Option, none, some}
use mathlib.Core.Path.{◌≡◌, refl}
use native.Mathlib.Omega.{arith}
use lib.ListN.{length}
use Rattle.ic3.specs.Answers.{Least, Answers}
use Rattle.base.proofs.Tests.{clash, first_false}
use Rattle.ic3.specs.Model.{Model}
use Rattle.ic3.specs.Search.{Entry, level_of, put, R, Phase, look, settle, raise, wanted, Move, go, Rounds, settled, tested, found, deeper, kept, react, begun, searched}
use Rattle.ic3.specs.Demands.{Reach, starts, steps, Leads, Unsafe}
use Rattle.ic3.specs.Canonical.{Within, LeastFrom, Canonical, CanonicalPath}
use Rattle.ic3.proofs.Least.{order}
use Rattle.ic3.proofs.Frames.{Frames, leads_state, level_inside, reach_level}
use Rattle.ic3.proofs.Round.{Lands, round_lands, tested_lands, kept_lands}
use Rattle.ic3.proofs.Sound.{Kept, Stands, Then, search_keeps}

module _ (M : Model) where
  -- what is reached within k steps lies in R(k)
  within_inside : (N : ℕ) (f : ℕ → ℕ) → Frames M N f → (k s : ℕ) → Within M k s → R M f k s ≡ true
  unfolding R
  within_inside N f F zero s w = begun w.reach w.few
    where
      begun : {k s : ℕ} → Reach M k s → k ≤ 0 → M.start s ≡ true
      begun (starts h e) l = e
      begun (steps r h e) l = absurd (omega arith)
  within_inside N f F (suc k) s w = level_inside M f k s (omega (arith, reach_level M N f F w.reach, w.few))

  -- no state of R(k) below s passes, so none that is reached within k steps
  none_below : (N : ℕ) (st : List Entry) → Kept M N st → (k : ℕ) (p : ℕ → Bool) (s : ℕ)
      → ((u : ℕ) → u < s → (R M (level_of st) k u && p u) ≡ false) → (u : ℕ) → u < s → p u ≡ true → Within M k u → ⊥
  none_below N st K k p s a u h e w =
      clash (within_inside N (level_of st) K.frames k u w) (first_false (R M (level_of st) k u) (p u) (a u h) e)

  abbrev C : ℕ → List Entry → Phase → ℕ → Type 0
  C N st look q = Unit {0}
  C N st (settle k s ds) q = LeastFrom M (suc k) s ds
  C N st (raise i s todo) q = Unit {0}

  module _ (r : Rounds) (room allowance : ℕ) where
    abbrev P : ℕ → Move → Type 0
    P = Then M r room allowance C (λ v q. CanonicalPath M v)

    found_least : (N : ℕ) (st : List Entry) → Kept M N st → (s q : ℕ) → Least M.size (wanted M N st look) s → P q (found N st s)
    unfolding found wanted
    found_least zero st K s q a = none_below 0 st K 0 M.bad s a.first
    found_least (suc k) st K s q a = none_below (suc k) st K (suc k) M.bad s a.first

    deeper_least : (N : ℕ) (st : List Entry) → Kept M N st → (k s : ℕ) (ds : List ℕ) (t q : ℕ) → LeastFrom M (suc k) s ds
        → Least M.size (wanted M N st (settle k s ds)) t → P q (deeper N st k s ds t)
    unfolding deeper wanted
    deeper_least N st K zero s ds t q c a = (none_below N st K 0 (λ u. M.step u s) t a.first, c)
    deeper_least N st K (suc k) s ds t q c a = (none_below N st K (suc k) (λ u. M.step u s) t a.first, c)

    kept_least : (N : ℕ) (st : List Entry) (k s : ℕ) (ds : List ℕ) (q : ℕ) → LeastFrom M (suc k) s ds → P q (kept room N st k ds)
    unfolding settled
    kept_least N st k s ds q c = kept_lands (P q) room N st k ds (λ h. rest ds c) (λ h. tt)
      where
        rest : (xs : List ℕ) → LeastFrom M (suc k) s xs → P q (go (settled N st k xs))
        rest [] c = tt
        rest (x ∷ xs) c = c.1

    round_least : (N : ℕ) (st : List Entry) (i q : ℕ) → Lands (P q) N st i
    round_least N st i q = record { next_level = λ j s todo a b e g. tt; gap = λ j a b t g. tt; again = λ e t. tt }

    tested_least : (N : ℕ) (st : List Entry) (i : ℕ) (todo : List ℕ) (q : ℕ) → 1 ≤ i → i < N → P q (tested r N st i todo)
    tested_least N st i todo q o h =
        tested_lands (P q) N st r i todo o h
        (record { same_level = λ s rest e g k. tt; next_levels = λ k. round_least N st (suc i) q })

    react_least : (N : ℕ) (st : List Entry) (ph : Phase) (o : Option ℕ) (q : ℕ) → Kept M N st → Stands M N st ph
        → Answers M.size (wanted M N st ph) o → C N st ph q → P (suc q) (react r room N st ph o)
    unfolding react
    react_least N st look (some s) q K w a c = found_least N st K s (suc q) a
    react_least N st look none q K w a c =
        round_lands (P (suc q)) (suc N) st r N 1 (omega arith) (omega arith) (round_least (suc N) st 1 (suc q))
    react_least N st (settle k s ds) (some t) q K w a c = deeper_least N st K k s ds t (suc q) c a
    react_least N st (settle k s ds) none q K w a c = kept_least N (put st s (suc k)) k s ds (suc q) c
    react_least N st (raise i s todo) (some t) q K w a c = tested_least N st i todo (suc q) w.above w.below
    react_least N st (raise i s todo) none q K w a c = tested_least N (put st s (suc i)) i todo (suc q) w.above w.below

    -- the path of every search is canonical
    pub path_canonical : CanonicalPath M (searched r M room allowance).verdict
    unfolding begun searched
    path_canonical = search_keeps M r room allowance C (λ v q. CanonicalPath M v) react_least (λ N st ph K w c. tt) (λ e. tt) (λ l n. tt) (λ h. tt)

  within_now : {k s : ℕ} → Reach M k s → Within M k s
  within_now {k} r = record { distance = k; few = omega arith; reach = r }

  -- two of the same length, state by state from the end
  same_states : (k s s' : ℕ) (xs xs' : List ℕ) → length xs ≡ length xs' → Reach M k s → Reach M k s' → Leads M s xs → Leads M s' xs'
      → LeastFrom M k s xs → LeastFrom M k s' xs' → (s ≡ s') × (xs ≡ xs')
  same_states k s s' [] [] e r r' w w' l l' =
      (order s s' (λ h. l' s h w.1 (within_now r)) (λ h. l s' h w'.1 (within_now r')), refl)
  same_states k s s' [] (x ∷ xs') e r r' w w' l l' = absurd (omega arith)
  same_states k s s' (x ∷ xs) [] e r r' w w' l l' = absurd (omega arith)
  same_states k s s' (t ∷ xs) (t' ∷ xs') e r r' w w' l l' =
      let rest = same_states (suc k) t t' xs xs' (omega arith) (steps r (leads_state M t xs w.2) w.1)
      (steps r' (leads_state M t' xs' w'.2) w'.1) w.2 w'.2 l.1 l'.1 in
      let q : t ≡ t' = rest.0 in
      let z : xs ≡ xs' = rest.1 in
      (order s s' (λ h. l'.0 s h (rw q at w.1) (within_now r)) (λ h. l.0 s' h (rw (← q) at w'.1) (within_now r')), cc)

  -- no two shortest paths are canonical
  pub canonical_unique : (p q : List ℕ) → Unsafe M p → Canonical M p → Unsafe M q → Canonical M q → p ≡ q
  canonical_unique [] q u c v d = absurd c
  canonical_unique (s ∷ xs) [] u c v d = absurd d
  canonical_unique (s ∷ xs) (t ∷ ys) u c v d =
      let n : length (s ∷ xs) ≤ length (t ∷ ys) = u.shortest (t ∷ ys) v.real in
      let m : length (t ∷ ys) ≤ length (s ∷ xs) = v.shortest (s ∷ xs) u.real in
      let r = same_states 0 s t xs ys (omega arith)
      (starts (leads_state M s xs u.real.1) u.real.0) (starts (leads_state M t ys v.real.1) v.real.0)
      u.real.1 v.real.1 c d in
      let q : s ≡ t = r.0 in
      let z : xs ≡ ys = r.1 in cc

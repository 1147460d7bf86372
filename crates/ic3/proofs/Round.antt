-- Where steps 4 and 5 come to the next question, in one law for whatever is to be shown of it: at the next stored state that sits at a level
-- below N, all levels between being empty; or, with all those levels empty, at the first level that no state has, which ends the search with
-- safe; or at step 2 with a state at every level below N. Each part goes along its definition. Full and shortened rounds have this one law: where a
-- round does not go on it has come to an empty level, so step 5 does not lead to step 2. The same for a settled duty: it is kept, or there is no
-- room. Assumes nothing.
use Prim.Native.Nat.{ℕ, zero, suc, ◌+◌, ◌-◌, ◌≤◌, ◌<◌}
use mathlib.Core.Bool.{Bool, true, false}
use mathlib.Core.List.{List, [], ◌∷◌}
use mathlib.Core.Path.{◌≡◌, refl, sym, ap, ◌∙◌}
use native.Mathlib.Omega.{arith}
use borrow.Author.Tests.{eqb-true, eqb-false, eq-eqb, ne_eqb}
use lib.Dec.{eqb, leb}
use lib.ListN.{length}
use Rattle.base.proofs.Tests.{test, clash}
use Rattle.ic3.specs.Search.{Entry, level_of, states, look, raise, at, safe, gave_up, no_room, Move, go, stop, judge, Rounds, full, shortened, goes_on, round, tested, settled, fits, kept}
use Rattle.ic3.specs.Shape.{Tidy}
use Rattle.ic3.specs.Demands.{listed}
use Rattle.ic3.proofs.Store.{fits_true, fits_false, listed_head, listed_other, states_listed, states_split, states_length}

-- no stored state has a level from i up to below j
abbrev pub Empty : List Entry → ℕ → ℕ → Type 0
Empty st i j = (k : ℕ) → i ≤ k → k < j → states (eqb k) st ≡ []

-- each level from 1 up to below j has a stored state
abbrev pub Taken : List Entry → ℕ → Type 0
Taken st j = (k : ℕ) → 1 ≤ k → k < j → states (eqb k) st ≡ [] → ⊥

-- what is to be shown of a round from level i on
pub record Lands (P : Move → Type 0) (N : ℕ) (st : List Entry) (i : ℕ) : Type 0 where
  pub next_level : (j s : ℕ) (todo : List ℕ) → i ≤ j → j < N → Empty st i j → states (eqb j) st ≡ s ∷ todo
      → P (go (at N st (raise j s todo)))
  pub gap : (j : ℕ) → 1 ≤ j → j < N → Taken st j → states (eqb j) st ≡ [] → P (stop (safe (states (leb j) st)))
  pub again : Empty st i N → Taken st N → P (go (at N st look))

-- every state of the list l that sits at level i is in the list r
abbrev pub Left : List Entry → ℕ → List ℕ → List ℕ → Type 0
Left st i l r = (t : ℕ) → level_of st t ≡ i → listed l t ≡ true → listed r t ≡ true

-- What is to be shown of step 4 at level i, with `todo` still to be looked at: it comes to the next of them that sits at level i; or none of
-- them does, and it goes on from the next level.
pub record Passes (P : Move → Type 0) (N : ℕ) (st : List Entry) (i : ℕ) (todo : List ℕ) : Type 0 where
  pub same_level : (s : ℕ) (rest : List ℕ) → level_of st s ≡ i → length rest < length todo → Left st i todo (s ∷ rest)
      → P (go (at N st (raise i s rest)))
  pub next_levels : Left st i todo [] → Lands P N st (suc i)

-- one number more
more : {Q : ℕ → Type 0} (i j : ℕ) → ((k : ℕ) → i ≤ k → k < j → Q k) → Q j → (k : ℕ) → i ≤ k → k < suc j → Q k
more {Q} i j f q k a b =
    test (eqb k j) (λ e. rw (eqb-true k j e) q) (λ e. f k a (omega (arith, eqb-false k j e)))

-- a level that has a state is taken
pub taken_more : (st : List Entry) (i s : ℕ) (todo : List ℕ) → Taken st i → states (eqb i) st ≡ s ∷ todo → Taken st (suc i)
taken_more st i s todo w q =
    more {Q = λ k. states (eqb k) st ≡ [] → ⊥} 1 i w (λ z. absurd (let b : ◌≡◌ {A = ℕ} 0 1 = cc in omega arith))

-- a round stops at an empty level only
pub stops_empty : (r : Rounds) (here : List ℕ) → goes_on r here ≡ false → here ≡ []
unfolding goes_on
stops_empty full here e = clash refl e
stops_empty shortened [] e = refl
stops_empty shortened (s ∷ here) e = clash refl e

module _ (P : Move → Type 0) (N : ℕ) (st : List Entry) where
  -- step 5 from level i on
  pub judge_lands : ((j : ℕ) → 1 ≤ j → j < N → Taken st j → states (eqb j) st ≡ [] → P (stop (safe (states (leb j) st))))
      → (Taken st N → P (go (at N st look)))
      → (left i : ℕ) → left + i ≡ N → 1 ≤ i → Taken st i → P (judge N left i st)
  unfolding judge
  judge_lands gap again zero i e h w = again (λ k a b. w k a (omega arith))
  judge_lands gap again (suc left) i e h w =
      pick (states (eqb i) st) refl (λ t. judge_lands gap again left (suc i) (omega arith) (omega arith) t)
    where
      pick : (l : List ℕ) → states (eqb i) st ≡ l → (Taken st (suc i) → P (judge N left (suc i) st))
          → P (elim l [ [] ↦ stop (safe (states (leb i) st)) | s ∷ todo ↦ judge N left (suc i) st ])
      pick [] q r = gap i h (omega arith) w q
      pick (s ∷ todo) q r = r (taken_more st i s todo w q)

  module _ (r : Rounds) where
    -- where the round does not go on past level i, step 5 does not lead to step 2
    stops : {i₀ : ℕ} → Lands P N st i₀ → (i : ℕ) → 1 ≤ i → i < N → goes_on r (states (eqb i) st) ≡ false
        → (left j : ℕ) → left + j ≡ N → 1 ≤ j → Taken st j → P (judge N left j st)
    stops L i h l e = judge_lands L.gap (λ t. absurd (t i h l (stops_empty r (states (eqb i) st) e)))

    round_goes : (i₀ : ℕ) → Lands P N st i₀ → (left i : ℕ) → left + i ≡ N → 1 ≤ i → i₀ ≤ i → Empty st i₀ i → P (round r N left i st)
    unfolding round
    round_goes i₀ L zero i e h g w =
        judge_lands L.gap (L.again (λ k a b. w k a (omega arith))) _ 1 (omega arith) (omega arith) (λ k a b. absurd (omega arith))
    round_goes i₀ L (suc left) i e h g w =
        pick (states (eqb i) st) refl (λ t. round_goes i₀ L left (suc i) (omega arith) (omega arith) (omega arith) t)
      where
        pick : (l : List ℕ) → states (eqb i) st ≡ l → (Empty st i₀ (suc i) → P (round r N left (suc i) st)) → P (round r N (suc left) i st)
        pick [] q p =
            rw (q, round)
            (test (goes_on r [])
            (λ b. rw b (p (more {Q = λ k. states (eqb k) st ≡ []} i₀ i w q)))
            (λ b. rw b (stops L i h (omega arith) (ap (goes_on r) q ∙ b) _ _ (omega arith) (omega arith) (λ k a b. absurd (omega arith)))))
        pick (s ∷ todo) q p = rw (q, round) (L.next_level i s todo g (omega arith) w q)

    -- a round from level i on
    pub round_lands : (left i : ℕ) → left + i ≡ N → 1 ≤ i → Lands P N st i → P (round r N left i st)
    round_lands left i e h L = round_goes i L left i e h (omega arith) (λ k a b. absurd (omega arith))

    -- step 4 at level i, with `todo` still to be looked at
    pub tested_lands : (i : ℕ) (todo : List ℕ) → 1 ≤ i → i < N → Passes P N st i todo → P (tested r N st i todo)
    unfolding tested
    tested_lands i [] o h p =
        let L = p.next_levels (λ t e m. m) in
        test (goes_on r (states (eqb i) st))
        (λ b. rw (b, tested) (round_lands (N - suc i) (suc i) (omega arith) (omega arith) L))
        (λ b. rw (b, tested) (stops L i o h b _ _ (omega arith) (omega arith) (λ k a b. absurd (omega arith))))
    tested_lands i (s ∷ todo) o h p = pick (eqb (level_of st s) i) refl (tested_lands i todo o h)
      where
        skip : eqb (level_of st s) i ≡ false → Left st i (s ∷ todo) todo
        skip q t e m = sym (listed_other todo s t (λ z. eqb-false (level_of st s) i q (rw z at e))) ∙ m

        pick : (b : Bool) → eqb (level_of st s) i ≡ b → (Passes P N st i todo → P (tested r N st i todo))
            → P (elim b [ true ↦ go (at N st (raise i s todo)) | false ↦ tested r N st i todo ])
        pick true q f = p.same_level s todo (eqb-true (level_of st s) i q) (omega arith) (λ t e m. m)
        pick false q f =
            f (record {
              same_level = λ x rest e l k. p.same_level x rest e (omega arith) (λ t z m. k t z (skip q t z m));
              next_levels = λ k. p.next_levels (λ t z m. k t z (skip q t z m));
            })

-- Where a duty was settled: the search goes on, or the store has outgrown the room.
pub kept_lands : (P : Move → Type 0) (room N : ℕ) (st : List Entry) (k : ℕ) (ds : List ℕ) → (length st ≤ room → P (go (settled N st k ds)))
    → (room < length st → P (stop (gave_up no_room))) → P (kept room N st k ds)
unfolding kept
kept_lands P room N st k ds f g =
    test (fits room st)
    (λ e. rw (e, kept) (f (fits_true room st e)))
    (λ e. rw (e, kept) (g (fits_false room st e)))

-- no state sits at an empty level
pub empty_level : (st : List Entry) → Tidy st → (i : ℕ) → 1 ≤ i → states (eqb i) st ≡ [] → (s : ℕ) → level_of st s ≡ i → ⊥
unfolding listed
empty_level st w i h q s e =
    clash (states_listed (eqb i) (ne_eqb i 0 (omega arith)) st w s ∙ eq-eqb i (level_of st s) (sym e)) (rw q)

-- the first state of a level sits there
pub level_head : (st : List Entry) → Tidy st → (i : ℕ) → 1 ≤ i → (s : ℕ) (todo : List ℕ) → states (eqb i) st ≡ s ∷ todo → level_of st s ≡ i
level_head st w i h s todo q =
    sym (eqb-true i (level_of st s)
    (sym (states_listed (eqb i) (ne_eqb i 0 (omega arith)) st w s) ∙ (rw q (listed_head todo s))))

-- with a state at every level below N, at least N - 1 are stored
pub taken_length : (st : List Entry) (N : ℕ) → Taken st N → N ≤ suc (length st)
taken_length st zero w = omega arith
taken_length st (suc n) w = count n 1 (omega arith) (omega arith) (omega (arith, states_length (leb 1) st))
  where
    first : (j : ℕ) → (states (eqb j) st ≡ [] → ⊥) → 1 ≤ length (states (eqb j) st)
    first j f = pick (states (eqb j) st) f
      where
        pick : (l : List ℕ) → (l ≡ [] → ⊥) → 1 ≤ length l
        pick [] g = absurd (g refl)
        pick (x ∷ l) g = omega arith

    count : (left j : ℕ) → left + j ≡ suc n → 1 ≤ j → j + length (states (leb j) st) ≤ suc (length st) → suc n ≤ suc (length st)
    count zero j e o h = omega arith
    count (suc left) j e o h =
        count left (suc j) (omega arith) (omega arith) (omega (arith, states_split j st, first j (w j o (omega arith))))

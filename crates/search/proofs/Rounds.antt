-- Steps 4 and 5 over the level store. The states that a window of the store has at a level are none, if no index of it has the level, and else
-- begin with the state of the first index that has it; that state's level is the entry's, since no state is stored twice. So step 4 comes to the
-- first entry of the level from j on; where there is none, one before j decides whether it goes on to the next level; and step 5 stops at the least
-- gap. Assumes nothing.
use Prim.Native.Nat.{ℕ, zero, suc, ◌+◌, ◌-◌, ◌≤◌, ◌<◌}
use mathlib.Core.List.{List, [], ◌∷◌}
use mathlib.Core.Path.{◌≡◌, refl, sym, ap, ◌∙◌}
use native.Mathlib.Omega.{arith}
use native.Mathlib.Numerals.{add-one}
use borrow.Author.Tests.{eqb-true, eqb-false, eq-eqb, ne_eqb, ltb-true, ltb-false}
use lib.Dec.{eqb, leb, ltb}
use lib.ListN.{get_or}
use Rattle.base.proofs.Tests.{test}
use Rattle.ic3.specs.Search.{level_of, states, look, raise, at, safe, go, stop, judge, goes_on, round, tested}
use Rattle.ic3.specs.Shape.{Tidy}
use Rattle.call.specs.Call.{rounds}
use Rattle.search.specs.Lent.{window, store_of}
use Rattle.search.specs.Inner.{tested_from, Absent, FirstAt, LeastGap}

-- ---- windows
module _ (count : ℕ) (ss ls : List ℕ) where
  -- a level that no index of the window has
  pub states_absent : (i left j : ℕ) → left + j ≡ count → Absent ls j count i → states (eqb i) (window left j ss ls) ≡ []
  unfolding window states
  states_absent i zero j e f = refl
  states_absent i (suc left) j e f =
      test (eqb i (get_or ls j 0))
      (λ q. absurd (f j (omega arith) (omega arith) (sym (eqb-true i (get_or ls j 0) q))))
      (λ q. rw (q, states) (states_absent i left (suc j) (omega arith) (λ l a b. f l (omega arith) b)))

  -- a level that the window has no states of
  pub states_none : (i left j : ℕ) → left + j ≡ count → states (eqb i) (window left j ss ls) ≡ [] → Absent ls j count i
  unfolding window states
  states_none i zero j e f l a b q = omega arith
  states_none i (suc left) j e f l a b q =
      test (eqb i (get_or ls j 0))
      (λ p. absurd (let z = rw (p, states) at f in let o : ◌≡◌ {A = ℕ} 0 1 = cc in omega arith))
      (λ p. test (eqb l j)
      (λ r. eqb-false i (get_or ls j 0) p (sym (rw (eqb-true l j r) at q)))
      (λ r. states_none i left (suc j) (omega arith) (rw (p, states) at f) l (omega (arith, eqb-false l j r)) b q))

  -- the first index k of the window that has the level
  pub states_first : (i k left j : ℕ) → left + j ≡ count → j ≤ k → k < count → get_or ls k 0 ≡ i → Absent ls j k i
      → states (eqb i) (window left j ss ls) ≡ get_or ss k 0 ∷ states (eqb i) (window (count - suc k) (suc k) ss ls)
  unfolding window states
  states_first i k zero j e a b h f = absurd (omega arith)
  states_first i k (suc left) j e a b h f =
      test (eqb k j)
      (λ q. let z : k ≡ j = eqb-true k j q in
      let o : count - suc j ≡ left = omega arith in
      rw (eq-eqb i (get_or ls j 0) (sym (rw z at h)), states) (rw (z, o)))
      (λ q. rw (ne_eqb i (get_or ls j 0) (λ z. f j (omega arith) (omega (arith, eqb-false k j q)) (sym z)), states)
      (states_first i k left (suc j) (omega arith) (omega (arith, eqb-false k j q)) b h (λ l c d. f l (omega arith) d)))

  -- an entry's level is its state's level
  pub level_entry : (k left j : ℕ) → left + j ≡ count → j ≤ k → k < count → Tidy (window left j ss ls)
      → (level_of (window left j ss ls) (get_or ss k 0) ≡ get_or ls k 0) × (1 ≤ get_or ls k 0)
  unfolding window level_of
  level_entry k zero j e a b w = absurd (omega arith)
  level_entry k (suc left) j e a b w =
      test (eqb k j)
      (λ q. rw (eqb-true k j q) (rw (eq-eqb (get_or ss j 0) (get_or ss j 0) refl, level_of) refl, w.0))
      (λ q. let r = level_entry k left (suc j) (omega arith) (omega (arith, eqb-false k j q)) b w.2 in (
        rw (ne_eqb (get_or ss j 0) (get_or ss k 0) (λ z. absurd (omega (arith, ap (level_of (window left (suc j) ss ls)) z, w.1, r.0, r.1))), level_of)
            r.0,
        r.1,
      ))

-- ---- step 4
module _ (N count : ℕ) (ss ls : List ℕ) where
  -- with no level left below N, step 5
  pub round_judged : (i : ℕ) → i ≡ N → round rounds N (N - i) i (store_of count ss ls) ≡ judge N (N - 1) 1 (store_of count ss ls)
  unfolding round
  round_judged i h = let e : N - i ≡ 0 = omega arith in rw e

  module _ (i : ℕ) (l : i < N) where
    -- the first entry of a level
    pub round_raises : (k : ℕ) → k < count → FirstAt ls 0 count i k
        → round rounds N (N - i) i (store_of count ss ls)
        ≡ go (at N (store_of count ss ls) (raise i (get_or ss k 0) (states (eqb i) (window (count - suc k) (suc k) ss ls))))
    unfolding round store_of
    round_raises k b f =
        let e : N - i ≡ suc (N - suc i) = omega arith in
        rw e (rw (states_first count ss ls i k count 0 (omega arith) (omega arith) b (f.here b) f.before, round))

    -- a level without entries: a shortened round does not go on
    pub round_stops : Absent ls 0 count i → round rounds N (N - i) i (store_of count ss ls) ≡ judge N (N - 1) 1 (store_of count ss ls)
    unfolding round goes_on store_of
    round_stops f =
        let e : N - i ≡ suc (N - suc i) = omega arith in
        rw e (rw (states_absent count ss ls i count 0 (omega arith) f, round))

  module _ (i j : ℕ) (m : j ≤ count) where
    -- the next entry of the level
    pub tested_raises : Tidy (store_of count ss ls) → (k : ℕ) → k < count → FirstAt ls j count i k
        → tested_from N count i j ss ls
        ≡ go (at N (store_of count ss ls) (raise i (get_or ss k 0) (states (eqb i) (window (count - suc k) (suc k) ss ls))))
    unfolding tested_from tested store_of
    tested_raises w k b f =
        rw (states_first count ss ls i k (count - j) j (omega arith) f.from b (f.here b) f.before)
        (rw (eq-eqb _ i ((level_entry count ss ls k count 0 (omega arith) (omega arith) b w).0 ∙ f.here b), tested))

    module _ (f : Absent ls j count i) where
      -- no entry is left to be tested, and one that was sits there still: on to the next level
      pub tested_on : (k : ℕ) → k < j → get_or ls k 0 ≡ i → tested_from N count i j ss ls ≡ round rounds N (N - (i + 1)) (i + 1) (store_of count ss ls)
      unfolding tested_from tested goes_on store_of
      tested_on k b h = rw (states_absent count ss ls i (count - j) j (omega arith) f, add-one i) (pick (states (eqb i) (window count 0 ss ls)) refl)
        where
          pick : (l : List ℕ) → states (eqb i) (window count 0 ss ls) ≡ l
              → tested rounds N (window count 0 ss ls) i [] ≡ round rounds N (N - suc i) (suc i) (window count 0 ss ls)
          pick [] q = absurd (states_none count ss ls i count 0 (omega arith) q k (omega arith) (omega arith) h)
          pick (s ∷ l) q = rw (q, tested)

      -- none sits there any more: step 5
      pub tested_stops : Absent ls 0 j i → tested_from N count i j ss ls ≡ judge N (N - 1) 1 (store_of count ss ls)
      unfolding tested_from tested goes_on store_of
      tested_stops g =
          rw (states_absent count ss ls i (count - j) j (omega arith) f)
          (rw (states_absent count ss ls i count 0 (omega arith) none, tested))
        where
          none : Absent ls 0 count i
          none l a b q = test (ltb l j) (λ e. g l a (ltb-true l j e) q) (λ e. f l (ltb-false l j e) b q)

-- ---- step 5
module _ (N count r : ℕ) (ss ls : List ℕ) (g : LeastGap ls count N r) where
  -- a level below the gap is passed
  judge_taken : (left i : ℕ) → 1 ≤ i → i < r → judge N (suc left) i (store_of count ss ls) ≡ judge N left (suc i) (store_of count ss ls)
  unfolding judge store_of
  judge_taken left i h l = pick (states (eqb i) (window count 0 ss ls)) refl
    where
      pick : (t : List ℕ) → states (eqb i) (window count 0 ss ls) ≡ t
          → (elim t [ [] ↦ stop (safe (states (leb i) (window count 0 ss ls))) | s ∷ todo ↦ judge N left (suc i) (window count 0 ss ls) ])
          ≡ judge N left (suc i) (window count 0 ss ls)
      pick [] q = absurd (g.taken i h l (states_none count ss ls i count 0 (omega arith) q))
      pick (s ∷ todo) q = refl

  -- at the gap step 5 stops
  judge_free : (left : ℕ) → r < N → judge N (suc left) r (store_of count ss ls) ≡ stop (safe (states (leb r) (store_of count ss ls)))
  unfolding judge store_of
  judge_free left h = rw (states_absent count ss ls r count 0 (omega arith) (g.free h), judge)

  -- from any level up to the gap
  judge_stops : r < N → (left i : ℕ) → left + i ≡ N → 1 ≤ i → i ≤ r
      → judge N left i (store_of count ss ls) ≡ stop (safe (states (leb r) (store_of count ss ls)))
  judge_stops h zero i e a b = absurd (omega arith)
  judge_stops h (suc left) i e a b =
      test (eqb i r)
      (λ q. rw (eqb-true i r q) (judge_free left h))
      (λ q. judge_taken left i a (omega (arith, eqb-false i r q))
      ∙ judge_stops h left (suc i) (omega arith) (omega arith) (omega (arith, eqb-false i r q)))

  -- from any level, if each up to below N is taken
  judge_looks : N ≤ r → (left i : ℕ) → left + i ≡ N → 1 ≤ i → judge N left i (store_of count ss ls) ≡ go (at N (store_of count ss ls) look)
  unfolding judge
  judge_looks h zero i e a = refl
  judge_looks h (suc left) i e a =
      judge_taken left i a (omega arith) ∙ judge_looks h left (suc i) (omega arith) (omega arith)

  -- a gap below N makes the answer safe
  pub judge_safe : r < N → judge N (N - 1) 1 (store_of count ss ls) ≡ stop (safe (states (leb r) (store_of count ss ls)))
  judge_safe h = let o = g.from_one in judge_stops h (N - 1) 1 (omega arith) (omega arith) g.from_one

  -- with none, step 2
  pub judge_again : 1 ≤ N → N ≤ r → judge N (N - 1) 1 (store_of count ss ls) ≡ go (at N (store_of count ss ls) look)
  judge_again o h = judge_looks h (N - 1) 1 (omega arith) (omega arith)

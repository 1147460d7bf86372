-- Step 4 at entry j of level i, over the lent stores. If a state is found, the round goes on behind the entry. If none is, the entry's level becomes
-- i + 1: no earlier entry has its state, since a tidy store has no state twice, so that is `put`; and the entries behind it are as they were.
-- Assumes nothing.
use Prim.Native.Nat.{ℕ, zero, suc, ◌+◌, ◌-◌, ◌≤◌, ◌<◌}
use mathlib.Core.List.{List}
use mathlib.Core.Option.{none, some}
use mathlib.Core.Path.{◌≡◌, refl, sym, ap}
use native.Mathlib.Omega.{arith}
use native.Mathlib.Numerals.{add-one}
use borrow.Author.Tests.{eqb-true, eqb-false}
use lib.Dec.{eqb}
use lib.ListN.{length, get_or, set, take}
use Rattle.base.proofs.Tests.{test}
use Rattle.ic3.specs.Search.{level_of, states, raise, wanted, at, put, react, next}
use Rattle.ic3.specs.Shape.{Tidy}
use Rattle.ic3.proofs.Store.{put_tidy}
use Rattle.system.specs.System.{System, model}
use Rattle.question.specs.Question.{step_in}
use Rattle.call.specs.Call.{rounds}
use Rattle.search.specs.Lent.{window, store_of}
use Rattle.search.specs.Inner.{tested_from, Absent, Raises}
use Rattle.search.proofs.Windows.{window_apart}
use Rattle.search.proofs.Keeping.{put_found}
use Rattle.search.proofs.Rounds.{level_entry}
use Rattle.search.proofs.Asked.{step_next}

-- no earlier entry of a tidy window has the state of entry j: behind the earlier one its state has no level
entry_first : (count j : ℕ) (ss ls : List ℕ) (left m : ℕ) → left + m ≡ count → j < count → Tidy (window left m ss ls)
    → Absent ss m j (get_or ss j 0)
unfolding window
entry_first count j ss ls zero m e h w l a b q = omega arith
entry_first count j ss ls (suc left) m e h w l a b q =
    test (eqb l m)
    (λ p. let r = level_entry count ss ls j left (suc m) (omega arith) (omega (arith, eqb-true l m p)) h w.2 in
    let z : get_or ss m 0 ≡ get_or ss j 0 = rw (eqb-true l m p) at q in
    absurd (omega (arith, ap (level_of (window left (suc m) ss ls)) z, w.1, r.0, r.1)))
    (λ p. entry_first count j ss ls left (suc m) (omega arith) h w.2 l (omega (arith, eqb-false l m p)) b q)

module _ {n N count i j : ℕ} {ss ls : List ℕ} (w : Raises n N count i j ss ls) where
  -- a stored level is at least 1
  pub entry_level : 1 ≤ i
  unfolding store_of
  entry_level = rw w.here at (level_entry count ss ls j count 0 (omega arith) (omega arith) w.indexed w.asks.tidy).1

  -- the entry gets the next level
  raised_store : store_of count ss (set ls j (i + 1)) ≡ put (store_of count ss ls) (get_or ss j 0) (suc i)
  unfolding store_of
  raised_store =
      let b = w.indexed in
      let l : j < length ls = omega (arith, w.asks.holds.same, w.asks.holds.within) in
      rw (add-one i)
      (put_found count 0 j ss ls (get_or ss j 0) (suc i) (omega arith) (omega arith) refl
      (entry_first count j ss ls count 0 (omega arith) b w.asks.tidy) l)

  -- the store stays tidy
  pub raised_tidy : Tidy (store_of count ss (set ls j (i + 1)))
  raised_tidy = rw raised_store (put_tidy (store_of count ss ls) (get_or ss j 0) (suc i) (omega arith) w.asks.tidy)

module _ (y : System) (N count i j : ℕ) (ss ls : List ℕ) (w : Raises y.n N count i j ss ls) where
  -- a state was found: on behind the entry
  pub raise_not : (room t : ℕ) → some t ≡ step_in y.n y.w y.start y.step (take count ss) (take count ls) i (get_or ss j 0) 0
      → tested_from N count i (j + 1) ss ls
      ≡ next rounds (model y) room (at N (store_of count ss ls) (raise i (get_or ss j 0) (states (eqb i) (window (count - suc j) (suc j) ss ls))))
  unfolding react wanted tested_from
  raise_not room t q =
      rw (add-one j)
      (sym (step_next y count ss ls w.asks room N i (get_or ss j 0) (raise i (get_or ss j 0) _) (some t) refl q))

  -- none was found: on behind the entry, with the entry's level raised
  pub raise_up : (room : ℕ) → none ≡ step_in y.n y.w y.start y.step (take count ss) (take count ls) i (get_or ss j 0) 0
      → tested_from N count i (j + 1) ss (set ls j (i + 1))
      ≡ next rounds (model y) room (at N (store_of count ss ls) (raise i (get_or ss j 0) (states (eqb i) (window (count - suc j) (suc j) ss ls))))
  unfolding react wanted tested_from
  raise_up room q =
      rw (add-one j, raised_store w, window_apart (count - suc j) (suc j) j ss ls (i + 1) (omega arith))
      (sym (step_next y count ss ls w.asks room N i (get_or ss j 0) (raise i (get_or ss j 0) _) none refl q))

-- What `keep` leaves in front of the state store. Entry by entry, the states kept so far with those still to be kept are all that are to be kept,
-- since a state is written no further behind than where it was read. Assumes nothing.
use Prim.Native.Nat.{ℕ, suc, ◌+◌, ◌-◌, ◌≤◌, ◌<◌}
use mathlib.Core.List.{List, ◌∷◌, ◌++◌, append-nil}
use mathlib.Core.Path.{◌≡◌, refl, sym, ◌∙◌}
use native.Mathlib.Nat.{le_refl, sub-zero}
use native.Mathlib.Numerals.{add-one}
use native.Mathlib.Omega.{arith}
use borrow.Author.Tests.{le-leb, lt-leb}
use lib.Dec.{leb}
use lib.ListN.{length, get_or, set, take, length-set}
use lib.Seq.{take-suc-set, append_snoc, get_or-set_other}
use Rattle.ic3.specs.Search.{states}
use Rattle.search.specs.Lent.{window, store_of}

-- where an entry is left, it is the first of the window
window_opens : (count j : ℕ) (ss ls : List ℕ) → j < count
    → window (count - j) j ss ls ≡ record { state = get_or ss j 0; level = get_or ls j 0 } ∷ window (count - (j + 1)) (j + 1) ss ls
unfolding window
window_opens count j ss ls h =
    let e : count - j ≡ suc (count - (j + 1)) = omega arith in
    rw (e, add-one j)

-- a first entry of level i or more gives its state
states_with : (count i j : ℕ) (ss ls : List ℕ) → j < count → i ≤ get_or ls j 0
    → states (leb i) (window (count - j) j ss ls) ≡ get_or ss j 0 ∷ states (leb i) (window (count - (j + 1)) (j + 1) ss ls)
unfolding states
states_with count i j ss ls h q = rw (window_opens count j ss ls h) (rw (le-leb i (get_or ls j 0) q, states))

-- a first entry of a lower level gives none
states_without : (count i j : ℕ) (ss ls : List ℕ) → j < count → get_or ls j 0 < i
    → states (leb i) (window (count - j) j ss ls) ≡ states (leb i) (window (count - (j + 1)) (j + 1) ss ls)
unfolding states
states_without count i j ss ls h q = rw (window_opens count j ss ls h) (rw (lt-leb i (get_or ls j 0) q, states))

-- the entries below j are gone through, and the first `kept` of ss are the states kept of them
pub record Fronted (count i : ℕ) (before ls ss : List ℕ) (kept j : ℕ) : Type 0 where
  pub behind : kept ≤ j
  pub within : j ≤ count
  pub same : length ss ≡ length before
  pub rest : (l : ℕ) → j ≤ l → get_or ss l 0 ≡ get_or before l 0
  pub front : take kept ss ++ states (leb i) (window (count - j) j before ls) ≡ states (leb i) (store_of count before ls)

module _ (count i : ℕ) (before ls : List ℕ) where
  -- at the start nothing is gone through
  pub fronted_none : Fronted count i before ls before 0 0
  unfolding store_of
  fronted_none =
      record {
        behind = omega arith;
        within = omega arith;
        same = refl;
        rest = λ l h. refl;
        front = rw sub-zero;
      }

  module _ (ss : List ℕ) (kept j : ℕ) (f : Fronted count i before ls ss kept j) where
    -- the state at j is kept
    pub fronted_kept : j < count → count ≤ length before → i ≤ get_or ls j 0 → Fronted count i before ls (set ss kept (get_or ss j 0)) (kept + 1) (j + 1)
    fronted_kept h m q =
        let l : kept < length ss = omega (arith, f.behind, f.same) in
        let x = f.rest j (le_refl j) in
        record {
          behind = omega (arith, f.behind);
          within = omega arith;
          same = simp length-set f.same;
          rest = λ k g. get_or-set_other ss kept k (get_or ss j 0) 0 (λ e. omega (arith, f.behind)) ∙ f.rest k (omega arith);
          front =
              rw (add-one kept, take-suc-set ss kept (get_or ss j 0) l, append_snoc, x)
              (rw (states_with count i j before ls h q) at f.front);
        }

    -- the state at j is passed over
    pub fronted_passed : j < count → get_or ls j 0 < i → Fronted count i before ls ss kept (j + 1)
    fronted_passed h q =
        record {
          behind = omega (arith, f.behind);
          within = omega arith;
          same = f.same;
          rest = λ k g. f.rest k (omega arith);
          front = rw (states_without count i j before ls h q) at f.front;
        }

    -- at the end all are gone through
    pub fronted_all : count ≤ j → take kept ss ≡ states (leb i) (store_of count before ls)
    unfolding window states
    fronted_all h =
        let e : count - j ≡ 0 = omega arith in
        sym (append-nil (take kept ss)) ∙ (rw e at f.front)

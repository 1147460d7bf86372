-- Filling the store. Its first `count` numbers are the list of the numbers below `from`; the next one that passes is written behind them. If there is
-- none, that is the whole list; if there is one and no room for it, the whole list is longer than the store. Assumes nothing.
use Prim.Native.Nat.{ℕ, ◌+◌, ◌-◌, ◌^◌, ◌≤◌, ◌<◌}
use mathlib.Core.Bool.{Bool}
use mathlib.Core.List.{List, [], ◌++◌}
use mathlib.Core.Path.{◌≡◌, refl, ◌∙◌}
use native.Mathlib.Numerals.{add-one}
use native.Mathlib.Omega.{arith}
use borrow.Author.Tests.{lt-ltb, le-ltb}
use lib.ListN.{length, set, take, replicate, length-set}
use lib.Pow.{pow_mono}
use lib.Seq.{take-suc-set, length-take-le}
use Rattle.stores.specs.Over.{over}
use Rattle.stores.proofs.Over.{over_same, over_take, over_none}
use Rattle.question.proofs.Ranges.{Free, First}
use Rattle.into.specs.Into.{Lists, result, written}
use Rattle.into.proofs.Lists.{lists_none, lists_up, lists_then, lists_unique, lists_longer}

-- what the loop keeps; behind the first `count` numbers the store may hold anything
pub record Filling (size : ℕ) (p : ℕ → Bool) (lent store : List ℕ) (count from : ℕ) : Type 0 where
  pub same : length store ≡ length lent
  pub within : count ≤ length lent
  pub few : count ≤ from
  pub low : from ≤ size
  pub front : Lists from p (take count store)

-- so what the code adds to fits
pub filling_small : {n : ℕ} {p : ℕ → Bool} {lent store : List ℕ} {count from : ℕ} → n ≤ 32 → Filling (2 ^ n) p lent store count from
    → (count ≤ 2 ^ 32) × (from ≤ 2 ^ 32)
filling_small h f = let b = pow_mono h in (omega (arith, f.few, f.low), omega (arith, f.low))

module _ (size : ℕ) (p : ℕ → Bool) (lent : List ℕ) where
  pub filling_none : Filling size p lent lent 0 0
  filling_none = record { same = refl; within = omega arith; few = omega arith; low = omega arith; front = lists_none p }

  module _ (store : List ℕ) (count from : ℕ) (f : Filling size p lent store count from) where
    -- one more is written
    pub filling_more : (s : ℕ) → First from size p s → count < length lent → Filling size p lent (set store count s) (count + 1) (s + 1)
    filling_more s n h =
        let l : count < length store = omega (arith, f.same) in
        record {
          same = simp length-set f.same;
          within = omega arith;
          few = omega (arith, f.few, n.low);
          low = omega (arith, n.high);
          front =
              rw (add-one count, add-one s, take-suc-set store count s l)
              (lists_then p (lists_up p f.front s n.low n.before) n.passes);
        }

    -- there is none
    pub filled : (after : List ℕ) → Free from size p → after ≡ take count store ++ replicate (length store - count) 0
        → (xs : List ℕ) → Lists size p xs → result 0 count (count + 1) after ≡ written xs lent
    unfolding written
    filled after n a xs m =
        let i : xs ≡ take count store = lists_unique p m (lists_up p f.front size f.low n) in
        let h : count ≤ length store = omega (arith, f.within, f.same) in
        let c : length xs ≡ count = rw (i, length-take-le count store h) in
        let o : after ≡ over xs lent = a ∙ over_take count store h ∙ rw i (over_same _ store lent f.same) in
        let l : length xs ≤ length lent = omega (arith, f.within) in
        rw (le-ltb, written) (rw (c, o))

    -- there is one, and no room for it
    pub overfull : (s : ℕ) (after : List ℕ) → First from size p s → count ≡ length store → after ≡ replicate (length store) 0
        → (xs : List ℕ) → Lists size p xs → result 30 0 (count + 1) after ≡ written xs lent
    unfolding written
    overfull s after n e a xs m =
        let h : count ≤ length store = omega arith in
        let c : count ≡ length lent = omega (arith, f.same) in
        let o : after ≡ over [] lent = a ∙ over_none store ∙ over_same [] store lent f.same in
        let l : length lent < length xs = omega (arith, length-take-le count store h, lists_longer p f.front m n) in
        rw (lt-ltb, written) (rw (c, o))

-- What closing leaves. Each store is its evidence, or nothing, with zeros behind it; how far the zeros go depends on the store's length alone, and
-- that never changes. So the evidence read off the front is the one put there. Assumes nothing.
use Prim.Native.Nat.{ℕ, zero, suc, ◌+◌, ◌≤◌}
use mathlib.Core.List.{List, ◌∷◌}
use mathlib.Core.Path.{◌≡◌, refl, sym, ap}
use native.Mathlib.Omega.{arith}
use lib.Dec.{leb}
use lib.ListN.{length, get_or, take, drop}
use lib.Seq.{drop-cons, length-take-le}
use Rattle.stores.proofs.Over.{over_same, over_front}
use Rattle.ic3.specs.Search.{states}
use Rattle.call.specs.Call.{Stores, why_number, leaves, ended}
use Rattle.search.specs.Lent.{store_of, part, why_of}
use Rattle.call.specs.Promise.{stores}
use Rattle.search.specs.Inner.{Closes}
use Rattle.search.specs.declared.react.Why.{Why}
use Rattle.search.specs.declared.react.Verdict.{Verdict}
use Rattle.search.specs.declared.react.Verdict.TheVariants.{Safe, Unsafe, GaveUp}
use Rattle.call.specs.declared.Outcome.TheVariants as call

-- ---- parts
-- number by number, a part is what stands from its index on
part_drop : (left i : ℕ) (xs : List ℕ) → left + i ≤ length xs → part left i xs ≡ take left (drop i xs)
unfolding part
part_drop zero i xs h = refl
part_drop (suc left) i xs h = rw (drop-cons xs i 0 (omega arith)) (ap (λ l. get_or xs i 0 ∷ l) (part_drop left (suc i) xs (omega arith)))

-- from index 0 on that is the front
pub part_take : (k : ℕ) (xs : List ℕ) → k ≤ length xs → part k 0 xs ≡ take k xs
part_take k xs h = part_drop k 0 xs (omega arith)

-- ---- the verdicts
pub stores_same : {ss ss' ls ls' path path' : List ℕ} → ss ≡ ss' → ls ≡ ls' → path ≡ path' → stores ss ls path ≡ stores ss' ls' path'
stores_same a l p = rw (a, l, p)

module _ (s : Stores) (v : Verdict) (asked : ℕ) {after : Stores} where
  -- safe: the states kept stand at the front of a store as long as before
  pub closes_safe : (i count front : ℕ) (mid : List ℕ) → v ≡ Safe i count → take front mid ≡ states (leb i) (store_of count s.states s.levels)
      → front ≤ length mid → length mid ≡ length s.states → after ≡ leaves (stores mid s.levels s.path) (take front mid) (take 0 s.path)
      → Closes s v asked (call.Safe front asked) after
  unfolding ended leaves
  closes_safe i count front mid q k h m e =
      let n = length-take-le front mid h in
      rw q
      (record {
        equation = rw (sym k) (rw (e, over_front front (take front mid) mid n, over_same (take front mid) mid s.states m));
        evidence_length = rw (sym k) (sym n);
      })

  -- unsafe: the path stands at the front of its store
  pub closes_unsafe : (k : ℕ) → v ≡ Unsafe k → k ≤ length s.path → after ≡ leaves s (take 0 s.states) (take k s.path)
      → Closes s v asked (call.Unsafe k asked) after
  unfolding ended leaves
  closes_unsafe k q h e =
      let n = length-take-le k s.path h in
      rw q
      (record {
        equation = rw (part_take k s.path h) (rw (e, over_front k (take k s.path) s.path n));
        evidence_length = rw (part_take k s.path h) (sym n);
      })

  -- given up, with a number of its own: nothing is left
  pub closes_given_up : (why : Why) (number : ℕ) → v ≡ GaveUp why → number ≡ why_number (why_of why)
      → after ≡ leaves s (take 0 s.states) (take 0 s.path) → Closes s v asked (call.GaveUp number asked) after
  unfolding ended leaves
  closes_given_up why number q h e = rw q (record { equation = rw (h, e); evidence_length = refl })

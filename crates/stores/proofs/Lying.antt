-- A list in front of a store: all behind it is zero. Assumes nothing.
use Prim.Native.Nat.{ℕ, ◌+◌, ◌-◌}
use mathlib.Core.List.{List, [], ◌++◌}
use mathlib.Core.Path.{◌≡◌, refl, sym, ap, ◌∙◌}
use native.Mathlib.Omega.{arith}
use lib.ListN.{length, take, replicate, length-append, length-replicate}
use lib.Seq.{take_at}
use Rattle.stores.specs.Lies.{Lies}
use Rattle.stores.specs.Over.{over}
use Rattle.stores.proofs.Over.{over_none}

-- a list with zeros behind it lies in the store
module _ (front : List ℕ) (k count : ℕ) (store : List ℕ) (e : store ≡ front ++ replicate k 0) (l : length front ≡ count) where
  pub lies_take : take count store ≡ front
  lies_take = rw e (take_at front (replicate k 0) count l)

  pub lies : Lies count store
  unfolding over
  lies =
      let n : length store ≡ count + k = ap length e ∙ (rw (length-append, length-replicate, l)) in
      let z : length store - count ≡ k = omega arith in
      record { fits = omega arith; rest = rw (lies_take, l, z) e }

-- the empty list
pub lies_none : (store : List ℕ) → Lies 0 (over [] store)
lies_none store = lies [] (length store) 0 (over [] store) (sym (over_none store)) refl

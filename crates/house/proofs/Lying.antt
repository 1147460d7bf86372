-- Two masks that are written behind the list in front of a store, where there is room for four, make it a list of a clause more: behind them all is
-- zero, so no wire is wanted. Assumes nothing.
use Prim.Native.Nat.{ℕ, suc, ◌+◌, ◌-◌, ◌≤◌, ◌<◌}
use mathlib.Core.Bool.{Bool, true, false}
use mathlib.Core.List.{List, [], ◌∷◌, ◌++◌, append_assoc}
use mathlib.Core.Path.{◌≡◌, refl, sym, ap, ◌∙◌}
use native.Mathlib.Omega.{arith}
use borrow.Author.Tests.{le-leb, lt-leb}
use lib.ListN.{length, take, set, replicate, length-append, length-set}
use lib.Seq.{length-take-le, append_snoc, set_at}
use Rattle.stores.specs.Lies.{Lies}
use Rattle.base.proofs.Tests.{clash}
use Rattle.stores.specs.Over.{over}
use Rattle.stores.proofs.Lying.{lies, lies_take}
use Rattle.house.specs.File.{clause_of, has_room}
use Rattle.house.specs.Inner.{PutAs}

-- two masks behind a front
two_more : (front rest : List ℕ) (count ones zeros : ℕ) → length front ≡ count
    → set (set (front ++ (0 ∷ (0 ∷ rest))) count ones) (count + 1) zeros ≡ front ++ (ones ∷ (zeros ∷ rest))
two_more front rest count ones zeros l =
    let m : length (front ++ (ones ∷ [])) ≡ count + 1 = rw (length-append, l) in
    rw (set_at front 0 (0 ∷ rest) ones count l, ← append_snoc front ones (0 ∷ rest))
    (rw (set_at (front ++ (ones ∷ [])) 0 rest zeros (count + 1) m, append_assoc))

module _ (store : List ℕ) (count ones zeros : ℕ) where
  -- no room
  pub put_not : length store < count + 4 → PutAs store count ones zeros false store
  put_not h = record { room = sym (lt-leb (count + 4) (length store) h); same = refl; lies = λ e. clash e refl; list = λ e. clash e refl }

  -- the clause is written
  pub put_done : Lies count store → count + 4 ≤ length store → PutAs store count ones zeros true (set (set store count ones) (count + 1) zeros)
  unfolding over
  put_done w h =
      let after = set (set store count ones) (count + 1) zeros in
      let front = take count store ++ clause_of ones zeros in
      let k = length store - (count + 4) in
      let l : length (take count store) ≡ count = length-take-le count store w.fits in
      let z : length store - count ≡ suc (suc (suc (suc k))) = omega arith in
      let s : store ≡ take count store ++ (0 ∷ (0 ∷ (0 ∷ (0 ∷ replicate k 0)))) = w.rest ∙ rw (l, z) in
      let e : after ≡ front ++ replicate k 0 =
      ap (λ x. set (set x count ones) (count + 1) zeros) s ∙ two_more (take count store) (0 ∷ (0 ∷ replicate k 0)) count ones zeros l
      ∙ rw append_assoc in
      let m : length front ≡ count + 4 = rw (length-append, l) in
      record {
        room = sym (le-leb (count + 4) (length store) h);
        same = simp length-set;
        lies = λ _. lies front k (count + 4) after e m;
        list = λ _. lies_take front k (count + 4) after e m;
      }

-- the definition asks for the same room
pub put_room : (store : List ℕ) (count ones zeros : ℕ) (done : Bool) (store' : List ℕ) → Lies count store → PutAs store count ones zeros done store'
    → has_room (length store) (take count store) ≡ done
unfolding has_room
put_room store count ones zeros done store' w p = rw (length-take-le count store w.fits) (sym p.room)

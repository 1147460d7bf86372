-- A front and the zeros behind it, `over`: as long as the store, whose length alone counts the zeros, and the front is read back from it.
-- Assumes nothing.
use Prim.Native.Nat.{ℕ, ◌-◌, ◌≤◌}
use mathlib.Core.List.{List, [], ◌++◌}
use mathlib.Core.Path.{◌≡◌}
use native.Mathlib.Nat.{sub-zero}
use native.Mathlib.Omega.{arith}
use lib.ListN.{length, take, replicate, length-append, length-replicate}
use lib.Seq.{length-take-le, take_at}
use Rattle.stores.specs.Over.{over}

-- as long as the store
pub over_length : (front store : List ℕ) → length front ≤ length store → length (over front store) ≡ length store
unfolding over
over_length front store h = simp (length-append, length-replicate) (omega arith)

-- the same over every store of that length
pub over_same : (front xs ys : List ℕ) → length xs ≡ length ys → over front xs ≡ over front ys
unfolding over
over_same front xs ys e = rw e

-- the front is read back
pub over_front : (k : ℕ) (front store : List ℕ) → length front ≡ k → take k (over front store) ≡ front
unfolding over
over_front k front store e = take_at front _ k e

-- and within it
pub over_within : (front store : List ℕ) → length front ≤ length (over front store)
unfolding over
over_within front store = simp length-append (omega arith)

-- a store that was cleared behind its first k numbers
pub over_take : (k : ℕ) (store : List ℕ) → k ≤ length store → take k store ++ replicate (length store - k) 0 ≡ over (take k store) store
unfolding over
over_take k store h = rw (length-take-le k store h)

-- a store that was cleared
pub over_none : (store : List ℕ) → replicate (length store) 0 ≡ over [] store
unfolding over
over_none store = rw sub-zero

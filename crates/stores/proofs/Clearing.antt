-- Clearing a store: zeros grow from the front, one number at a time. A tail that was lent and cleared leaves the front as it was, and where there
-- is none the front is all. Assumes nothing.
use Prim.Native.Nat.{ℕ, zero, suc, ◌+◌, ◌-◌, ◌≤◌, ◌<◌}
use mathlib.Core.List.{List, [], ◌∷◌, ◌++◌, append-nil}
use mathlib.Core.Path.{◌≡◌, refl, sym, ap}
use native.Mathlib.Nat.{le_refl}
use native.Mathlib.Omega.{arith}
use native.Mathlib.Numerals.{add-one}
use borrow.Rule.Slice.PartMut.{mid_of, put_mid, mid_len, Post-is}
use lib.ListN.{length, set, take, drop, replicate}
use lib.Seq.{drop-length, take_all}

-- one more of a store is v, behind j of them
cleared_suc : {A : Type 0} (j : ℕ) (v : A) (d : List A) → j < length d → set (replicate j v ++ drop j d) j v ≡ replicate (suc j) v ++ drop (suc j) d
cleared_suc j v [] h = absurd (omega arith)
cleared_suc zero v (x ∷ d) h = refl
cleared_suc (suc j) v (x ∷ d) h = ap (λ t. v ∷ t) (cleared_suc j v d (omega arith))

pub cleared_more : {A : Type 0} (j : ℕ) (v : A) (d : List A) → j < length d → set (replicate j v ++ drop j d) j v ≡ replicate (j + 1) v ++ drop (j + 1) d
cleared_more j v d h = rw add-one (cleared_suc j v d h)

-- a tail that was lent, cleared and came back
pub tail_cleared : (k : ℕ) (xs ys : List ℕ) → k ≤ length xs → ys ≡ replicate (length (mid_of k (length xs - k) xs)) 0
    → put_mid k (length xs - k) xs ys ≡ take k xs ++ replicate (length xs - k) 0
tail_cleared k xs ys h e =
    rw (e, mid_len k (length xs) xs (le_refl (length xs)), Post-is k (length xs) xs h, drop-length, append-nil)

-- no tail
pub tail_none : (k : ℕ) (xs : List ℕ) → length xs ≤ k → xs ≡ take k xs ++ replicate (length xs - k) 0
tail_none k xs h =
    let e : length xs - k ≡ 0 = omega arith in
    rw (e, take_all k xs h) (sym (append-nil xs))

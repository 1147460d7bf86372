-- A list from its index i on, two numbers at a time; and what stands behind its first numbers. Assumes nothing.
use Prim.Native.Nat.{ℕ, ◌+◌, ◌-◌, ◌<◌}
use mathlib.Core.List.{List, ◌∷◌}
use mathlib.Core.Path.{◌≡◌}
use native.Mathlib.Numerals.{add-one}
use native.Mathlib.Omega.{arith}
use lib.ListN.{length, get_or, take, drop, length-drop}
use lib.Seq.{drop-cons, take_all}

pub next_two : (l : List ℕ) (i : ℕ) → i + 1 < length l → drop i l ≡ get_or l i 0 ∷ (get_or l (i + 1) 0 ∷ drop (i + 1 + 1) l)
next_two l i h = rw (drop-cons l i 0 (omega arith), ← add-one i, drop-cons l (i + 1) 0 h, ← add-one (i + 1))

-- what a slice has behind its first k numbers, as a pattern has it
pub rest_of : (k : ℕ) (l : List ℕ) → take (length l - k) (drop k l) ≡ drop k l
rest_of k l = take_all (length l - k) (drop k l) (omega (arith, length-drop k l))

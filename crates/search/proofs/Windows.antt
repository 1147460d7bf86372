-- A window of the two stores and a part of the path store, one number at a time: the recursion is on the count, so a count is rewritten to a
-- successor or to zero. A store before a window leaves the window as it is. Assumes nothing.
use Prim.Native.Nat.{ℕ, zero, suc, ◌-◌, ◌≤◌, ◌<◌}
use mathlib.Core.List.{List, [], ◌∷◌}
use mathlib.Core.Path.{◌≡◌, refl, ap}
use native.Mathlib.Omega.{arith}
use lib.ListN.{length, get_or, set}
use lib.Seq.{get_or-set_other}
use Rattle.search.specs.Lent.{window, part, duties}

-- a window has as many entries as it counts
pub window_length : (left i : ℕ) (ss ls : List ℕ) → length (window left i ss ls) ≡ left
unfolding window
window_length zero i ss ls = refl
window_length (suc left) i ss ls = ap suc (window_length left (suc i) ss ls)

-- a level stored before the window leaves it as it is
pub window_apart : (left i m : ℕ) (ss ls : List ℕ) (k : ℕ) → m < i → window left i ss (set ls m k) ≡ window left i ss ls
unfolding window
window_apart zero i m ss ls k h = refl
window_apart (suc left) i m ss ls k h =
    rw (get_or-set_other ls m i k 0 (omega arith), window_apart left (suc i) m ss ls k (omega arith))

-- the duty above the one for level k + 1 comes first
pub duties_more : (N k : ℕ) (path : List ℕ) → suc k < N → duties N k path ≡ get_or path (suc (suc k)) 0 ∷ duties N (suc k) path
unfolding duties part
duties_more N k path h = let e : N - suc k ≡ suc (N - suc (suc k)) = omega arith in rw e

-- above level N there is no duty
pub duties_end : (N k : ℕ) (path : List ℕ) → N ≤ suc k → duties N k path ≡ []
unfolding duties part
duties_end N k path h = let e : N - suc k ≡ 0 = omega arith in rw e

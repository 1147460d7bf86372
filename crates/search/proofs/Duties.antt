-- The open duties in the path store. A state written at the index of its level is the lowest open duty, those above it are untouched, and a start
-- state written at index 0 makes the path of all of them. Assumes nothing.
use Prim.Native.Nat.{ℕ, zero, suc, ◌+◌, ◌-◌, ◌<◌}
use mathlib.Core.List.{List}
use mathlib.Core.Path.{◌≡◌, refl}
use native.Mathlib.Omega.{arith}
use lib.ListN.{length, get_or, set, length-set}
use lib.Seq.{get_or-set_same, get_or-set_other}
use Rattle.std.specs.declared.ops.ControlFlow.TheVariants.{Continue, Break}
use Rattle.ic3.specs.Search.{found, deeper}
use Rattle.call.specs.Promise.{stores}
use Rattle.search.specs.Lent.{store_of, part, duties, config}
use Rattle.search.specs.Inner.{Moves, Opens}
use Rattle.search.proofs.Windows.{duties_more, duties_end}
use Rattle.search.specs.declared.react.Phase.TheVariants.{Settle}
use Rattle.search.specs.declared.react.Verdict.TheVariants.{Unsafe}

-- what is written before a part leaves it as it is
pub part_apart : (left i m v : ℕ) (xs : List ℕ) → m < i → part left i (set xs m v) ≡ part left i xs
unfolding part
part_apart zero i m v xs h = refl
part_apart (suc left) i m v xs h =
    rw (get_or-set_other xs m i v 0 (omega arith), part_apart left (suc i) m v xs (omega arith))

-- and leaves the duties above it
pub duties_apart : (N k m v : ℕ) (path : List ℕ) → m < suc (suc k) → duties N k (set path m v) ≡ duties N k path
unfolding duties
duties_apart N k m v path h = part_apart (N - suc k) (suc (suc k)) m v path h

module _ (count : ℕ) (ss ls path : List ℕ) where
  -- step 1
  pub found_first : (s : ℕ) → 0 < length path → Moves (Break (Unsafe 1)) (stores ss ls (set path 0 s)) (found 0 (store_of count ss ls) s)
  unfolding found part
  found_first s h = record { onward = rw (get_or-set_same path 0 s 0 h); bounded = simp length-set (omega arith) }

  -- step 2
  pub found_duty : (N s : ℕ) → (N ≡ 0 → ⊥) → N < length path
      → Moves (Continue (config N count (Settle (N - 1)))) (stores ss ls (set path N s)) (found N (store_of count ss ls) s)
  unfolding found
  found_duty zero s f h = absurd (f refl)
  found_duty (suc k) s f h =
      let e : suc k - 1 ≡ k = omega arith in
      record {
        onward = rw (e, get_or-set_same path (suc k) s 0 h, duties_end (suc k) k (set path (suc k) s) (omega arith));
        bounded = tt;
      }

  -- step 3 with k = 0: the path
  pub deeper_path : (N t : ℕ) → Opens N 0 path
      → Moves (Break (Unsafe (N + 1))) (stores ss ls (set path 0 t)) (deeper N (store_of count ss ls) 0 (get_or path 1 0) (duties N 0 path) t)
  unfolding deeper part duties
  deeper_path N t w =
      let e : N + 1 ≡ suc (suc (N - 1)) = omega (arith, w.below) in
      record {
        onward = rw (
          e,
          get_or-set_same path 0 t 0 (omega (arith, w.enough)),
          get_or-set_other path 0 1 t 0 (omega arith),
          part_apart (N - 1) 2 0 t path (omega arith),
        );
        bounded = simp length-set (omega (arith, w.enough));
      }

  -- step 3 with k above 0
  pub deeper_duty : (N k t : ℕ) → (k ≡ 0 → ⊥) → Opens N k path
      → Moves (Continue (config N count (Settle (k - 1)))) (stores ss ls (set path k t))
      (deeper N (store_of count ss ls) k (get_or path (suc k) 0) (duties N k path) t)
  unfolding deeper
  deeper_duty N zero t f w = absurd (f refl)
  deeper_duty N (suc k) t f w =
      let e : suc k - 1 ≡ k = omega arith in
      record {
        onward = rw (
          e,
          get_or-set_same path (suc k) t 0 (omega (arith, w.below, w.enough)),
          duties_more N k (set path (suc k) t) w.below,
          get_or-set_other path (suc k) (suc (suc k)) t 0 (omega arith),
          duties_apart N (suc k) (suc k) t path (omega arith),
        );
        bounded = tt;
      }

-- What is said of rows, row by row: whether a variable has two rows, whether the literals of each are known, and how many latches start at a fixed
-- value. Assumes nothing.
use Prim.Native.Nat.{ℕ, zero, suc, ◌+◌, ◌-◌, ◌*◌, ◌/◌, ◌≤◌, ◌<◌}
use mathlib.Core.Path.{◌≡◌, refl, ap}
use mathlib.Core.Bool.{Bool, false, ◌&&◌, ◌||◌, and-false}
use mathlib.Core.List.{List, [], ◌∷◌}
use native.Mathlib.Omega.{arith}
use borrow.Author.Tests.{lt-leb}
use lib.ListN.{length, get_or, take, drop}
use lib.Seq.{take_all}
use Rattle.std.specs.Prelude.{is_some, count_by, cond}
use Rattle.std.proofs.lemmas.List.Recursion.{is_count_by}
use Rattle.std.specs.List.{list_all, position}
use Rattle.circuit.specs.Circuit.{Gate, every, first}
use Rattle.circuit.specs.Refusals.{twice}
use Rattle.circuit.proofs.Sentences.{fixed}
use Rattle.aiger.specs.Text.{threes, vars, latches_of}
use Rattle.aiger.specs.Inner.{no_row, flattened, has_var, line_known, all_known, is_fixed, start_list, gate_of}
use Rattle.aiger.specs.declared.table.Row.{Row}
use Rattle.aiger.proofs.Threes.{found_any}
use Rattle.aiger.proofs.Entering.{starts_many}

-- a test of both literals of a gate, which one of them decides
abbrev pub both_pass : (ℕ → Bool) → Gate → Bool
both_pass p g = p g.left && p g.right

pub left_fails : (p : ℕ → Bool) (g : Gate) → p g.left ≡ false → both_pass p g ≡ false
left_fails p g e = rw e

pub right_fails : (p : ℕ → Bool) (g : Gate) → p g.right ≡ false → both_pass p g ≡ false
right_fails p g e = rw e (and-false (p g.left))

-- the gate at k
abbrev pub gate_at : List Row → ℕ → Gate
gate_at rows k = gate_of (get_or rows k no_row).literal (get_or rows k no_row).second (get_or rows k no_row).third

-- the rows behind the first, where there is one
abbrev pub behind_first : List Row → List Row
behind_first rows = take (length rows - 1) (drop 1 rows)

pub twice_next : (rows : List Row) → 1 ≤ length rows
    → twice (vars (flattened rows))
    ≡ (is_some (position (has_var ((get_or rows 0 no_row).literal / 2)) (behind_first rows)) || twice (vars (flattened (behind_first rows))))
unfolding twice threes
twice_next [] h = absurd (omega arith)
twice_next (row ∷ rows) h =
    let rest : behind_first (row ∷ rows) ≡ rows = take_all (length (row ∷ rows) - 1) rows (omega arith) in
    rw (rest, found_any rows (row.literal / 2))

pub twice_end : (rows : List Row) → length rows < 1 → twice (vars (flattened rows)) ≡ false
unfolding twice threes
twice_end [] h = refl
twice_end (row ∷ rows) h = absurd (omega arith)

pub lines_known : (vs : List ℕ) (rows : List Row) → list_all (line_known vs) rows ≡ all_known vs (flattened rows)
unfolding every threes
lines_known vs [] = refl
lines_known vs (row ∷ rows) = ap (λ (t : Bool). line_known vs row && t) (lines_known vs rows)

fixed_next : (row : Row) (rows : List Row) → fixed (latches_of (flattened (row ∷ rows)))
    ≡ cond (is_fixed row) (1 + fixed (latches_of (flattened rows))) (fixed (latches_of (flattened rows)))
unfolding threes fixed first
fixed_next row rows = by_start row.third refl
  where
    by_start : (s : ℕ) → row.third ≡ s → fixed (latches_of (flattened (row ∷ rows)))
        ≡ cond (is_fixed row) (1 + fixed (latches_of (flattened rows))) (fixed (latches_of (flattened rows)))
    by_start zero e = rw e (omega arith)
    by_start (suc zero) e = rw e (omega arith)
    by_start (suc (suc r)) e = rw (e, lt-leb (suc (suc r)) 1 (omega arith))

fixed_none : fixed (latches_of (flattened [])) ≡ 0
unfolding threes fixed
fixed_none = refl

-- how many masks the list of start has
pub fixed_many : (rows : List Row) → 4 * count_by is_fixed rows ≡ length (start_list (flattened rows))
fixed_many rows =
    let same = is_count_by (λ (ls : List Row). fixed (latches_of (flattened ls))) is_fixed fixed_none fixed_next rows in
    omega (arith, same, starts_many (flattened rows))

-- The rows in parts. Rows that were counted have the latches in front, and gates enough for a word behind. Assumes nothing.
use Prim.Native.Nat.{ℕ, ◌+◌, ◌*◌, ◌≤◌}
use mathlib.Core.List.{List}
use mathlib.Core.Path.{◌≡◌, ap, ◌∙◌}
use native.Mathlib.Omega.{arith}
use lib.ListN.{length, take, drop, length-drop}
use lib.Seq.{length-take-le}
use Rattle.std.specs.List.{list_all}
use Rattle.aiger.specs.Text.{vars}
use Rattle.aiger.specs.Inner.{flattened, line_known, all_known, Sized}
use Rattle.aiger.specs.Table.{Fits}
use Rattle.aiger.specs.declared.table.Row.{Row}
use Rattle.aiger.specs.declared.read.Header.{Header}
use Rattle.aiger.proofs.Threes.{flat_drop, flat_take}
use Rattle.aiger.proofs.Finding.{lines_known}

-- the tests of latches and of gates, by the numbers
pub latches_known : (rows : List Row) (k : ℕ)
    → list_all (line_known (vars (flattened rows))) (take k rows) ≡ all_known (vars (flattened rows)) (take (3 * k) (flattened rows))
latches_known rows k = lines_known (vars (flattened rows)) (take k rows) ∙ ap (all_known (vars (flattened rows))) (flat_take k rows)

pub gates_known : (rows : List Row) (k : ℕ)
    → list_all (line_known (vars (flattened rows))) (drop k rows) ≡ all_known (vars (flattened rows)) (drop (3 * k) (flattened rows))
gates_known rows k = lines_known (vars (flattened rows)) (drop k rows) ∙ ap (all_known (vars (flattened rows))) (flat_drop k rows)

-- rows that fit: so many latches, and gates enough for a word
module _ {rows : List Row} {latches gates : ℕ} (f : Fits rows latches gates) where
  pub many_latches : length (take latches rows) ≡ latches
  many_latches = length-take-le latches rows (omega (arith, f.behind, f.within))

  pub few_gates : length (drop gates rows) ≤ 64
  few_gates = omega (arith, length-drop gates rows, f.behind, f.wires)

module _ (h : Header) (rows : List Row) (s : Sized h rows) where
  pub fits : Fits rows h.latches (h.latches + h.inputs)
  fits =
      record {
        most = s.limits.latches;
        behind = omega arith;
        within = omega (arith, s.many);
        wires = omega (arith, s.many, s.limits.wires);
      }

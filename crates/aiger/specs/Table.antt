-- What is true of the rows of a circuit. Nothing here has to be believed: no public promise mentions it.
use Rattle.std.specs.Prelude.{ℕ, ◌+◌, ◌≤◌, List, length}
use Rattle.aiger.specs.declared.table.Row.{Row}

-- up to 32 latches in front, gates from one row on, and up to 64 wires
pub record Fits (rows : List Row) (latches gates : ℕ) : Type 0 where
  pub most : latches ≤ 32
  pub behind : latches ≤ gates
  pub within : gates ≤ length rows
  pub wires : length rows ≤ latches + 64

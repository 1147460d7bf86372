-- The three lent clause stores of a reader, and the lists that it leaves in them.
use Rattle.std.specs.Prelude.{List, ℕ}
use Rattle.stores.specs.Over.{over}

pub record Lists : Type 0 where
  pub start : List ℕ
  pub step : List ℕ
  pub bad : List ℕ

abbrev pub lists : List ℕ → List ℕ → List ℕ → Lists
lists start step bad = record { start = start; step = step; bad = bad }

-- the lists in front of the stores, and everything behind each list is zero
unfoldable pub filled : Lists → List ℕ → List ℕ → List ℕ → Lists
filled l start step bad = lists (over start l.start) (over step l.step) (over bad l.bad)

-- `Lent::gap` meets its contract. The loop over the levels has as its invariant that each level it passed is taken; the walk inside, that no
-- entry it passed has the level. Where the walk ends at an entry, that entry takes the level; where it has passed all, the level is the gap.
-- The measures are the levels and the entries left. Assumes nothing.
use Prim.Native.Nat.{ℕ, ◌≤◌, ◌-◌}
use mathlib.Core.List.{List}
use Rattle.search.proofs.Walks.{Passed, AllTaken}
use Rattle.search.proofs.store.Lent.gap.Given as goal

pub record Climbs (levels : List ℕ) (count N i : ℕ) : Type 0 where
  pub above : 1 ≤ i
  pub below : i ≤ N
  pub taken : AllTaken levels count i

abbrev pub invariant-loop-j : goal.invariant-loop-j
invariant-loop-j l = Passed l.self.levels.now 0 l.count l.i l.j

abbrev pub decreases-loop-j : goal.decreases-loop-j
decreases-loop-j l = l.count - l.j

abbrev pub invariant-levels : goal.invariant-levels
invariant-levels l = Climbs l.self.levels.now l.count l.N l.i

abbrev pub decreases-levels : goal.decreases-levels
decreases-levels l = l.N - l.i

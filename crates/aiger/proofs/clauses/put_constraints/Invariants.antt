-- `clauses::put_constraints` meets its contract. The loop's invariant: of whatever constraints are read from the first place on, the clauses of those
-- read so far were written, four masks each, and the rest is read from the place now. Assumes nothing.
use Prim.Native.Nat.{ℕ, ◌+◌, ◌-◌, ◌*◌, ◌≤◌}
use mathlib.Core.List.{List}
use mathlib.Core.Path.{◌≡◌}
use lib.ListN.{length}
use Rattle.aiger.specs.Inner.{placed, Constraints}
use Rattle.aiger.proofs.Rereading.{Putting}
use Rattle.aiger.proofs.clauses.put_constraints.Given as goal

abbrev pub invariant-loop : goal.invariant-loop
invariant-loop l = (l.at ≤ length l.c.text.now) × (l.next ≡ l.from + 4 * l.counter)
    × (length l.store ≡ length l.initial.store) × ((literals : List ℕ) (k : Constraints l.c.text.now l.c.at l.c.count literals)
    → Putting l.c.text.now (placed l.rows) k.header literals l.at (l.c.count - l.counter) l.from l.initial.store l.next l.store)

-- `clauses::put_latches` meets its contract. The loop's invariant: the clauses of the first k latches were written, and those of the others are still
-- to be. Assumes nothing.
use Prim.Native.Nat.{◌*◌, ◌≤◌}
use mathlib.Core.Path.{◌≡◌}
use lib.ListN.{length, drop}
use Rattle.circuit.specs.Import.{latch_clauses, flat}
use Rattle.aiger.specs.Inner.{flattened, placed}
use Rattle.aiger.specs.Text.{latches_of}
use Rattle.aiger.proofs.Writing.{Going}
use Rattle.aiger.proofs.clauses.put_latches.Given as goal

abbrev pub invariant-loop-k : goal.invariant-loop-k
invariant-loop-k l = (l.at ≡ 8 * l.k) × (length l.latches ≤ 32)
    × Going (flat (latch_clauses (placed l.rows) 0 (latches_of (flattened l.latches))))
    (flat (latch_clauses (placed l.rows) l.k (latches_of (flattened (drop l.k l.latches))))) 0 l.initial.store l.at l.store

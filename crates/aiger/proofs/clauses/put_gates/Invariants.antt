-- `clauses::put_gates` meets its contract. The loop's invariant: the clauses of the gates in front were written, and those of the others are still to be.
-- Assumes nothing.
use Prim.Native.Nat.{◌+◌, ◌*◌, ◌≤◌}
use mathlib.Core.Path.{◌≡◌}
use lib.ListN.{length, drop}
use Rattle.circuit.specs.Import.{gate_clauses, flat}
use Rattle.aiger.specs.Inner.{flattened, placed}
use Rattle.aiger.specs.Text.{gates_of}
use Rattle.aiger.proofs.Writing.{Going}
use Rattle.aiger.proofs.clauses.put_gates.Given as goal

abbrev pub invariant-loop-gate : goal.invariant-loop-gate
invariant-loop-gate l = (l.at ≡ l.from + 12 * l.gate-index) × (length l.gates ≤ 64)
    × Going (flat (gate_clauses (placed l.rows) (gates_of (flattened l.gates))))
    (flat (gate_clauses (placed l.rows) (gates_of (flattened (drop l.gate-index l.gates))))) l.from l.initial.store l.at l.store

-- `find::loop_free` meets its contract. The loop's invariant: the mask is that of so many rounds. Assumes nothing.
use mathlib.Core.Path.{◌≡◌}
use Rattle.circuit.specs.Loops.{rounds}
use Rattle.aiger.specs.Text.{gates_of}
use Rattle.aiger.specs.Inner.{gate_rows}
use Rattle.aiger.proofs.find.loop_free.Given as goal

abbrev pub invariant-loop : goal.invariant-loop
invariant-loop l = l.mask ≡ rounds (gates_of (gate_rows l.rows)) l.index

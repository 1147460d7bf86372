-- `find::defined_twice` meets its contract. The loop's invariant: a variable has two rows if one has of those that are left. The measure is how many
-- these are. Assumes nothing.
use mathlib.Core.Path.{◌≡◌}
use lib.ListN.{length}
use Rattle.circuit.specs.Refusals.{twice}
use Rattle.aiger.specs.Text.{vars}
use Rattle.aiger.specs.Inner.{flattened}
use Rattle.aiger.proofs.find.defined_twice.Given as goal

abbrev pub invariant-loop-left : goal.invariant-loop-left
invariant-loop-left l = twice (vars (flattened l.rows)) ≡ twice (vars (flattened l.left))

abbrev pub decreases-loop-left : goal.decreases-loop-left
decreases-loop-left l = length l.left

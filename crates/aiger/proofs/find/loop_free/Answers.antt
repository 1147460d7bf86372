use mathlib.Core.Path.{ap, ◌∙◌}
use lib.ListN.{length}
use native.Mathlib.Omega.{arith}
use Rattle.std.proofs.Common.{rules}
use Rattle.circuit.specs.Loops.{rounds}
use Rattle.aiger.specs.Text.{gates_of}
use Rattle.aiger.specs.Inner.{gate_rows}
use Rattle.aiger.proofs.Settling.{loop_decided}
use Rattle.aiger.proofs.find.loop_free.Goals as goal

pub loop-init : goal.loop-init
unfolding rounds
loop-init c = search rules

pub loop-preserved : goal.loop-preserved
unfolding rounds
loop-preserved c = search rules

pub returns : goal.returns
returns c =
    loop_decided _ _ _
    (c.loop.invariant
    ∙ ap (rounds (gates_of (gate_rows c.args.rows)))
    (omega (arith, ap length c.gates-gates.ensures, c.loop-test.false, c.loop.auto.index-end)))
    (rw c.gates-gates.ensures at c.full.ensures)

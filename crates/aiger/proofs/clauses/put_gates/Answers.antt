use mathlib.Core.Path.{ap}
use native.Mathlib.Omega.{arith}
use lib.ListN.{length}
use Rattle.aiger.proofs.Slices.{few_gates}
use Rattle.circuit.specs.Import.{gate_clauses, flat}
use Rattle.aiger.proofs.Threes.{threes_end}
use Rattle.aiger.proofs.Writing.{going_none, going_then, going_ends, gate_end, gate_next}
use Rattle.aiger.proofs.clauses.put_gates.Goals as goal

pub loop-gate-init : goal.loop-gate-init
loop-gate-init c =
    (omega arith, omega (arith, ap length c.gates-gates.ensures, few_gates c.args.rows.fits), going_none _ _ _)

pub put_gate-at-requires : goal.put_gate-at-requires
put_gate-at-requires c =
    let inv = c.loop-gate.invariant in
    omega (arith, c.requires, inv.0, inv.1, c.loop-gate-test.true)

pub loop-gate-preserved : goal.loop-gate-preserved
loop-gate-preserved c =
    let l = c.loop-gate in (
      omega (arith, l.invariant.0, gate_end _ _ _ _ c.put_gate-at.ensures),
      l.invariant.1,
      going_then l.invariant.2 (gate_next _ _ _ c.loop-gate-test.true) c.put_gate-at.ensures,
    )

pub returns : goal.returns
unfolding gate_clauses flat
returns c = rw (← c.gates-gates.ensures) (going_ends c.loop-gate.invariant.2 (rw (threes_end _ _ _ c.loop-gate-test.false)))

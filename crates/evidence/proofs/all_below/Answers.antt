use native.Mathlib.Omega.{arith}
use Rattle.evidence.proofs.Each.{each_ends, below_stops, below_passes}
use Rattle.evidence.proofs.all_below.Goals as goal

pub returns-then-end-s : goal.returns-then-end-s
returns-then-end-s c =
    let inv = c.loop-s.invariant in
    below_stops _ _ _ c.loop-s-test.true inv.1 (omega (arith, inv.0))

pub loop-s-preserved : goal.loop-s-preserved
loop-s-preserved c =
    let inv = c.loop-s.invariant in
    (inv.0, below_passes _ _ _ c.loop-s-test.true inv.1 (omega (arith, inv.0)))

pub returns : goal.returns
returns c = each_ends _ _ _ c.loop-s.invariant.1 (omega arith)

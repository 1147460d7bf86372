use mathlib.Core.Path.{ap}
use lib.ListN.{length}
use native.Mathlib.Omega.{arith}
use Rattle.aiger.proofs.Slices.{many_latches}
use Rattle.circuit.specs.Import.{start_clauses, flat}
use Rattle.aiger.proofs.Threes.{threes_end}
use Rattle.aiger.proofs.Writing.{going_none, going_then, going_ends, start_end, start_next}
use Rattle.aiger.proofs.clauses.put_start.Goals as goal

pub loop-k-init : goal.loop-k-init
loop-k-init c =
    let f = c.args.rows.fits in
    (omega arith, omega (arith, ap length c.latches-latches.ensures, many_latches f, f.most), going_none _ _ _)

pub put_first-at-requires : goal.put_first-at-requires
put_first-at-requires c =
    let inv = c.loop-k.invariant in
    (omega (arith, inv.1, c.loop-k-test.true), omega (arith, inv.0, inv.1, c.loop-k-test.true))

pub loop-k-preserved : goal.loop-k-preserved
loop-k-preserved c =
    let l = c.loop-k in (
      omega (arith, l.invariant.0, start_end _ _ c.put_first-at.ensures),
      l.invariant.1,
      going_then l.invariant.2 (start_next _ _ c.loop-k-test.true) c.put_first-at.ensures,
    )

pub returns : goal.returns
unfolding start_clauses flat
returns c = rw (← c.latches-latches.ensures) (going_ends c.loop-k.invariant.2 (rw (threes_end _ _ _ c.loop-k-test.false)))

use mathlib.Core.Path.{refl, ap}
use lib.ListN.{length}
use Rattle.aiger.proofs.Slices.{many_latches}
use native.Mathlib.Omega.{arith}
use Rattle.circuit.specs.Import.{latch_clauses, flat}
use Rattle.aiger.proofs.Threes.{threes_end}
use Rattle.aiger.proofs.Writing.{going_none, going_then, going_ends, latch_end, latch_next}
use Rattle.aiger.proofs.clauses.put_latches.Goals as goal

pub loop-k-init : goal.loop-k-init
loop-k-init c =
    let f = c.args.rows.fits in
    (refl, omega (arith, ap length c.latches-latches.ensures, many_latches f, f.most), going_none _ _ _)

pub put_latch-at-requires : goal.put_latch-at-requires
put_latch-at-requires c =
    let inv = c.loop-k.invariant in
    (omega (arith, inv.1, c.loop-k-test.true), omega (arith, inv.0, inv.1, c.loop-k-test.true))

pub loop-k-preserved : goal.loop-k-preserved
loop-k-preserved c =
    let l = c.loop-k in (
      omega (arith, l.invariant.0, latch_end _ _ _ c.put_latch-at.ensures),
      l.invariant.1,
      going_then l.invariant.2 (latch_next _ _ _ c.loop-k-test.true) c.put_latch-at.ensures,
    )

pub returns : goal.returns
unfolding latch_clauses flat
returns c = rw (← c.latches-latches.ensures) (going_ends c.loop-k.invariant.2 (rw (threes_end _ _ _ c.loop-k-test.false)))

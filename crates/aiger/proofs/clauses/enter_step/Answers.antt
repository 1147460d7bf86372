-- `aiger::enter_step` meets its contract: what was written, and zeros behind it. Assumes nothing.
use Prim.Native.Nat.{◌/◌}
use mathlib.Core.Path.{◌≡◌}
use lib.ListN.{length, take}
use native.Mathlib.Omega.{arith}
use Rattle.text.proofs.Laying.{writes_then}
use Rattle.aiger.specs.Inner.{latch_rows, step_list}
use Rattle.aiger.proofs.Threes.{flat_length}
use Rattle.aiger.proofs.Slices.{many_latches, few_gates}
use Rattle.aiger.proofs.Entering.{enters, latches_end, gates_end}
use Rattle.aiger.proofs.clauses.enter_step.Goals as goal

pub put_gates-end-requires : goal.put_gates-end-requires
put_gates-end-requires c =
    let f = c.args.rows.fits in
    omega (arith, f.most, many_latches f, latches_end _ _ _ _ _ c.put_latches-end.ensures)

pub put_constraints-end-requires : goal.put_constraints-end-requires
put_constraints-end-requires c =
    let f = c.args.rows.fits in
    omega (
      arith,
      f.most,
      many_latches f,
      few_gates f,
      latches_end _ _ _ _ _ c.put_latches-end.ensures,
      gates_end _ _ _ _ _ _ c.put_gates-end.ensures,
    )

pub returns : goal.returns
unfolding step_list
returns c literals k =
    let many : length (latch_rows c.args.rows) / 3 ≡ c.args.rows.latch_count =
    omega (arith, flat_length (take c.args.rows.latch_count c.args.rows.all.now), many_latches c.args.rows.fits) in
    rw many
    (enters
    (writes_then (writes_then c.put_latches-end.ensures c.put_gates-end.ensures) (c.put_constraints-end.ensures.says literals k))
    c.clear_behind.ensures)

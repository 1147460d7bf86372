-- `aiger::with_row` meets its contract: a latch's position, or a wire's. Assumes nothing.
use mathlib.Core.Path.{◌∙◌}
use native.Mathlib.Omega.{arith}
use Rattle.masks.proofs.OneBit.{pow_within}
use Rattle.circuit.specs.Import.{with_place}
use Rattle.aiger.proofs.Placing.{place_here, place_wire}
use Rattle.aiger.proofs.clauses.with_row.Goals as goal

pub returns-then-k-latches : goal.returns-then-k-latches
returns-then-k-latches c =
    let a = c.args in
    rw (place_here a.latches a.k (omega arith)) c.with_bit.ensures

pub returns : goal.returns
unfolding with_place
returns c =
    let a = c.args in
    rw (place_wire a.latches a.k (omega arith), c.power.ensures ∙ pow_within 64 _ (omega arith))

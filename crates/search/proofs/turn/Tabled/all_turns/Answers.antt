use mathlib.Core.Path.{◌≡◌}
use native.Mathlib.Omega.{arith}
use Rattle.search.proofs.Turns.{same_lengths, slices_again, running_go, running_stop, running_spent}
use Rattle.search.proofs.turn.Tabled.all_turns.Goals as goal

pub loop-before-preserved : goal.loop-before-preserved
loop-before-preserved c =
    let w = c.loop-before.invariant in
    let e = c.in-Continue.ensures in
    record {
      running = running_go w.running (same_lengths e.slices) c.loop-before-test.true (rw w.running.lengths.states at e.moves);
      slices = slices_again w.slices e.slices;
    }

pub returns-in-Break : goal.returns-in-Break
returns-in-Break c =
    let w = c.loop-before.invariant in
    let e = c.in-Break.ensures in
    record {
      ends = running_stop w.running (same_lengths e.slices) c.loop-before-test.true (rw w.running.lengths.states at e.moves);
      slices = slices_again w.slices e.slices;
    }

pub returns-clause-ends : goal.returns-clause-ends
returns-clause-ends c =
    let all : c.loop-before.before ≡ c.args.allowance = omega arith in
    rw all at (running_spent c.loop-before.invariant.running (omega arith))

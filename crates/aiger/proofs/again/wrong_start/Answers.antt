use Rattle.std.proofs.Common.{rules}
use Rattle.aiger.proofs.Rereading.{starting_first, starting_last, starting_wrong, starting_next, all_right, one_wrong}
use Rattle.aiger.proofs.again.wrong_start.Goals as goal

pub loop-k-init : goal.loop-k-init
loop-k-init c = (c.requires, starting_first _ _ _)

pub returns-then-start-row : goal.returns-then-start-row
returns-then-start-row c =
    one_wrong c.loop-k-test.true (λ h latches again.
    starting_wrong (c.loop-k.invariant.1 h latches again) c.loop-k.invariant.0 c.loop-k-test.true c.read_line-line.ensures
    c.if-start-gt1.true c.if-start-row.true)

pub loop-k-preserved : goal.loop-k-preserved
loop-k-preserved c = (
  c.read_line-line.ensures.within,
  λ h latches again.
      starting_next (c.loop-k.invariant.1 h latches again) c.loop-k.invariant.0 c.loop-k-test.true c.read_line-line.ensures (search rules),
)

pub returns : goal.returns
returns c = all_right (λ h latches again. starting_last (c.loop-k.invariant.1 h latches again) c.loop-k-test.false)

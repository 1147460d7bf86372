use native.Mathlib.Omega.{arith}
use Rattle.question.proofs.Blocks.{block_length, asked_here, asked_on, asked_none}
use Rattle.question.proofs.engine.Asked.ask.Goals as goal

pub returns-in-Some : goal.returns-in-Some
returns-in-Some c = asked_here _ _ _ c.loop-at.invariant.1 c.open_bits-k.ensures c.loop-at.invariant.0 c.in-Some.ensures

pub loop-at-preserved : goal.loop-at-preserved
loop-at-preserved c =
    rw (c.size-at.ensures, block_length c.open_bits-k.ensures)
    (omega (arith, c.loop-at.invariant.0), asked_on _ _ _ c.loop-at.invariant.1 _ c.in-None.ensures)

pub returns : goal.returns
returns c =
    asked_none _ _ _ c.loop-at.invariant.1 _ (rw c.size-end.ensures at c.loop-at-test.false)

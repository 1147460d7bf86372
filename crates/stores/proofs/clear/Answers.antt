use Rattle.stores.proofs.Clearing.{cleared_more}
use Rattle.std.proofs.Common.{arith}
use Rattle.stores.proofs.clear.Goals as goal

pub loop-x-preserved : goal.loop-x-preserved
loop-x-preserved g c = rw (c.ZERO-zero.ensures, c.loop-x.invariant) (cleared_more c.loop-x.x-index g.T.Zero.ZERO c.args.store.now (omega arith))

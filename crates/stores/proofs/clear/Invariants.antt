-- `stores::clear` meets its contract: as many zeros stand in front as numbers were passed. Assumes nothing.
use Rattle.std.proofs.Common.{◌≡◌, ◌++◌, replicate, drop}
use Rattle.stores.proofs.clear.Given as goal

abbrev pub invariant-loop-x : goal.invariant-loop-x
invariant-loop-x g l = l.store ≡ replicate l.x-index g.T.Zero.ZERO ++ drop l.x-index l.initial.store

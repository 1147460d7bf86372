-- `into::fill` meets its contract. The loop keeps `Filling`: the first `count` numbers of the store are the states below `from` that step to the given
-- one. An answer is written behind them, or says that they are all, or that the store is too short. The measure is what is left of the store.
-- Assumes nothing.
use Prim.Native.Nat.{◌^◌, ◌-◌}
use lib.ListN.{length}
use Rattle.system.specs.System.{some_true, pair}
use Rattle.into.proofs.Filling.{Filling}
use Rattle.into.proofs.fill.Given as goal

abbrev pub invariant-loop-s : goal.invariant-loop-s
invariant-loop-s l = Filling (2 ^ l.free.n) (λ s. some_true l.free.w l.step (pair s l.state)) l.initial.store l.store l.count l.from

abbrev pub decreases-loop-s : goal.decreases-loop-s
decreases-loop-s l = length l.initial.store - l.count

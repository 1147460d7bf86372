-- `find::settle` meets its contract. The loop's invariant: the bits below k are gathered, and the rows from k on give the others. Assumes nothing.
use Prim.Native.Nat.{◌≤◌}
use lib.ListN.{length}
use Rattle.aiger.proofs.Settling.{Gathers}
use Rattle.aiger.proofs.find.settle.Given as goal

abbrev pub invariant-loop-k : goal.invariant-loop-k
invariant-loop-k l = (length l.gates ≤ 64) × Gathers l.gates l.mask l.next l.k

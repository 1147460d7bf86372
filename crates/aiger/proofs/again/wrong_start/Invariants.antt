-- `again::wrong_start` meets its contract. The loop's invariant: of whatever latches are read from the first place so many are right, and the rest is
-- read from the place now. Assumes nothing.
use Prim.Native.Nat.{◌≤◌}
use lib.ListN.{length}
use Rattle.aiger.proofs.Rereading.{Starting}
use Rattle.aiger.proofs.again.wrong_start.Given as goal

abbrev pub invariant-loop-k : goal.invariant-loop-k
invariant-loop-k l = (l.at ≤ length l.text) × Starting l.text l.from l.count l.at l.k

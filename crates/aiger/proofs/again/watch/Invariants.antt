-- `again::watch` meets its contract. The loop's invariant: of whatever literals are read from the first place the rest is read from the place now, those
-- in front are known, and what is said of all is said of what was gathered and of the rest. Assumes nothing.
use Prim.Native.Nat.{◌-◌, ◌≤◌}
use lib.ListN.{length}
use Rattle.aiger.specs.Inner.{flattened}
use Rattle.aiger.proofs.Rereading.{Gathering}
use Rattle.aiger.proofs.again.watch.Given as goal

abbrev pub invariant-loop : goal.invariant-loop
invariant-loop l = (l.at ≤ length l.s.text.now)
    × Gathering l.s.text.now (flattened l.rows.all.now) l.rows.latch_count l.s.at l.s.count l.at (l.s.count - l.counter) l.clause

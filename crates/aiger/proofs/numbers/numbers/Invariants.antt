-- `numbers::numbers` meets its contract. The loop's invariant: the numbers in front of the index are in the store, and the line's numbers are these
-- and those of the rest, of which one may have begun. Assumes nothing.
use Rattle.std.specs.Option.{unwrap_or}
use Rattle.aiger.proofs.Numbering.{has_begun, Walked}
use Rattle.aiger.proofs.numbers.numbers.Given as goal

abbrev pub invariant-loop-j : goal.invariant-loop-j
invariant-loop-j l = Walked l.line l.initial.into l.into l.count (has_begun l.begun) (unwrap_or l.begun 0) l.j

-- The loop of `part::take_part`: from the part's beginning to the place now so many rows were read and written.
use Rattle.aiger.proofs.Parting.{Taken}
use Rattle.aiger.proofs.part.take_part.Given as goal

abbrev pub invariant-loop-k : goal.invariant-loop-k
invariant-loop-k l = Taken l.text l.lines l.from l.initial.rows l.k l.at l.rows

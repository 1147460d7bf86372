-- `tables::list_holds` is safe and ends. The measure is what is left of the list. Assumes nothing.
use Rattle.std.proofs.Common.{length}
use Rattle.tables.proofs.list_holds.Given as goal

abbrev pub decreases-loop-clauses : goal.decreases-loop-clauses
decreases-loop-clauses l = length l.clauses

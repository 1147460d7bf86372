-- `aiger::with_bit` meets its contract: the position has its power, since the mask has 64. Assumes nothing.
use Rattle.circuit.specs.Import.{with_place}
use borrow.Author.Rules.{rules}
use Rattle.aiger.proofs.clauses.with_bit.Goals as goal

pub returns : goal.returns
unfolding with_place
returns c = search rules

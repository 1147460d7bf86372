-- `aiger::no_literal` meets its contract. Assumes nothing.
use Rattle.circuit.specs.Import.{empty}
use borrow.Author.Rules.{rules}
use Rattle.aiger.proofs.clauses.no_literal.Goals as goal

pub returns : goal.returns
unfolding empty
returns c = search rules

-- `aiger::too_short` meets its contract: the definition's three tests, in their order. Assumes nothing.
use Rattle.aiger.specs.Inner.{short}
use borrow.Author.Rules.{rules}
use Rattle.aiger.proofs.too_short.Goals as goal

pub returns-then-start-first : goal.returns-then-start-first
unfolding short
returns-then-start-first c = search rules

pub returns-then-step-latches : goal.returns-then-step-latches
unfolding short
returns-then-step-latches c = search rules

pub returns-else-step-latches : goal.returns-else-step-latches
unfolding short
returns-else-step-latches c = search rules

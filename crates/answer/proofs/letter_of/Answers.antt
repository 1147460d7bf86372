-- `answer::letter_of` meets its contract: each branch is a case of the definition. Assumes nothing.
use borrow.Author.Tests.{lt-ltb, le-ltb}
use Rattle.answer.specs.Output.{letter}
use Rattle.answer.proofs.letter_of.Goals as goal

pub returns-then-d-lt10 : goal.returns-then-d-lt10
unfolding letter
returns-then-d-lt10 c = rw (lt-ltb _ 10 c.if-d-lt10.true, letter)

pub returns : goal.returns
unfolding letter
returns c = rw (le-ltb _ 10 c.if-d-lt10.false, letter)

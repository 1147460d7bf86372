-- `answer::put_digits` meets its contract: one digit behind the other. Assumes nothing.
use Rattle.answer.proofs.Lines.{writes_digits}
use Rattle.answer.proofs.put_digits.Goals as goal

pub returns : goal.returns
returns c =
    writes_digits _ c.letter_of.ensures c.letter_of-2.ensures c.put-next.ensures c.put.ensures

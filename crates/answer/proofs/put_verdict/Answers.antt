-- `answer::put_verdict` meets its contract: its bytes are those of the frame, and the states follow. Assumes nothing.
use native.Mathlib.Omega.{arith}
use Rattle.answer.proofs.Lines.{line_end}
use Rattle.answer.proofs.Frames.{writes_verdict}
use borrow.Author.Rules.{rules}
use Rattle.answer.proofs.put_verdict.Goals as goal

pub put_states-requires : goal.put_states-requires
put_states-requires c = (omega (arith, line_end _ c.put_line-next.ensures), search rules)

pub returns : goal.returns
returns c =
    writes_verdict _ _ _ c.byte_of.ensures c.byte_of-2.ensures c.byte_of-3.ensures
    c.byte_of-4.ensures c.byte_of-5.ensures c.byte_of-6.ensures c.byte_of-7.ensures
    c.byte_of-8.ensures c.put_line-next.ensures c.put_states.ensures

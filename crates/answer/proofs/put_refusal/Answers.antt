-- `answer::put_refusal` meets its contract: its bytes are those of the frame. Assumes nothing.
use Rattle.answer.proofs.Frames.{writes_refusal}
use Rattle.answer.proofs.put_refusal.Goals as goal

pub returns : goal.returns
returns c =
    writes_refusal _ _ c.byte_of.ensures c.byte_of-2.ensures c.byte_of-3.ensures c.put_line.ensures

-- `answer::put_gave_up` meets its contract: its bytes are those of the frame. Assumes nothing.
use Rattle.answer.proofs.Frames.{writes_gave_up}
use Rattle.answer.proofs.put_gave_up.Goals as goal

pub returns : goal.returns
returns c =
    writes_gave_up _ _ c.byte_of.ensures c.byte_of-2.ensures
    c.byte_of-3.ensures c.byte_of-4.ensures c.byte_of-5.ensures c.put_line.ensures

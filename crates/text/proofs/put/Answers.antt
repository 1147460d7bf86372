-- `text::put` meets its contract: within the buffer one place is set, and past its end nothing is. Assumes nothing.
use mathlib.Core.Path.{sym}
use Rattle.text.proofs.Laying.{laid_one, laid_past}
use Rattle.text.proofs.put.Goals as goal

pub returns-then-at-buffer : goal.returns-then-at-buffer
returns-then-at-buffer c = sym (laid_one _ _ _)

pub returns-else-at-buffer : goal.returns-else-at-buffer
returns-else-at-buffer c = sym (laid_past _ _ _ c.if-at-buffer.false)

-- `look::forced` meets its contract: what a look at the blocks says, or one at R(i), it says of the condition. Assumes nothing.
use Rattle.look.specs.Condition.{lent}
use Rattle.look.proofs.Parts.{lent_whole, by_whole}
use Rattle.look.proofs.forced.Goals as goal

pub returns-in_default : goal.returns-in_default
returns-in_default c =
    let a = c.args in
    by_whole (lent a.r.now a.whole) a.s c.scan-look.result
    (rw (lent_whole a.r.now a.whole) c.scan-look.ensures)

pub returns : goal.returns
returns c = c.scan.ensures _

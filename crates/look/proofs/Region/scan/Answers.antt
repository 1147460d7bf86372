-- `Region::scan` meets its contract: what a look at the start list says, or one at the excluded states, it says of the condition. Assumes nothing.
use Rattle.look.proofs.Parts.{region_start, region_stored, by_low, by_states}
use Rattle.look.proofs.Region.scan.Goals as goal

pub returns-then-self-eq0 : goal.returns-then-self-eq0
returns-then-self-eq0 c whole =
    rw (region_start _ _ _ _ c.if-self-eq0.true) (by_low _ _ c.scan_low.result c.scan_low.ensures)

pub returns : goal.returns
returns c whole =
    rw (region_stored _ _ _ _ c.if-self-eq0.false) (by_states _ _ c.scan_states.result c.scan_states.ensures)

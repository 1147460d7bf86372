-- `question::is_open` meets its contract: the open bits of the front are those of the pair. Assumes nothing.
use mathlib.Core.Path.{sym, ap}
use native.Mathlib.Omega.{arith}
use lib.Dec.{ltb}
use Rattle.look.specs.Look.{setting}
use Rattle.question.proofs.Wide.{front_open}
use Rattle.question.proofs.is_open.Goals as goal

pub returns : goal.returns
returns c =
    let s = c.args.d.settled in
    ap (ltb 0) (sym (front_open s.bits (setting s).values c.args.front c.ranges.front.fits (omega arith)))

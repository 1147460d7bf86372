use native.Mathlib.Omega.{arith}
use Rattle.look.proofs.Lists.{walks_on, list_scanned}
use Rattle.look.proofs.scan_part.Goals as goal

pub loop-left-preserved : goal.loop-left-preserved
loop-left-preserved c = walks_on _ _ c.loop-left.invariant _

pub returns-in_default-look : goal.returns-in_default-look
returns-in_default-look c =
    list_scanned _ _ c.loop-left.invariant (omega arith) c.args.s c.clause-look.result c.clause-look.ensures

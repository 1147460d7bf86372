use Prim.Native.Nat.{◌-◌, ◌*◌}
use lib.Count.{count_trailing_zeros}
use Rattle.look.proofs.Lists.{part_scanned}
use Rattle.look.proofs.scan.Goals as goal

pub returns-in_default : goal.returns-in_default
returns-in_default c =
    let from = c.size-size.result * count_trailing_zeros 64 c.loop-left.left in
    part_scanned _ from (4 * c.min-end.result - 4 * from) c.args.s c.scan_part-look.result c.scan_part-look.ensures

-- `question::engine::lowest_wire` meets its contract: the lowest bit of a mask that is not 0 is one of its bits. Assumes nothing.
use mathlib.Core.Path.{refl}
use native.Mathlib.Omega.{arith}
use lib.Count.{count_trailing_zeros}
use Rattle.masks.proofs.Ends.{lowest_end}
use Rattle.masks.proofs.OneBit.{shift_one}
use Rattle.masks.proofs.Words.{lowest_low, one_wire}
use Rattle.question.proofs.engine.lowest_wire.Goals as goal

pub overflow_shl-result : goal.overflow_shl-result
overflow_shl-result c = lowest_low 64 _ (λ e. omega (arith, c.requires)) c.ranges.wires.fits

pub returns : goal.returns
returns c =
    record {
      k = count_trailing_zeros 64 c.args.wires;
      low = overflow_shl-result c;
      here = (lowest_end 64 c.args.wires c.requires c.ranges.wires.fits).here;
      is = one_wire _ _ (overflow_shl-result c) refl (shift_one 64 _ (overflow_shl-result c));
    }

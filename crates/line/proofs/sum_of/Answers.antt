use mathlib.Core.Path.{◌≡◌, refl}
use native.Mathlib.Omega.{arith}
use Rattle.line.specs.Text.{sum}
use Rattle.line.specs.Inner.{frame_at}
use Rattle.line.proofs.Digits.{byte_most}
use Rattle.line.proofs.Numbers.{sum_more}
use Rattle.line.proofs.sum_of.Goals as goal

pub loop-j-init : goal.loop-j-init
unfolding sum frame_at
loop-j-init c = (omega arith, refl)

pub overflow_add-total : goal.overflow_add-total
overflow_add-total c = record { fits = omega (arith, byte_most _ _ c.byte_at-total.ensures) }

pub loop-j-preserved : goal.loop-j-preserved
loop-j-preserved c =
    (omega (arith, byte_most _ _ c.byte_at-total.ensures), sum_more _ _ c.loop-j.invariant.1 c.byte_at-total.ensures)

pub returns : goal.returns
returns c =
    let all : c.loop-j.j ≡ c.args.count = omega arith in
    rw all at c.loop-j.invariant.1

use mathlib.Core.Path.{◌≡◌, refl}
use native.Mathlib.Omega.{arith}
use Rattle.line.specs.Text.{number}
use Rattle.line.specs.Inner.{frame_at}
use Rattle.line.proofs.Numbers.{number_more, number_seven}
use Rattle.line.proofs.number_at.Goals as goal

pub loop-j-init : goal.loop-j-init
unfolding number frame_at
loop-j-init c = refl

pub overflow_mul-high : goal.overflow_mul-high
overflow_mul-high c =
    let small = c.requires.small in
    record { fits = omega (arith, number_seven _ _ _ (omega arith) (λ k l. small k (omega arith)) c.loop-j.invariant) }

pub overflow_add-high : goal.overflow_add-high
overflow_add-high c =
    let small = c.requires.small in
    record {
      fits = omega (
        arith,
        number_seven _ _ _ (omega arith) (λ k l. small k (omega arith)) c.loop-j.invariant,
        small c.loop-j.j (omega arith),
        c.byte_at.ensures,
      );
    }

pub loop-j-preserved : goal.loop-j-preserved
loop-j-preserved c = number_more _ _ _ c.loop-j.invariant c.byte_at.ensures

pub returns : goal.returns
returns c =
    let all : c.loop-j.j ≡ c.args.count = omega arith in
    rw all at c.loop-j.invariant

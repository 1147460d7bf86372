use mathlib.Core.Path.{ap}
use native.Mathlib.Omega.{arith}
use lib.Count.{ones}
use Rattle.look.specs.Reason.{Setting}
use Rattle.question.proofs.More.{more_falls}
use Rattle.question.proofs.Rest.{follows_more, follows_fails}
use Rattle.question.proofs.Solving.{forced}
use Rattle.question.proofs.engine.Asked.rest.Goals as goal

pub returns-in-Failed : goal.returns-in-Failed
returns-in-Failed c =
    follows_fails c.loop-bit.invariant c.in-Failed.ensures

pub loop-bit-smaller : goal.loop-bit-smaller
loop-bit-smaller c =
    let ok = c.loop-bit.invariant.sound in
    let f = more_falls (forced ok c.in-Forced.ensures) ok in
    omega (arith, ap (λ (t : Setting). ones t.bits) c.settle_at-r.ensures, f.one, f.most)

pub loop-bit-preserved : goal.loop-bit-preserved
loop-bit-preserved c =
    rw c.settle_at-r.ensures (follows_more c.loop-bit.invariant c.in-Forced.ensures)

use mathlib.Core.Logic.{⊎_elim}
use native.Mathlib.Omega.{arith}
use lib.ListN.{length}
use Rattle.base.proofs.Tests.{lt_or_ge}
use Rattle.text.proofs.Lines.{length_ended, length_feed_at, length_other_at}
use Rattle.text.proofs.line_length.Goals as goal

pub returns-then-text-i-eq10 : goal.returns-then-text-i-eq10
returns-then-text-i-eq10 c =
    omega (arith, c.loop-i.invariant.1, length_feed_at c.args.text.now c.loop-i.i (omega arith) c.if-text-i-eq10.true)

pub loop-i-preserved : goal.loop-i-preserved
loop-i-preserved c =
    (omega arith, omega (arith, c.loop-i.invariant.1, length_other_at c.args.text.now c.loop-i.i (omega arith) c.if-text-i-eq10.false))

pub returns : goal.returns
returns c =
    let ended = length_ended c.args.text.now c.loop-i.i (omega arith) in
    ⊎_elim (λ l. omega (arith, ended, l))
    (λ g. omega (arith, length_ended c.args.text.now c.args.at g)) (lt_or_ge c.args.at (length c.args.text.now))

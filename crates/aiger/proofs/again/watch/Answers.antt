use mathlib.Core.Path.{sym, ◌∙◌}
use native.Mathlib.Omega.{arith}
use Rattle.aiger.proofs.Rereading.{watches, unwatched, gathering_first, gathered_next}
use Rattle.aiger.proofs.again.watch.Goals as goal

pub loop-init : goal.loop-init
loop-init c = (c.args.s.within, rw c.no_literal-clause.ensures (gathering_first _ _ _ _ _))

pub returns-then-not-is_known : goal.returns-then-not-is_known
returns-then-not-is_known c =
    unwatched _ _ _ _ _ c.loop.invariant.1 (omega (arith, c.loop-test.true)) c.loop.invariant.0 c.read_line-line.ensures
    (sym c.is_known.ensures ∙ c.if-not-is_known.true)

pub loop-preserved : goal.loop-preserved
loop-preserved c = (
  c.read_line-line.ensures.within,
  λ h singles others again.
      gathered_next _ _ _ (c.loop.invariant.1 h singles others again) (omega (arith, c.loop-test.true)) c.loop.invariant.0
      c.read_line-line.ensures
      (sym c.is_known.ensures ∙ c.if-not-is_known.false)
      _
      c.with_literal-clause.ensures
      (omega arith),
)

pub returns : goal.returns
returns c = watches _ _ _ _ _ c.loop.invariant.1 c.loop.invariant.0 (omega (arith, c.loop-test.false))

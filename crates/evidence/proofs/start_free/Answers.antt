use mathlib.Core.Bool.{not}
use mathlib.Core.Path.{sym, ap, ◌∙◌}
use native.Mathlib.Omega.{arith}
use Rattle.evidence.proofs.Each.{each_stops, each_passes, each_ends}
use Rattle.evidence.proofs.start_free.Goals as goal

pub returns-then-is_start : goal.returns-then-is_start
returns-then-is_start c =
    each_stops _ _ _ c.loop-s.invariant c.loop-s-test.true (ap not (sym c.is_start.ensures ∙ c.if-is_start.true))

pub loop-s-preserved : goal.loop-s-preserved
loop-s-preserved c =
    each_passes _ _ _ c.loop-s.invariant c.loop-s-test.true (ap not (sym c.is_start.ensures ∙ c.if-is_start.false))

pub returns : goal.returns
returns c = each_ends _ _ _ c.loop-s.invariant (omega arith)

use mathlib.Core.Path.{sym, ap, ◌∙◌}
use native.Mathlib.Omega.{arith}
use Rattle.question.specs.Question.{answered}
use Rattle.question.proofs.Ranges.{is_between}
use Rattle.into.proofs.Filling.{filling_small, filling_none, filling_more, filled, overfull}
use Rattle.into.proofs.fill.Goals as goal

pub loop-s-init : goal.loop-s-init
loop-s-init c = filling_none _ _ _

-- ---- there is no state more
pub returns-in_default : goal.returns-in_default
returns-in_default c =
    filled _ _ _ _ _ _ c.loop-s.invariant _
    (is_between _ _ _ _ (sym (ap answered c.in_default.is) ∙ c.next-answer.ensures)) c.clear_behind.ensures

-- ---- there is one, and no room for it
pub returns-then-count-store : goal.returns-then-count-store
returns-then-count-store c =
    overfull _ _ _ _ _ _ c.loop-s.invariant _ _
    (is_between _ _ _ _ (sym (ap answered c.in-Some.is) ∙ c.next-answer.ensures)) (omega arith) c.clear.ensures

-- ---- it is written
pub loop-s-preserved : goal.loop-s-preserved
loop-s-preserved c =
    filling_more _ _ _ _ _ _ c.loop-s.invariant _
    (is_between _ _ _ _ (sym (ap answered c.in-Some.is) ∙ c.next-answer.ensures)) (omega arith)

pub overflow_add-from : goal.overflow_add-from
overflow_add-from c = omega (arith, filling_small c.requires (loop-s-preserved c))

-- `line::in_place` meets its contract: it tests what the definition tests, in the same order. Assumes nothing.
use mathlib.Core.Path.{sym}
use mathlib.Core.Logic.{inl, inr, ⊎_elim}
use native.Mathlib.Omega.{arith}
use Rattle.line.proofs.Placing.{place_first, place_below, place_clause, place_last}
use Rattle.line.proofs.in_place.Goals as goal

pub returns-then-stage-eq0 : goal.returns-then-stage-eq0
returns-then-stage-eq0 c = sym (place_first _ _ c.if-stage-eq0.true)

pub returns-then-kind-stage : goal.returns-then-kind-stage
returns-then-kind-stage c = sym (place_below _ _ (omega arith) c.if-kind-stage.true)

pub returns-then-kind-le3 : goal.returns-then-kind-le3
returns-then-kind-le3 c = sym (place_clause _ _ (omega arith) (omega arith) c.if-kind-le3.true)

pub returns : goal.returns
returns c =
    sym (place_last _ _ (omega arith) (omega arith) (⊎_elim (λ t. inr t.1) (λ t. inl (omega arith)) c.else-kind-ge1.either))

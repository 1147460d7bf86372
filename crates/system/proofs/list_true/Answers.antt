use mathlib.Core.Path.{sym, ap, ◌∙◌}
use native.Mathlib.Omega.{arith}
use Rattle.base.proofs.Lists.{rest_of}
use Rattle.system.specs.System.{list_true}
use Rattle.system.proofs.Lists.{list_stops, list_passes, list_ends}
use Rattle.system.proofs.list_true.Goals as goal

pub returns-then-not-clause_true : goal.returns-then-not-clause_true
returns-then-not-clause_true c =
    let said = rw c.new.ensures at (sym c.clause_true.ensures ∙ c.if-not-clause_true.true) in
    sym (c.loop-left.invariant ∙ list_stops _ 0 _ _ c.in-len4-up.len_at_least said)

pub loop-left-preserved : goal.loop-left-preserved
loop-left-preserved c =
    let said = rw c.new.ensures at (sym c.clause_true.ensures ∙ c.if-not-clause_true.false) in
    c.loop-left.invariant
    ∙ (list_passes _ 0 _ _ c.in-len4-up.len_at_least said
    ∙ ap (λ l. list_true l c.args.word.pair c.args.word.wires) (sym (rest_of 4 c.loop-left.left.now)))

pub returns : goal.returns
returns c = sym (c.loop-left.invariant ∙ list_ends _ 0 _ _ (omega (arith, c.in_default.len_below)))

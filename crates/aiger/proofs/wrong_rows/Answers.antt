-- `aiger::wrong_rows` meets its contract: the definition's tests, in their order. Assumes nothing.
use Rattle.aiger.specs.Inner.{wrong_rows}
use mathlib.Core.Path.{sym, ◌∙◌}
use Rattle.aiger.proofs.Slices.{latches_known, gates_known}
use borrow.Author.Rules.{rules}
use Rattle.aiger.proofs.wrong_rows.Goals as goal

pub returns-then-defined_twice : goal.returns-then-defined_twice
unfolding wrong_rows
returns-then-defined_twice c = search rules

pub returns-then-not-all_known : goal.returns-then-not-all_known
unfolding wrong_rows
returns-then-not-all_known c =
    let twice = sym c.defined_twice.ensures ∙ c.if-defined_twice.false in
    let latches = latches_known c.args.rows.all.now c.args.rows.latch_count in
    let tested = rw c.latches.ensures at c.all_known.ensures in
    let unknown = sym latches ∙ (sym tested ∙ c.if-not-all_known.true) in
    rw (twice, unknown, c.if-not-all_known.true)

pub returns-else-not-all_known : goal.returns-else-not-all_known
unfolding wrong_rows
returns-else-not-all_known c =
    let twice = sym c.defined_twice.ensures ∙ c.if-defined_twice.false in
    let latches = latches_known c.args.rows.all.now c.args.rows.latch_count in
    let tested = rw c.latches.ensures at c.all_known.ensures in
    let known = sym latches ∙ (sym tested ∙ c.if-not-all_known.false) in
    rw (twice, known, c.all_known-else-not-all_known.ensures, c.gates.ensures, gates_known c.args.rows.all.now c.args.rows.first_gate)

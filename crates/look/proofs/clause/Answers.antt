-- `look::clause` meets its contract. Where it says nothing there is nothing to show. With no literal open the clause fails; with one bit
-- open, wanted by one of the masks alone, it is forced. Assumes nothing.
use mathlib.Core.Path.{sym, ap₂, ◌∙◌}
use lib.Bits.{bit_or}
use borrow.Author.Tests.{eqb-true, eqb-false}
use Rattle.masks.specs.Word.{width}
use Rattle.masks.proofs.Words.{word_lt}
use Rattle.look.specs.Look.{setting}
use Rattle.look.proofs.Forcing.{clause_fails, clause_forces}
use Rattle.look.proofs.Clauses.{clause_of_lem}
use Rattle.look.proofs.clause.Goals as goal

pub returns-then-is_empty : goal.returns-then-is_empty
returns-then-is_empty c =
    let a = c.args in
    let no_zeros = sym c.and.ensures
    ∙ eqb-true _ _ (sym c.same.ensures ∙ c.if-not-same.false)
    ∙ c.and-2.ensures in
    let no_ones = sym c.and-3.ensures ∙ eqb-true _ _ (sym c.is_empty.ensures ∙ c.if-not-is_empty.false) in
    rw c.or-reason.ensures
    (clause_fails width _ _ _ (clause_of_lem a.c) (setting a.s)
    (word_lt a.c.ones)
    (word_lt a.c.zeros)
    (word_lt a.s.bits)
    no_ones
    no_zeros
    (sym (c.or-open.ensures ∙ ap₂ bit_or c.without-want_1.ensures c.without-want_0.ensures)
    ∙ eqb-true _ _ (sym c.is_empty-2.ensures ∙ c.if-is_empty.true)))

pub returns : goal.returns
returns c =
    let one = c.is_single.ensures.0 c.if-not-is_single.false in
    let a = c.args in
    let no_zeros = sym c.and.ensures
    ∙ eqb-true _ _ (sym c.same.ensures ∙ c.if-not-same.false)
    ∙ c.and-2.ensures in
    let no_ones = sym c.and-3.ensures ∙ eqb-true _ _ (sym c.is_empty.ensures ∙ c.if-not-is_empty.false) in
    rw (c.or-reason.ensures, c.or-open.ensures, c.without-want_1.ensures, c.without-want_0.ensures)
    (clause_forces width _ _ _ (clause_of_lem a.c) (setting a.s)
    (word_lt a.c.ones)
    (word_lt a.c.zeros)
    (word_lt a.s.bits)
    no_ones
    no_zeros
    one.k
    one.low
    (rw (c.or-open.ensures, c.without-want_1.ensures, c.without-want_0.ensures) at one.is)
    (λ e. eqb-false _ _ (sym c.same-2.ensures ∙ c.if-same.false) (c.without-want_1.ensures ∙ e ∙ sym c.without-want_0.ensures)))

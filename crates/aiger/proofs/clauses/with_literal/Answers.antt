-- `clauses::with_literal` meets its contract: the variable has a row or not, and the literal is plain or inverted. Assumes nothing.
use mathlib.Core.Path.{sym}
use Rattle.aiger.proofs.Placing.{plain_row, inverted_row, plain_none, inverted_none}
use Rattle.aiger.proofs.clauses.with_literal.Goals as goal

pub returns-then-sign-eq0 : goal.returns-then-sign-eq0
returns-then-sign-eq0 c = plain_none _ _ _ _ (sym c.in_default.ensures) _ c.if-sign-eq0.true

pub returns-in_default : goal.returns-in_default
returns-in_default c =
    inverted_none _ _ _ _ (sym c.in_default.ensures) _ _ _ c.if-sign-eq0.false c.with_bit.ensures c.with_bit-in_default.ensures

pub returns-then-sign-eq0-2 : goal.returns-then-sign-eq0-2
returns-then-sign-eq0-2 c = plain_row _ _ _ _ (sym c.in-Some.ensures) _ _ c.if-sign-eq0-2.true c.with_row.ensures

pub returns : goal.returns
returns c = inverted_row _ _ _ _ (sym c.in-Some.ensures) _ _ c.if-sign-eq0-2.false c.with_row-2.ensures

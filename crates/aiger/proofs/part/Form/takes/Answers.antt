-- `part::Form::takes` meets its contract: it tests as the definition does. Assumes nothing.
use mathlib.Core.Path.{sym, ◌∙◌}
use Rattle.std.proofs.Common.{rules, arith}
use Rattle.aiger.specs.Text.{defining}
use Rattle.aiger.proofs.Rows.{takes_none, takes_by, fits_other, fits_start, fits_low}
use Rattle.aiger.proofs.part.Form.takes.Goals as goal

pub returns-in_default : goal.returns-in_default
returns-in_default c = takes_none c.requires _ c.in_default.is

pub returns-then-not-has : goal.returns-then-not-has
returns-then-not-has c = takes_by c.requires _ c.in-Some.is (fits_other c.requires (sym c.has.ensures ∙ c.if-not-has.true))

pub returns-then-row-eq0 : goal.returns-then-row-eq0
unfolding defining
returns-then-row-eq0 c =
    takes_by c.requires _ c.in-Some.is (fits_start c.requires (sym c.has.ensures ∙ c.if-not-has.false) (search rules))

pub returns-then-self-lt3 : goal.returns-then-self-lt3
unfolding defining
returns-then-self-lt3 c =
    takes_by c.requires _ c.in-Some.is (fits_low c.requires (sym c.has.ensures ∙ c.if-not-has.false) (search rules) (grind arith))

pub returns-else-self-lt3 : goal.returns-else-self-lt3
unfolding defining
returns-else-self-lt3 c =
    takes_by c.requires _ c.in-Some.is (fits_low c.requires (sym c.has.ensures ∙ c.if-not-has.false) (search rules) (grind arith))

pub returns-else-row-most-2 : goal.returns-else-row-most-2
unfolding defining
returns-else-row-most-2 c =
    takes_by c.requires _ c.in-Some.is (fits_low c.requires (sym c.has.ensures ∙ c.if-not-has.false) (search rules) (grind arith))

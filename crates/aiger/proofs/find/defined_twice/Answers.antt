use mathlib.Core.Path.{sym, ◌∙◌}
use Rattle.aiger.proofs.Finding.{twice_next, twice_end}
use Rattle.aiger.proofs.find.defined_twice.Goals as goal

pub returns-then-is_some : goal.returns-then-is_some
returns-then-is_some c =
    let found = rw (c.is_some.ensures, c.find.ensures) at c.if-is_some.true in
    sym (c.loop-left.invariant ∙ (twice_next _ c.in-len1-up.len_at_least ∙ rw found))

pub loop-left-preserved : goal.loop-left-preserved
loop-left-preserved c =
    let none = rw (c.is_some.ensures, c.find.ensures) at c.if-is_some.false in
    c.loop-left.invariant ∙ (twice_next _ c.in-len1-up.len_at_least ∙ rw none)

pub returns : goal.returns
returns c = sym (c.loop-left.invariant ∙ twice_end _ c.in_default.len_below)

-- `look::is_outside` meets its contract: R(0) is what the start list is true of, and above it are all states but those excluded. Assumes nothing.
use mathlib.Core.Path.{sym, ap, ◌∙◌}
use mathlib.Core.Bool.{not}
use native.Mathlib.Nat.{mod-lt}
use lib.Pow.{pow_pos}
use Rattle.look.proofs.Parts.{outside_start, outside_stored}
use Rattle.look.proofs.is_outside.Goals as goal

pub returns-then-r-eq0 : goal.returns-then-r-eq0
returns-then-r-eq0 c whole =
    let a = c.args in
    ap not c.list_true.ensures ∙ sym (outside_start a.r.now.within.now whole a.r.now.levels.now a.r.now.i c.if-r-eq0.true _ (mod-lt a.s (pow_pos 32)))

pub returns : goal.returns
returns c whole =
    let a = c.args in
    c.is_excluded.ensures ∙ sym (outside_stored a.r.now.within.now whole a.r.now.levels.now a.r.now.i c.if-r-eq0.false _)

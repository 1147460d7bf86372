use mathlib.Core.Path.{refl, sym, ◌∙◌}
use Rattle.evidence.proofs.Paths.{leads_stops, leads_passes, leads_ends, step_asked, bad_asked}
use Rattle.evidence.proofs.leads_on.Goals as goal

pub loop-left-init : goal.loop-left-init
loop-left-init c = record { some = c.requires.0; small = c.requires.1; leads = refl }

pub returns-then-not-some_true : goal.returns-then-not-some_true
returns-then-not-some_true c =
    let w = c.loop-left.invariant in
    let asked = c.some_true.ensures ∙ step_asked _ _ _ w.small 0 c.in-len2-up.len_at_least in
    sym (leads_stops _ _ _ _ w c.in-len2-up.len_at_least (sym asked ∙ c.if-not-some_true.true))

pub loop-left-preserved : goal.loop-left-preserved
loop-left-preserved c =
    let w = c.loop-left.invariant in
    let asked = c.some_true.ensures ∙ step_asked _ _ _ w.small 0 c.in-len2-up.len_at_least in
    leads_passes _ _ _ _ w c.in-len2-up.len_at_least (sym asked ∙ c.if-not-some_true.false)

pub returns : goal.returns
returns c =
    let w = c.loop-left.invariant in
    let asked = c.some_true-2.ensures ∙ bad_asked _ _ _ w.small 0 w.some in
    asked ∙ sym (leads_ends _ _ _ _ w c.in_default.len_below)

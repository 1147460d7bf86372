use mathlib.Core.Path.{sym, ap, ◌∙◌}
use mathlib.Core.List.{[], ◌∷◌, map}
use Rattle.std.proofs.lemmas.List.{map-append}
use Rattle.std.proofs.lemmas.Iterator.Adapters.{YieldsList-from_rev_slice}
use Rattle.std.proofs.lemmas.Iterator.Consumers.{YieldsList-end}
use Rattle.masks.specs.Word.{width, word_of}
use Rattle.question.specs.Reason.{resolved}
use Rattle.question.proofs.Along.{back_more, back_along}
use Rattle.question.proofs.trail.resolve_along.Goals as goal

pub loop-entry-preserved : goal.loop-entry-preserved
loop-entry-preserved c =
    let e = c.in-Some.entry.now in
    rw (map-append _ c.loop-entry.yielded (c.in-Some.entry ∷ []))
    (c.resolve-r.ensures
    ∙ ap (λ r. resolved width r (word_of e.reason) (word_of e.bit)) c.loop-entry.invariant
    ∙ sym (back_more (map (λ e. e.now) c.loop-entry.yielded) e (word_of c.args.reason)))

pub returns : goal.returns
returns c =
    let l = c.loop-entry in
    let end = YieldsList-end (YieldsList-from_rev_slice c.args.entries.now (cc)) l.yielded _ l.yielded_by _ _ c.in-None.is c.next.ensures.steps in
    c.loop-entry.invariant ∙ (rw end.0 (back_along c.args.entries.now _))

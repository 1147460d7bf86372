-- `Asked::test` meets its contract: with no bit open the values are a word, and it passes or nothing does; outside R(i) it fails for the state's
-- bits alone. Assumes nothing.
use Prim.Native.Nat.{◌-◌, ◌^◌}
use mathlib.Core.Path.{refl, sym, ap, ◌∙◌}
use native.Mathlib.Omega.{arith}
use Rattle.masks.specs.Word.{width, word_of}
use Rattle.masks.proofs.Words.{half_width, no_wire, low_half}
use Rattle.look.specs.Condition.{word_true, outside, fulfils}
use Rattle.look.specs.Look.{setting}
use Rattle.look.specs.declared.Look.TheVariants.{Failed}
use Rattle.look.proofs.Parts.{lent_whole, by_whole}
use Rattle.question.specs.Engine.{condition_of}
use Rattle.question.proofs.Pairs.{fulfils_same}
use Rattle.question.proofs.Fulfilled.{word_true_lem, fulfils_inside, outside_fails}
use Rattle.question.proofs.Solving.{full_passes, full_nothing, state_among}
use Rattle.question.proofs.engine.Asked.test.Goals as goal

pub returns-then-is_outside : goal.returns-then-is_outside
returns-then-is_outside c =
    let a = c.args in
    let asked = condition_of a.self.now in
    rw (no_wire (record { pair = 2 ^ 32 - 1; wires = 0 }) (omega arith) refl)
    (outside_fails asked (setting a.s) (state_among width (fulfils asked) (setting a.s) c.requires.valid 32 half_width c.requires.all)
    (ap (outside asked) (low_half a.s.values) ∙ sym (c.is_outside.ensures a.self.now.whole.now) ∙ c.if-is_outside.true))

pub returns-then-list_true : goal.returns-then-list_true
returns-then-list_true c =
    let a = c.args in
    let asked = condition_of a.self.now in
    full_passes width (fulfils asked) (setting a.s) c.requires.valid
    (fulfils_inside asked (word_of a.s.values)
    (ap (outside asked) (low_half a.s.values) ∙ sym (c.is_outside.ensures a.self.now.whole.now) ∙ c.if-is_outside.false)
    ∙ ap (λ l. word_true l (word_of a.s.values)) (lent_whole a.self.now.region a.self.now.whole)
    ∙ word_true_lem a.self.now.whole.now a.s.values ∙ sym c.list_true.ensures ∙ c.if-list_true.true)

pub returns-in_default : goal.returns-in_default
returns-in_default c =
    let a = c.args in
    let asked = condition_of a.self.now in
    full_nothing width (fulfils asked) (setting a.s) c.requires.valid (fulfils_same asked) c.requires.all
    (fulfils_inside asked (word_of a.s.values)
    (ap (outside asked) (low_half a.s.values) ∙ sym (c.is_outside.ensures a.self.now.whole.now) ∙ c.if-is_outside.false)
    ∙ ap (λ l. word_true l (word_of a.s.values)) (lent_whole a.self.now.region a.self.now.whole)
    ∙ word_true_lem a.self.now.whole.now a.s.values ∙ sym c.list_true.ensures ∙ c.if-list_true.false)

pub returns : goal.returns
returns c =
    let a = c.args in
    by_whole (condition_of a.self.now) a.s (Failed _)
    (rw (lent_whole a.self.now.region a.self.now.whole) (rw c.in-Failed.is at c.scan_all-look.ensures))

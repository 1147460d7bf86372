use Prim.Native.Nat.{ℕ, ◌≤◌}
use mathlib.Core.Path.{◌≡◌, sym, ap, ◌∙◌}
use native.Mathlib.Omega.{arith}
use borrow.Author.Rules.{rules}
use borrow.Author.Tests.{eqb-true}
use lib.Count.{ones}
use Rattle.std.proofs.lemmas.List.{length-take-le}
use Rattle.masks.specs.Word.{width, word_of}
use Rattle.masks.proofs.Words.{full_word, zero_word}
use Rattle.look.specs.Look.{setting}
use Rattle.look.specs.Reason.{Forces, Setting, more}
use Rattle.question.specs.Engine.{asked_of}
use Rattle.question.proofs.More.{more_sound, more_falls}
use Rattle.question.proofs.Solving.{more_passes, forced, at_zero, zero_enough, refuted}
use Rattle.question.specs.declared.trail.Entry.{Entry}
use Rattle.question.proofs.Along.{Led, led_none, led_few, led_within, led_lent, led_next, led_more}
use Rattle.question.proofs.engine.Asked.+attempt_settle.Goals as goal
use Rattle.question.proofs.engine.Asked.+attempt_settle.Goals.{settle-in-Failed, settle-in-Forced, settle-in-Rest+then-bits, settle-in-Rest+else-bits, settle-Joined-forced, settle-In-Forced-said, attempt-After-settle_at}

-- no more entries than 128
few : width ≤ 128
unfolding width
few = omega arith

-- ---- `attempt`
-- the bit is settled at 0
zeroed : (t : ℕ) (c : attempt-After-settle_at t) → setting c.settle_at.result ≡ more (setting c.args.s) (word_of c.pick-bit.result) 0
zeroed t c = c.settle_at.ensures ∙ ap (more (setting c.args.s) (word_of c.pick-bit.result)) zero_word

pub attempt-settle-f-requires : goal.attempt-settle-f-requires
attempt-settle-f-requires t c =
    let b = c.requires.begins in
    let zero = at_zero b.valid c.pick-bit.ensures in
    let f = more_falls zero b.valid in
    let e = zeroed t (goal.at.attempt-settle-f-requires t c).After-settle_at in
    let n = ap (λ (t : Setting). ones t.bits) e in (
      omega (arith, n, f.one, f.most, c.decreases),
      record { valid = rw e (more_sound zero b.valid); long = omega (arith, n, f.one, b.long) },
    )

pub attempt-returns-then-is_empty : goal.attempt-returns-then-is_empty
attempt-returns-then-is_empty t c =
    let e = zeroed t (goal.at.attempt-returns-then-is_empty t c).After-settle_at in
    zero_enough c.requires.begins.valid c.pick-bit.ensures (asked_of c.args.self.now) _ (rw e at c.in-Err.ensures)
    (sym c.and.ensures ∙ eqb-true _ _ (sym c.is_empty.ensures ∙ c.if-is_empty.true))

pub attempt-returns-in-Ok : goal.attempt-returns-in-Ok
attempt-returns-in-Ok t c =
    let e = zeroed t (goal.at.attempt-returns-in-Ok t c).After-settle_at in
    more_passes (at_zero c.requires.begins.valid c.pick-bit.ensures) (asked_of c.args.self.now) _ (rw e at c.in-Ok.ensures)

pub attempt-returns-else-is_empty : goal.attempt-returns-else-is_empty
attempt-returns-else-is_empty t c =
    let e = zeroed t (goal.at.attempt-returns-else-is_empty t c).After-settle_at in
    refuted c.requires.begins.valid c.pick-bit.ensures (rw e at c.in-Err.ensures)

-- ---- `settle`
pub settle-loop-reason-init : goal.settle-loop-reason-init
settle-loop-reason-init t c = led_none c.requires.valid

pub settle-test-requires : goal.settle-test-requires
settle-test-requires t c = record { valid = c.loop-reason.invariant.sound; all = full_word c.loop-reason.r.bits c.if-bits.true }

pub settle-offset_bounds-trail-noted : goal.settle-offset_bounds-trail-noted
settle-offset_bounds-trail-noted t c = omega (arith, few, led_few c.loop-reason.invariant)

pub settle-slice_bounds-attempt-count : goal.settle-slice_bounds-attempt-count
settle-slice_bounds-attempt-count t c = omega (arith, led_within c.loop-reason.invariant (omega arith))

pub settle-slice_bounds-attempt-start : goal.settle-slice_bounds-attempt-start
settle-slice_bounds-attempt-start t c = omega (arith, led_within c.loop-reason.invariant (omega arith))

pub settle-slice_bounds-resolve_along-end : goal.settle-slice_bounds-resolve_along-end
settle-slice_bounds-resolve_along-end t c = omega (arith, led_within c.loop-reason.invariant (omega arith))

pub settle-slice_bounds-resolve_along-end-in-Failed-said : goal.settle-slice_bounds-resolve_along-end-in-Failed-said
settle-slice_bounds-resolve_along-end-in-Failed-said t c = sym (length-take-le _ _ (settle-slice_bounds-resolve_along-end t c))

-- the trail leads to where the turn came, whichever way it went
leads : (t : ℕ) (c : settle-Joined-forced t)
    → Led width (asked_of c.args.self.now) (setting c.args.s) c.match-forced.trail c.loop-reason.noted (setting c.loop-reason.r)
leads t c =
    let L = c.loop-reason.invariant in
    elim c.match-forced.branch [
      | settle-in-Failed w ↦ rw w.trail-is L
      | settle-in-Forced w ↦ rw w.trail-is L
      | settle-in-Rest+then-bits w ↦ rw w.trail-is L
      | settle-in-Rest+else-bits w ↦ rw w.trail-is (led_lent L _ (led_within L (omega arith)))
    ]

-- the bit that is forced then, whichever way the turn came to it
forces : (t : ℕ) (c : settle-In-Forced-said t)
    → Forces width (asked_of c.args.self.now) (setting c.loop-reason.r)
    (word_of c.in-Forced-said.reason) (word_of c.in-Forced-said.bit) (word_of c.in-Forced-said.value)
forces t c = search rules

pub settle-offset_bounds-trail-noted-in-Forced-said : goal.settle-offset_bounds-trail-noted-in-Forced-said
settle-offset_bounds-trail-noted-in-Forced-said t c = omega (arith, few, led_few c.loop-reason.invariant)

pub settle-bounds-trail-noted : goal.settle-bounds-trail-noted
settle-bounds-trail-noted t c =
    let q = c.in-Forced-said in
    omega (arith, led_next c.loop-reason.invariant (record { reason = q.reason; bit = q.bit }) (forces t c) (omega arith))

pub settle-overflow_add-noted : goal.settle-overflow_add-noted
settle-overflow_add-noted t c = omega (arith, few, led_few c.loop-reason.invariant)

pub settle-loop-reason-smaller : goal.settle-loop-reason-smaller
settle-loop-reason-smaller t c =
    let F = forces t (goal.at.settle-loop-reason-smaller t c).In-Forced-said in
    let ok = c.loop-reason.invariant.sound in
    let f = more_falls (forced ok F) ok in
    omega (arith, ap (λ (t : Setting). ones t.bits) c.settle_at-r.ensures, f.one, f.most)

pub settle-loop-reason-preserved : goal.settle-loop-reason-preserved
settle-loop-reason-preserved t c =
    let q = c.in-Forced-said in
    let F = forces t (goal.at.settle-loop-reason-preserved t c).In-Forced-said in
    let e : Entry = record { reason = q.reason; bit = q.bit } in
    let L = leads t (goal.at.settle-loop-reason-preserved t c).Joined-forced in
    rw c.settle_at-r.ensures (led_more L e F (led_next L e F (omega arith)))

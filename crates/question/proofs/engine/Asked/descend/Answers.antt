-- `Asked::descend` meets its contract: the highest open bit of the front is settled at 0 for a word that has a 0 there, the one in hand
-- or one that is found, and at 1 if none is found. Assumes nothing.
use mathlib.Core.Path.{◌≡◌, sym, ap, ◌∙◌}
use native.Mathlib.Omega.{arith}
use lib.Count.{ones}
use borrow.Author.Tests.{eqb-true, eqb-false}
use Rattle.masks.specs.Word.{word_of}
use Rattle.masks.proofs.Words.{zero_word}
use Rattle.look.specs.Reason.{Setting, more}
use Rattle.look.specs.Look.{setting}
use Rattle.question.proofs.More.{more_sound, more_falls}
use Rattle.question.proofs.Solving.{at_zero}
use Rattle.question.proofs.Walk.{descends_zero, in_hand, descends_one}
use Rattle.question.proofs.engine.Asked.descend.Goals as goal
use Rattle.question.proofs.engine.Asked.descend.Goals.{After-settle_at-zero}

-- the bit is settled at 0
zeroed : (c : After-settle_at-zero) → setting c.settle_at-zero.result ≡ more (setting c.args.d.settled) (word_of c.top_open-bit.result) 0
zeroed c = c.settle_at-zero.ensures ∙ ap (more (setting c.args.d.settled) (word_of c.top_open-bit.result)) zero_word

pub returns-then-is_empty : goal.returns-then-is_empty
returns-then-is_empty c =
    let D = c.requires.0.stands in
    let e = zeroed (goal.at.returns-then-is_empty c).After-settle_at-zero in
    rw e
    (descends_zero D c.top_open-bit.ensures _
    (in_hand D c.top_open-bit.ensures (sym c.and.ensures ∙ eqb-true _ _ (sym c.is_empty.ensures ∙ c.if-is_empty.true))))

pub settle-requires : goal.settle-requires
settle-requires c =
    let D = c.requires.0.stands in
    let e = zeroed (goal.at.settle-requires c).After-settle_at-zero in
    record {
      valid = rw e (more_sound (at_zero D.sound c.top_open-bit.ensures.free) D.sound);
      long = omega (
        arith,
        ap (λ (t : Setting). ones t.bits) e,
        (more_falls (at_zero D.sound c.top_open-bit.ensures.free) D.sound).one,
        c.requires.1,
      );
    }

pub returns-in-Ok : goal.returns-in-Ok
returns-in-Ok c =
    let D = c.requires.0.stands in
    let e = zeroed (goal.at.returns-in-Ok c).After-settle_at-zero in
    rw e (descends_zero D c.top_open-bit.ensures _ (rw e at c.in-Ok.ensures))

pub returns-in-Err : goal.returns-in-Err
returns-in-Err c =
    let D = c.requires.0.stands in
    let e = zeroed (goal.at.returns-in-Err c).After-settle_at-zero in
    rw c.settle_at.ensures
    (descends_one D c.top_open-bit.ensures _ (rw e at c.in-Err.ensures)
    (λ z. eqb-false _ _ (sym c.is_empty.ensures ∙ c.if-is_empty.false) (c.and.ensures ∙ z)))

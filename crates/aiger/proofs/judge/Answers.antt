-- `aiger::judge` meets its contract: the tests are made in their order, each return knows what those before it said, and the refusals leave the
-- stores alone. Assumes nothing.
use mathlib.Core.Bool.{Bool, true, false, not, ◌||◌}
use mathlib.Core.Path.{◌≡◌, refl, sym, ◌∙◌}
use native.Mathlib.Omega.{arith}
use Rattle.std.proofs.lemmas.Result.{err_from_is_err_and}
use Rattle.aiger.proofs.Slices.{fits}
use Rattle.aiger.proofs.Judging.{held_sized, held_loops, number_24, number_25, number_last, last_room, last_none, last_found, last_other}
use Rattle.aiger.proofs.Listing.{enters_system}
use Rattle.aiger.proofs.judge.Goals as goal

-- the two halves of the test for 24
wrong_24 : (a b : Bool) → a ≡ true → (a || b) ≡ true
wrong_24 a b e = rw e

unknown_24 : (a k : Bool) → a ≡ false → k ≡ false → (a || not k) ≡ true
unknown_24 a k e f = rw (e, f)

right_24 : (a k : Bool) → a ≡ false → k ≡ true → (a || not k) ≡ false
right_24 a k e f = rw (e, f)

pub invariant_of-rows : goal.invariant_of-rows
invariant_of-rows c = record { fits = fits _ _ (held_sized c.requires) }

pub returns-then-wrong_rows : goal.returns-then-wrong_rows
returns-then-wrong_rows c h =
    (number_24 h _ _ _ (wrong_24 _ _ (sym c.wrong_rows.ensures ∙ c.if-wrong_rows.true)), λ e. omega arith, refl)

pub see-requires : goal.see-requires
see-requires c = (c.requires.counted.small, c.requires.counted.singles_again.1.within)

pub returns-in_default : goal.returns-in_default
returns-in_default c h = (
  number_24 h _ _ _
      (unknown_24 _ _ (sym c.wrong_rows.ensures ∙ c.if-wrong_rows.false) (c.in_default.ensures.unknown refl h.singles h.counted.singles_again)),
  λ e. omega arith,
  refl,
)

pub returns-then-not-loop_free : goal.returns-then-not-loop_free
returns-then-not-loop_free c h =
    let fine = sym c.wrong_rows.ensures ∙ c.if-wrong_rows.false in (
      number_25 h _ _ _ (right_24 _ _ fine (c.in-Some.ensures.says _ refl h.singles h.counted.singles_again).0)
          (sym (held_loops h fine _ c.loop_free.ensures) ∙ c.if-not-loop_free.true),
      λ e. omega arith,
      refl,
    )

pub last_refusal-requires : goal.last_refusal-requires
last_refusal-requires c =
    c.requires.counted.small

pub returns-in_err-last_refusal : goal.returns-in_err-last_refusal
returns-in_err-last_refusal c h =
    let fine = sym c.wrong_rows.ensures ∙ c.if-wrong_rows.false in
    let p = err_from_is_err_and c.from_residual.result c.from_residual.ensures.1 in
    let found = c.in_err-last_refusal.ensures in
    rw (p.1, p.2) (
      number_last h _ _ _ (right_24 _ _ fine (c.in-Some.ensures.says _ refl h.singles h.counted.singles_again).0)
          (sym (held_loops h fine _ c.loop_free.ensures) ∙ c.if-not-loop_free.false)
          ∙ sym (last_found h _ _ _ _ found),
      last_other h _ _ _ _ found,
      refl,
    )

pub invariant_of-constraints : goal.invariant_of-constraints
invariant_of-constraints c = record { within = c.in-Some.ensures.within _ refl; few = c.requires.counted.small.constraints }

pub enter-requires : goal.enter-requires
enter-requires c =
    record { latches = refl; gates = refl; many = (held_sized c.requires).many }

pub returns : goal.returns
returns c h =
    let fine = sym c.wrong_rows.ensures ∙ c.if-wrong_rows.false in
    let seen = c.in-Some.ensures.says _ refl h.singles h.counted.singles_again in
    let none = last_none h _ _ _ 0 c.in_ok-last_refusal.ensures refl in (
      number_last h _ _ _ (right_24 _ _ fine seen.0) (sym (held_loops h fine _ c.loop_free.ensures) ∙ c.if-not-loop_free.false)
          ∙ none,
      enters_system h _ (last_room h _ _ _ none) _ _ _ _ c.enter.ensures seen.1 seen.2,
    )

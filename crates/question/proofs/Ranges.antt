-- Questions for states between two ends. What makes an answer right there, and how ranges that follow one another are asked one by one: with no state in
-- the first, the answer of the second is that of both; and a state that is least in the second is least in every range that goes on behind it.
-- Assumes nothing.
use Prim.Native.Nat.{ℕ, zero, suc, ◌≤◌, ◌<◌}
use mathlib.Core.Bool.{Bool, true, false, ◌&&◌}
use mathlib.Core.Logic.{⊎_elim}
use mathlib.Core.Option.{Option, none, some}
use mathlib.Core.Path.{◌≡◌, refl, sym, ◌∙◌}
use native.Mathlib.Omega.{arith}
use borrow.Author.Tests.{lt-ltb, le-ltb}
use Rattle.base.proofs.Tests.{lt_or_ge, clash}
use Rattle.ic3.specs.Answers.{Answers}
use Rattle.ic3.specs.Model.{least}
use Rattle.ic3.proofs.Least.{least_is, least_answers}
use Rattle.question.specs.Question.{not_below}

pub not_below_lem : (from s : ℕ) → from ≤ s → not_below from s ≡ true
not_below_lem zero s h = refl
not_below_lem (suc k) s h = lt-ltb k s (omega arith)

pub below : (from s : ℕ) → s < from → not_below from s ≡ false
below zero s h = absurd (omega arith)
below (suc k) s h = le-ltb k s (omega arith)

-- nothing from `from` on and below `end` passes p
abbrev pub Free : ℕ → ℕ → (ℕ → Bool) → Type 0
Free from end p = (s : ℕ) → from ≤ s → s < end → p s ≡ false

-- s is the first from `from` on and below `end` that passes p
pub record First (from end : ℕ) (p : ℕ → Bool) (s : ℕ) : Type 0 where
  pub low : from ≤ s
  pub high : s < end
  pub passes : p s ≡ true
  pub before : Free from s p

abbrev pub Between : ℕ → ℕ → (ℕ → Bool) → Option ℕ → Type 0
Between from end p none = Free from end p
Between from end p (some s) = First from end p s

abbrev asks : ℕ → ℕ → (ℕ → Bool) → Option ℕ
asks from end p = least end (λ s. not_below from s && p s)

module _ (from end : ℕ) (p : ℕ → Bool) where
  here : (s : ℕ) → from ≤ s → (not_below from s && p s) ≡ p s
  here s h = rw (not_below_lem from s h)

  -- the question has the answer that is right between the ends
  pub between_is : (o : Option ℕ) → Between from end p o → asks from end p ≡ o
  between_is none f =
      least_is end _ none (λ s h. ⊎_elim (λ l. rw (below from s l)) (λ g. here s g ∙ f s g h) (lt_or_ge s from))
  between_is (some s) f =
      least_is end _ (some s)
      (record {
        state = f.high;
        fulfils = here s f.low ∙ f.passes;
        first = λ t h. ⊎_elim (λ l. rw (below from t l)) (λ g. here t g ∙ f.before t g h) (lt_or_ge t from);
      })

  -- and the answer of the question is right
  pub is_between : (o : Option ℕ) → o ≡ asks from end p → Between from end p o
  is_between none e = λ s g h. sym (here s g) ∙ (rw (sym e) at (least_answers end (λ s. not_below from s && p s))) s h
  is_between (some s) e = right
    where
      a : Answers end (λ s. not_below from s && p s) (some s)
      a = rw (sym e) at (least_answers end (λ s. not_below from s && p s))

      -- a state below the first end does not pass
      low : from ≤ s
      low =
          ⊎_elim (λ l. let f : (not_below from s && p s) ≡ false = rw (below from s l) in clash a.fulfils f) (λ g. g)
          (lt_or_ge s from)

      right : First from end p s
      right =
          record {
            low = low;
            high = a.state;
            passes = sym (here s low) ∙ a.fulfils;
            before = λ t g h. sym (here t g) ∙ a.first t h;
          }

-- what is free up to `at` and from there on is free
pub free_on : {from at end : ℕ} {p : ℕ → Bool} → Free from at p → Free at end p → Free from end p
free_on {from} {at} a b = λ s g h. ⊎_elim (λ l. a s g l) (λ f. b s f h) (lt_or_ge s at)

-- the first of a later range is that of the whole
pub first_on : {from at most end s : ℕ} {p : ℕ → Bool} → from ≤ at → most ≤ end → Free from at p → First at most p s → First from end p s
first_on l m a f =
    record { low = omega (arith, f.low); high = omega (arith, f.high); passes = f.passes; before = free_on a f.before }

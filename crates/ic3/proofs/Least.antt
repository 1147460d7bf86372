-- Questions have one right answer, and `least` gives it: of two answers that differ, one would say of the other's state that it does not fulfil the
-- condition. So conditions that the same states fulfil have the same answer. Assumes nothing.
use Prim.Native.Nat.{ℕ, zero, suc, ◌<◌}
use mathlib.Core.Bool.{Bool, true, false}
use mathlib.Core.Option.{Option, none, some}
use mathlib.Core.Path.{◌≡◌, refl, ap, ◌∙◌}
use native.Mathlib.Omega.{arith}
use borrow.Author.Tests.{eqb-true, eqb-false, ltb-true, ltb-false}
use lib.Dec.{eqb, ltb}
use Rattle.ic3.specs.Answers.{Answers}
use Rattle.base.proofs.Tests.{test, clash}
use Rattle.ic3.specs.Model.{least}

pub least_answers : (k : ℕ) (p : ℕ → Bool) → Answers k p (least k p)
unfolding least
least_answers zero p = λ s h. absurd (omega arith)
least_answers (suc k) p = pick (least k p) (least_answers k p) (p k) refl
  where
    last : ((s : ℕ) → s < k → p s ≡ false) → p k ≡ false → (s : ℕ) → s < suc k → p s ≡ false
    last a e s h = test (eqb s k) (λ q. rw (eqb-true s k q) e) (λ q. a s (omega (arith, eqb-false s k q)))

    pick : (o : Option ℕ) → Answers k p o → (b : Bool) → p k ≡ b
        → Answers (suc k) p (elim o [ some s ↦ some s | none ↦ elim b [ true ↦ some k | false ↦ none ] ])
    pick (some s) a b e = record { state = omega (arith, a.state); fulfils = a.fulfils; first = a.first }
    pick none a true e = record { state = omega arith; fulfils = e; first = a }
    pick none a false e = last a e

pub order : (a b : ℕ) → (a < b → ⊥) → (b < a → ⊥) → a ≡ b
order a b f g =
    test (ltb a b) (λ e. absurd (f (ltb-true a b e)))
    (λ e. test (ltb b a) (λ q. absurd (g (ltb-true b a q))) (λ q. omega (arith, ltb-false a b e, ltb-false b a q)))

-- a question has one right answer
pub answers_unique : (k : ℕ) (p : ℕ → Bool) (o r : Option ℕ) → Answers k p o → Answers k p r → o ≡ r
answers_unique k p none none a b = refl
answers_unique k p none (some t) a b = clash b.fulfils (a t b.state)
answers_unique k p (some s) none a b = clash a.fulfils (b s a.state)
answers_unique k p (some s) (some t) a b =
    ap some (order s t (λ h. clash a.fulfils (b.first s h)) (λ h. clash b.fulfils (a.first t h)))

pub least_is : (k : ℕ) (p : ℕ → Bool) (o : Option ℕ) → Answers k p o → least k p ≡ o
least_is k p o a = answers_unique k p (least k p) o (least_answers k p) a

-- the same states fulfil both conditions
pub least_same : (k : ℕ) (p q : ℕ → Bool) → ((s : ℕ) → s < k → p s ≡ q s) → least k p ≡ least k q
least_same k p q h = least_is k p (least k q) (turn (least k q) (least_answers k q))
  where
    turn : (o : Option ℕ) → Answers k q o → Answers k p o
    turn none a = λ s b. h s b ∙ a s b
    turn (some t) a =
        record {
          state = a.state;
          fulfils = h t a.state ∙ a.fulfils;
          first = λ s b. h s (omega (arith, a.state)) ∙ a.first s b;
        }

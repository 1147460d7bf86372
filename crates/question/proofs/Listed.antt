-- A question over a list of states with no level beside them: each counts as stored with every level, so above R(0) a state is excluded exactly if
-- it is listed. Assumes nothing.
use Prim.Native.Nat.{ℕ, suc, ◌^◌, min, ◌≤◌}
use mathlib.Core.Bool.{Bool, not, ◌&&◌}
use mathlib.Core.List.{List, [], ◌∷◌}
use mathlib.Core.Path.{◌≡◌, ap}
use native.Mathlib.Nat.{min-eq_left}
use borrow.Author.Tests.{le-leb}
use native.Mathlib.Omega.{arith}
use lib.Dec.{eqb}
use Rattle.base.proofs.Tests.{test}
use Rattle.ic3.specs.Model.{least}
use Rattle.ic3.specs.Demands.{listed}
use Rattle.ic3.proofs.Least.{least_same}
use Rattle.system.specs.System.{some_true, pair}
use Rattle.look.specs.Excluded.{excluded}
use Rattle.look.proofs.States.{excluded_none}
use Rattle.question.specs.Question.{inside, not_below, bad_in, step_in}
use Rattle.question.proofs.Model.{excluded_first}

excluded_listed : (i : ℕ) (xs : List ℕ) (s : ℕ) → excluded i xs [] s ≡ listed xs s
unfolding listed
excluded_listed i [] s = excluded_none i [] [] s (λ j h. absurd (omega arith))
excluded_listed i (x ∷ xs) s =
    rw (excluded_first i x xs [] s, le-leb i i (omega arith), excluded_listed i xs s)
    (test (eqb x s) (λ e. rw (e, listed)) (λ e. rw (e, listed)))

module _ (n w : ℕ) (start list xs : List ℕ) (i : ℕ) (h : n ≤ 32) where
  -- of what lies outside the list, with the same further condition, the least state is the same
  least_outside : (p : ℕ → Bool)
      → least (2 ^ min n 32) (λ s. inside start xs [] (suc i) s && p s) ≡ least (2 ^ n) (λ s. not (listed xs s) && p s)
  unfolding inside
  least_outside p = rw (min-eq_left h) (least_same (2 ^ n) _ _ (λ s b. ap (λ x. not x && p s) (excluded_listed (suc i) xs s)))

  pub bad_outside : bad_in n w start list xs [] (suc i) 0 ≡ least (2 ^ n) (λ s. not (listed xs s) && some_true w list s)
  unfolding bad_in
  bad_outside = least_outside (some_true w list)

  pub step_outside : (t : ℕ) → step_in n w start list xs [] (suc i) t 0 ≡ least (2 ^ n) (λ s. not (listed xs s) && some_true w list (pair s t))
  unfolding step_in
  step_outside t = least_outside (λ s. some_true w list (pair s t))

-- with nothing listed, every state is asked
pub step_anywhere : (n w : ℕ) (start list : List ℕ) (i t from : ℕ) → n ≤ 32
    → step_in n w start list [] [] (suc i) t from ≡ least (2 ^ n) (λ s. not_below from s && some_true w list (pair s t))
unfolding step_in inside listed
step_anywhere n w start list i t from h =
    rw (min-eq_left h)
    (least_same (2 ^ n) _ _ (λ s b. ap (λ x. not_below from s && (not x && some_true w list (pair s t))) (excluded_listed (suc i) [] s)))

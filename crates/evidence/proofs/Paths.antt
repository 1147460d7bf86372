-- A path, judged: the tests that the check makes are those of demand 2, one by one. That each of its states is below the size comes from refusal 7.
-- Assumes nothing.
use Prim.Native.Nat.{ℕ, ◌+◌, ◌-◌, ◌%◌, ◌^◌, ◌<◌}
use mathlib.Core.Bool.{Bool, true, false}
use mathlib.Core.List.{List, [], ◌∷◌}
use mathlib.Core.Path.{◌≡◌, refl, ap, ◌∙◌}
use native.Mathlib.Nat.{mod-eq_of_lt}
use native.Mathlib.Omega.{arith}
use borrow.Author.Tests.{eqb-true, eq-eqb}
use lib.Dec.{eqb, ltb}
use lib.ListN.{length, get_or, take, drop, length-drop}
use Rattle.base.proofs.Tests.{test, clash}
use Rattle.base.proofs.Lists.{rest_of}
use Rattle.ic3.specs.Model.{Model}
use Rattle.ic3.specs.Demands.{Leads, IsPath, listed}
use Rattle.system.specs.System.{some_true, pair}
use Rattle.evidence.specs.Check.{Yes, No, each, leads_on, path_of, questions_of}
use Rattle.evidence.proofs.Each.{each_rest, below_at}
use Rattle.evidence.proofs.Excluding.{Decides}

module _ (M : Model) where
  -- every listed state of a way to a bad one is a state
  leads_within : (s : ℕ) (xs : List ℕ) → Leads M s xs → (t : ℕ) → listed (s ∷ xs) t ≡ true → t < M.size
  unfolding listed
  leads_within s [] w t e = test (eqb s t) (λ q. rw (← eqb-true s t q) w.0) (λ q. clash (rw (q, listed) at e) refl)
  leads_within s (x ∷ xs) w t e =
      test (eqb s t) (λ q. rw (← eqb-true s t q) w.0) (λ q. leads_within x xs w.2 t (rw (q, listed) at e))

  pub path_within : (xs : List ℕ) → IsPath M xs → (t : ℕ) → listed xs t ≡ true → t < M.size
  path_within [] w = absurd w
  path_within (s ∷ xs) w = leads_within s xs w.1

  leads_tests : (s : ℕ) (xs : List ℕ) → Leads M s xs → leads_on M.step M.bad (s ∷ xs) ≡ true
  unfolding leads_on
  leads_tests s [] w = w.1
  leads_tests s (t ∷ xs) w = rw (w.1, leads_on) (leads_tests t xs w.2)

  tests_lead : (s : ℕ) (xs : List ℕ) → ((t : ℕ) → listed (s ∷ xs) t ≡ true → t < M.size)
      → leads_on M.step M.bad (s ∷ xs) ≡ true → Leads M s xs
  unfolding leads_on listed
  tests_lead s [] within e = (within s (rw (eq-eqb s s refl, listed)), e)
  tests_lead s (t ∷ xs) within e =
      test (M.step s t)
      (λ f. (
        within s (rw (eq-eqb s s refl, listed)),
        f,
        tests_lead t xs (λ u h. within u (test (eqb s u) (λ q. rw (q, listed)) (λ q. rw (q, listed) h))) (rw (f, leads_on) at e),
      ))
      (λ f. clash (rw (f, leads_on) at e) refl)

  -- the tests of a path, in the order of the check
  module _ (s : ℕ) (xs : List ℕ) where
    no_start : M.start s ≡ false → path_of M (s ∷ xs) ≡ No 0
    unfolding path_of
    no_start e = rw (e, path_of)

    nowhere : M.start s ≡ true → leads_on M.step M.bad (s ∷ xs) ≡ false → path_of M (s ∷ xs) ≡ No 0
    unfolding path_of
    nowhere e f = rw (e, f, path_of)

    leads : M.start s ≡ true → leads_on M.step M.bad (s ∷ xs) ≡ true → path_of M (s ∷ xs) ≡ Yes 0
    unfolding path_of
    leads e f = rw (e, f, path_of)

  pub path_decides : (xs : List ℕ) → ((s : ℕ) → listed xs s ≡ true → s < M.size) → Decides (path_of M xs) (IsPath M xs)
  unfolding path_of
  path_decides [] within = λ w. w
  path_decides (s ∷ xs) within =
      test (M.start s)
      (λ e. test (leads_on M.step M.bad (s ∷ xs))
      (λ f. rw (leads s xs e f) (e, tests_lead s xs within f))
      (λ f. rw (nowhere s xs e f) (λ w. clash (leads_tests s xs w.1) f)))
      (λ e. rw (no_start s xs e) (λ w. clash w.0 e))

  pub path_none : (xs : List ℕ) → questions_of (path_of M xs) ≡ 0
  unfolding path_of
  path_none [] = refl
  path_none (s ∷ xs) =
      test (M.start s)
      (λ e. test (leads_on M.step M.bad (s ∷ xs)) (λ f. rw (leads s xs e f)) (λ f. rw (nowhere s xs e f)))
      (λ e. rw (no_start s xs e))

-- as code tests a list: its first state, and those behind it
module _ (M : Model) where
  pub path_empty : (xs : List ℕ) → length xs ≡ 0 → path_of M xs ≡ No 0
  unfolding path_of
  path_empty [] h = refl
  path_empty (s ∷ xs) h = absurd (omega arith)

  pub path_no_start : (xs : List ℕ) → 0 < length xs → M.start (get_or xs 0 0) ≡ false → path_of M xs ≡ No 0
  path_no_start [] h e = absurd (omega arith)
  path_no_start (s ∷ xs) h e = no_start M s xs e

  pub path_nowhere : (xs : List ℕ) → 0 < length xs → M.start (get_or xs 0 0) ≡ true
      → leads_on M.step M.bad xs ≡ false → path_of M xs ≡ No 0
  path_nowhere [] h e f = absurd (omega arith)
  path_nowhere (s ∷ xs) h e f = nowhere M s xs e f

  pub path_leads : (xs : List ℕ) → 0 < length xs → M.start (get_or xs 0 0) ≡ true
      → leads_on M.step M.bad xs ≡ true → path_of M xs ≡ Yes 0
  path_leads [] h e f = absurd (omega arith)
  path_leads (s ∷ xs) h e f = leads M s xs e f

-- as code asks of a path whose states are below 2^32: their low halves are the states, and a pair with a later half of 0 is the state itself
module _ (w : ℕ) (list l : List ℕ) (small : each (λ x. ltb x (2 ^ 32)) l ≡ true) (i : ℕ) where
  pub step_asked : i + 1 < length l
      → some_true w list (pair (get_or l i 0 % 2 ^ 32) (get_or l (i + 1) 0 % 2 ^ 32)) ≡ some_true w list (pair (get_or l i 0) (get_or l (i + 1) 0))
  step_asked h = rw (mod-eq_of_lt (below_at (2 ^ 32) l i (omega arith) small), mod-eq_of_lt (below_at (2 ^ 32) l (i + 1) h small))

  pub bad_asked : i < length l → some_true w list (pair (get_or l i 0 % 2 ^ 32) (0 % 2 ^ 32)) ≡ some_true w list (get_or l i 0)
  unfolding pair
  bad_asked h = ap (some_true w list) (omega (arith, mod-eq_of_lt (below_at (2 ^ 32) l i h small)))

-- of any path: a step that is none decides, a step is passed, and the last state is tested
module _ (step : ℕ → ℕ → Bool) (bad : ℕ → Bool) where
  pub stops : (l : List ℕ) → 1 < length l → step (get_or l 0 0) (get_or l 1 0) ≡ false → leads_on step bad l ≡ false
  unfolding leads_on
  stops [] h e = absurd (omega arith)
  stops (s ∷ []) h e = absurd (omega arith)
  stops (s ∷ (t ∷ xs)) h e = rw (e, leads_on)

  pub passes : (l : List ℕ) → 1 < length l → step (get_or l 0 0) (get_or l 1 0) ≡ true → leads_on step bad l ≡ leads_on step bad (drop 1 l)
  unfolding leads_on
  passes [] h e = absurd (omega arith)
  passes (s ∷ []) h e = absurd (omega arith)
  passes (s ∷ (t ∷ xs)) h e = rw (e, leads_on)

  pub ends : (l : List ℕ) → 0 < length l → length l < 2 → leads_on step bad l ≡ bad (get_or l 0 0)
  unfolding leads_on
  ends [] g h = absurd (omega arith)
  ends (s ∷ []) g h = refl
  ends (s ∷ (t ∷ xs)) g h = absurd (omega arith)

-- as a walk tests: what is left of a path leads where the whole path leads
module _ (step : ℕ → ℕ → Bool) (bad : ℕ → Bool) (path : List ℕ) where
  pub record Left (left : List ℕ) : Type 0 where
    pub some : 0 < length left
    pub small : each (λ x. ltb x (2 ^ 32)) left ≡ true
    pub leads : leads_on step bad path ≡ leads_on step bad left

  module _ (l : List ℕ) (w : Left l) where
    -- a step that is none decides
    pub leads_stops : 1 < length l → step (get_or l 0 0) (get_or l 1 0) ≡ false → leads_on step bad path ≡ false
    leads_stops h e = w.leads ∙ stops step bad l h e

    -- a step is passed
    pub leads_passes : 1 < length l → step (get_or l 0 0) (get_or l 1 0) ≡ true → Left (take (length l - 1) (drop 1 l))
    leads_passes h e =
        rw (rest_of 1 l)
        (record {
          some = omega (arith, length-drop 1 l);
          small = small l w.small;
          leads = w.leads ∙ passes step bad l h e;
        })
      where
        small : (l : List ℕ) → each (λ x. ltb x (2 ^ 32)) l ≡ true → each (λ x. ltb x (2 ^ 32)) (drop 1 l) ≡ true
        small [] s = s
        small (x ∷ xs) s = (each_rest (λ x. ltb x (2 ^ 32)) x xs s).1

    -- the last state is tested
    pub leads_ends : length l < 2 → leads_on step bad path ≡ bad (get_or l 0 0)
    leads_ends h = w.leads ∙ ends step bad l w.some h

-- The cases of the check, as code comes to them: of a system and a list that are not refused, the first test that fails or the last one that passes
-- gives the answer of the definition, and with it the promise. The tests are said of the system's lists. Assumes nothing.
use Prim.Native.Nat.{ℕ, ◌^◌, ◌<◌}
use mathlib.Core.Bool.{true, false, not}
use mathlib.Core.List.{List}
use mathlib.Core.Option.{none, some}
use mathlib.Core.Path.{◌≡◌, sym, ◌∙◌}
use lib.ListN.{length, get_or}
use Rattle.system.specs.System.{System, list_true, some_true, pair, model}
use Rattle.evidence.specs.Check.{Checked, Yes, No, each, refused, outside, closed_from, leads_on, excluded_states, path_of}
use Rattle.evidence.specs.Promise.{ExcludedChecked, PathChecked}
use Rattle.evidence.proofs.Excluding.{start_listed, bad_unlisted, then_closed}
use Rattle.evidence.proofs.Paths.{path_empty, path_no_start, path_nowhere, path_leads}
use Rattle.evidence.proofs.Judging.{checked_judges, excluded_promised, path_promised}

module _ (y : System) (xs : List ℕ) where
  module _ (z : refused y xs ≡ 0) where
    -- a start state is listed
    pub excluded_start : each (λ x. not (list_true y.start x 0)) xs ≡ false → ExcludedChecked y xs (No 0)
    unfolding model
    excluded_start e = excluded_promised y xs _ (sym (checked_judges y xs excluded_states z ∙ start_listed (model y) xs e))

    module _ (e : each (λ x. not (list_true y.start x 0)) xs ≡ true) where
      -- a bad state is not
      pub excluded_bad : (s : ℕ) → outside (2 ^ y.n) xs (some_true y.w y.bad) ≡ some s → ExcludedChecked y xs (No 1)
      unfolding model
      excluded_bad s f = excluded_promised y xs _ (sym (checked_judges y xs excluded_states z ∙ bad_unlisted (model y) xs s e f))

      -- the steps into the list decide
      pub excluded_closed : (r : Checked) → outside (2 ^ y.n) xs (some_true y.w y.bad) ≡ none
          → r ≡ closed_from (2 ^ y.n) (λ s t. some_true y.w y.step (pair s t)) xs xs 1 → ExcludedChecked y xs r
      unfolding model
      excluded_closed r f g = excluded_promised y xs r (g ∙ sym (checked_judges y xs excluded_states z ∙ then_closed (model y) xs e f))

    -- an empty path
    pub path_of_none : length xs ≡ 0 → PathChecked y xs (No 0)
    path_of_none h = path_promised y xs _ (sym (checked_judges y xs path_of z ∙ path_empty (model y) xs h))

    module _ (h : 0 < length xs) where
      -- the first is no start state
      pub path_of_others : list_true y.start (get_or xs 0 0) 0 ≡ false → PathChecked y xs (No 0)
      unfolding model
      path_of_others e = path_promised y xs _ (sym (checked_judges y xs path_of z ∙ path_no_start (model y) xs h e))

      module _ (e : list_true y.start (get_or xs 0 0) 0 ≡ true) where
        -- a step is none, or the last state is not bad
        pub path_astray : leads_on (λ s t. some_true y.w y.step (pair s t)) (some_true y.w y.bad) xs ≡ false → PathChecked y xs (No 0)
        unfolding model
        path_astray f = path_promised y xs _ (sym (checked_judges y xs path_of z ∙ path_nowhere (model y) xs h e f))

        pub path_to_bad : leads_on (λ s t. some_true y.w y.step (pair s t)) (some_true y.w y.bad) xs ≡ true → PathChecked y xs (Yes 0)
        unfolding model
        path_to_bad f = path_promised y xs _ (sym (checked_judges y xs path_of z ∙ path_leads (model y) xs h e f))

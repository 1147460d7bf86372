-- Excluded states, judged. The list is right exactly if its three parts are: a test of each listed state, "none" to the question for a bad state
-- outside, and "none" to the question of each listed state. Since "none" is said exactly if none exists, each part says what demand 2 says, and
-- the first that fails refutes it. Assumes nothing.
use Prim.Native.Nat.{ℕ, suc, ◌+◌, ◌≤◌, ◌<◌}
use mathlib.Core.Bool.{Bool, true, false, not, ◌&&◌}
use mathlib.Core.List.{List, [], ◌∷◌}
use mathlib.Core.Option.{Option, none, some}
use mathlib.Core.Path.{◌≡◌, refl}
use native.Mathlib.Numerals.{add-one}
use native.Mathlib.Omega.{arith}
use borrow.Author.Tests.{not-true, not-false, eqb-true, eq-eqb}
use lib.Dec.{eqb}
use lib.ListN.{length, get_or, drop, drop_of_length-le}
use lib.Seq.{drop-cons}
use Rattle.ic3.specs.Answers.{Answers}
use Rattle.base.proofs.Tests.{test, clash, both, first_false}
use Rattle.ic3.specs.Model.{Model}
use Rattle.ic3.specs.Demands.{listed, Excludes}
use Rattle.ic3.proofs.Least.{least_answers}
use Rattle.evidence.specs.Check.{Checked, Yes, No, Refused, each, outside, closed_from, excluded_states, questions_of}
use Rattle.evidence.proofs.Each.{each_listed, listed_each}

-- a check decides R: yes with R, no without it, and no refusal
abbrev pub Decides : Checked → Type 0 → Type 0
Decides (Yes q) R = R
Decides (No q) R = R → ⊥
Decides (Refused n) R = ⊥

-- and decides what is said in other words
decides_as : (c : Checked) (R S : Type 0) → (R → S) → (S → R) → Decides c R → Decides c S
decides_as (Yes q) R S f g d = f d
decides_as (No q) R S f g d = λ s. d (g s)
decides_as (Refused n) R S f g d = d

-- an option is none or some
option : {C : Type 0} (o : Option ℕ) → (o ≡ none → C) → ((s : ℕ) → o ≡ some s → C) → C
option none f g = f refl
option (some s) f g = g s refl

module _ (size : ℕ) (xs : List ℕ) where
  -- what the question's answers say
  none_outside : (p : ℕ → Bool) → outside size xs p ≡ none → (s : ℕ) → s < size → p s ≡ true → listed xs s ≡ true
  unfolding outside
  none_outside p e s h f =
      let a : Answers size (λ s. not (listed xs s) && p s) none = rw e at (least_answers size (λ s. not (listed xs s) && p s)) in
      not-false _ (first_false (not (listed xs s)) (p s) (a s h) f)

  some_outside : (p : ℕ → Bool) (s : ℕ) → outside size xs p ≡ some s → (s < size) × (listed xs s ≡ false) × (p s ≡ true)
  unfolding outside
  some_outside p s e =
      let a : Answers size (λ s. not (listed xs s) && p s) (some s) = rw e at (least_answers size (λ s. not (listed xs s) && p s)) in
      let w = both (not (listed xs s)) (p s) a.fulfils in
      (a.state, not-true _ w.0, w.1)

  module _ (step : ℕ → ℕ → Bool) where
    -- no state outside the list steps to one of ts
    abbrev Unentered : List ℕ → Type 0
    Unentered ts = (t : ℕ) → listed ts t ≡ true → (s : ℕ) → s < size → step s t ≡ true → listed xs s ≡ true

    closed_decides : (ts : List ℕ) (asked : ℕ) → Decides (closed_from size step xs ts asked) (Unentered ts)
    unfolding closed_from listed
    closed_decides [] asked = λ t e. clash e refl
    closed_decides (t ∷ ts) asked =
        option (outside size xs (λ s. step s t))
        (λ e. rw (e, closed_from)
        (decides_as (closed_from size step xs ts (suc asked)) (Unentered ts) (Unentered (t ∷ ts))
        (λ w u h s b f.
        test (eqb t u)
        (λ q. none_outside (λ s. step s t) e s b (rw (eqb-true t u q) f))
        (λ q. w u (rw (q, listed) at h) s b f))
        (λ w u h. w u (test (eqb t u) (λ q. rw (q, listed)) (λ q. rw (q, listed) h)))
        (closed_decides ts (suc asked))))
        (λ s e. rw (e, closed_from)
        (λ w.
        let a = some_outside (λ s. step s t) s e in
        clash (w t (rw (eq-eqb t t refl, listed)) s a.0 a.2) a.1))

    pub closed_few : (ts : List ℕ) (asked : ℕ) → questions_of (closed_from size step xs ts asked) ≤ asked + length ts
    unfolding closed_from
    closed_few [] asked = omega arith
    closed_few (t ∷ ts) asked =
        option (outside size xs (λ s. step s t))
        (λ e. rw (e, closed_from) (omega (arith, closed_few ts (suc asked))))
        (λ s e. rw (e, closed_from) (omega arith))

    -- as a walk asks: from index i on, an answer decides and "none" goes on
    module _ (ts : List ℕ) (i asked : ℕ) where
      pub closed_stops : i < length ts → (s : ℕ) → outside size xs (λ s. step s (get_or ts i 0)) ≡ some s
          → closed_from size step xs (drop i ts) asked ≡ No (asked + 1)
      unfolding closed_from
      closed_stops h s e = rw (drop-cons ts i 0 h, add-one asked) (rw (e, closed_from))

      pub closed_passes : i < length ts → outside size xs (λ s. step s (get_or ts i 0)) ≡ none
          → closed_from size step xs (drop i ts) asked ≡ closed_from size step xs (drop (i + 1) ts) (asked + 1)
      unfolding closed_from
      closed_passes h e = rw (drop-cons ts i 0 h, ← add-one i, add-one asked) (rw (e, closed_from))

      pub closed_ends : length ts ≤ i → closed_from size step xs (drop i ts) asked ≡ Yes asked
      unfolding closed_from
      closed_ends h = rw (drop_of_length-le ts h)

module _ (M : Model) (xs : List ℕ) where
  -- the three parts, in the order of the check
  pub start_listed : each (λ x. not (M.start x)) xs ≡ false → excluded_states M xs ≡ No 0
  unfolding excluded_states
  start_listed e = rw (e, excluded_states)

  pub bad_unlisted : (s : ℕ) → each (λ x. not (M.start x)) xs ≡ true → outside M.size xs M.bad ≡ some s → excluded_states M xs ≡ No 1
  unfolding excluded_states
  bad_unlisted s e f = rw (e, f, excluded_states)

  pub then_closed : each (λ x. not (M.start x)) xs ≡ true → outside M.size xs M.bad ≡ none
      → excluded_states M xs ≡ closed_from M.size M.step xs xs 1
  unfolding excluded_states
  then_closed e f = rw (e, f, excluded_states)

  module _ (within : (s : ℕ) → listed xs s ≡ true → s < M.size) where
    pub excluded_decides : Decides (excluded_states M xs) (Excludes M (listed xs))
    excluded_decides =
        test (each (λ x. not (M.start x)) xs)
        (λ e. option (outside M.size xs M.bad)
        (λ f. rw (then_closed e f)
        (decides_as (closed_from M.size M.step xs xs 1) _ (Excludes M (listed xs))
        (λ w. record {
          no_start = λ s b g.
              test (listed xs s) (λ h. clash g (not-true _ (each_listed (λ x. not (M.start x)) xs e s h))) (λ h. h);
          all_bad = λ s b g. none_outside M.size xs M.bad f s b g;
          closed = λ s t b d g h. test (listed xs t) (λ k. clash (w t k s b h) g) (λ k. k);
        })
        (λ X t k s b h. test (listed xs s) (λ g. g) (λ g. clash k (X.closed s t b (within t k) g h)))
        (closed_decides M.size xs M.step xs 1)))
        (λ s f. rw (bad_unlisted s e f)
        (λ X.
        let a = some_outside M.size xs M.bad s f in
        clash (X.all_bad s a.0 a.2) a.1)))
        (λ e. rw (start_listed e)
        (λ X. clash
        (listed_each (λ x. not (M.start x)) xs
        (λ s h. test (M.start s) (λ g. clash h (X.no_start s (within s h) g)) (λ g. rw g)))
        e))

  pub excluded_few : questions_of (excluded_states M xs) ≤ suc (length xs)
  excluded_few =
      test (each (λ x. not (M.start x)) xs)
      (λ e. option (outside M.size xs M.bad)
      (λ f. rw (then_closed e f) (omega (arith, closed_few M.size xs M.step xs 1)))
      (λ s f. rw (bad_unlisted s e f) (omega arith)))
      (λ e. rw (start_listed e) (omega arith))

-- What a check promises, out of what it decides. Of a system and a list that are not refused the answer decides whether the evidence is right; so yes
-- and no are said exactly then, and a yes has the meaning of demand 2. What the search hands back is right and lists states, so it is accepted.
-- Assumes nothing.
use Prim.Native.Nat.{ℕ, zero, suc, ◌^◌, ◌<◌, ◌≤◌}
use mathlib.Core.Bool.{Bool, true, not}
use mathlib.Core.List.{List}
use mathlib.Core.Path.{◌≡◌, refl, sym}
use native.Mathlib.Nat.{lt_of_lt_of_le}
use native.Mathlib.Omega.{arith}
use borrow.Author.Tests.{not-false, ltb-true, lt-ltb}
use lib.Dec.{ltb}
use lib.ListN.{length}
use lib.Pow.{pow_mono}
use Rattle.base.specs.Refusals.{◌if◌}
use Rattle.base.specs.Numbers.{number_of}
use Rattle.base.specs.declared.Refusal.{Refusal}
use Rattle.base.proofs.Refusals.{else_first, else_none, if_none, number_not_none}
use Rattle.ic3.specs.Model.{Model}
use Rattle.ic3.specs.Demands.{IsPath, listed, Excludes}
use Rattle.ic3.proofs.Frames.{excludes_never, path_hit}
use Rattle.system.specs.System.{System, model, refusal_of}
use Rattle.system.proofs.Refusals.{size_right, refusal_none}
use Rattle.call.specs.Call.{Stores, Said, says_safe, says_unsafe, called}
use Rattle.call.specs.Promise.{Right}
use Rattle.call.proofs.Call.{Speaks, called_right, called_accepts}
use Rattle.evidence.specs.Check.{Checked, Yes, No, Refused, each, refused, excluded_states, path_of, checked, questions_of}
use Rattle.evidence.specs.Promise.{Judged, ExcludedChecked, PathChecked}
use Rattle.evidence.proofs.Each.{each_listed, listed_each}
use Rattle.evidence.proofs.Excluding.{Decides, excluded_decides, excluded_few}
use Rattle.evidence.proofs.Paths.{path_within, path_decides, path_none}

module _ (y : System) (xs : List ℕ) where
  -- ---- refusals
  -- the system's own come first
  pub number_refused : (f : Refusal) → number_of f ≡ refusal_of y → number_of f ≡ refused y xs
  unfolding refused
  number_refused f e = else_first (number_of f) (refusal_of y) _ e (number_not_none f)

  pub refused_states : (t : Bool) → refusal_of y ≡ 0 → each (λ x. ltb x (2 ^ y.n)) xs ≡ t → refused y xs ≡ 7 if not t
  unfolding refused
  refused_states t e f = rw (e, refused) (rw f)

  pub refused_none : refused y xs ≡ 0 → (refusal_of y ≡ 0) × (each (λ x. ltb x (2 ^ y.n)) xs ≡ true)
  unfolding refused
  refused_none e = let n = else_none (refusal_of y) (7 if not (each (λ x. ltb x (2 ^ y.n)) xs)) e in
      (n.0, not-false _ (if_none 6 _ n.1))

  -- a list that is not refused lists states
  abbrev Within : Type 0
  Within = (s : ℕ) → listed xs s ≡ true → s < (model y).size

  within : refused y xs ≡ 0 → Within
  unfolding model
  within e s h = ltb-true s (2 ^ y.n) (each_listed (λ x. ltb x (2 ^ y.n)) xs (refused_none e).1 s h)

  -- what is not refused has at most 32 bits
  pub refused_small : refused y xs ≡ 0 → y.n ≤ 32
  refused_small e = (size_right y.n y.w (refusal_none y (refused_none e).0).0).1

  -- so each listed state is below 2^32
  pub refused_below : refused y xs ≡ 0 → each (λ x. ltb x (2 ^ 32)) xs ≡ true
  unfolding model
  refused_below e =
      listed_each (λ x. ltb x (2 ^ 32)) xs
      (λ s h. lt-ltb s (2 ^ 32) (lt_of_lt_of_le (within e s h) (pow_mono (refused_small e))))

  accepts : refusal_of y ≡ 0 → Within → refused y xs ≡ 0
  unfolding model
  accepts e w = refused_states true e (listed_each (λ x. ltb x (2 ^ y.n)) xs (λ s h. lt-ltb s (2 ^ y.n) (w s h)))

  -- what the search hands back with this verdict is not refused, and R holds
  abbrev Own : Said → Type 0 → Type 0
  Own verdict R =
      (lent : Stores) (allowance : ℕ) → (called y lent allowance).said ≡ verdict → (called y lent allowance).evidence ≡ xs → (refused y xs ≡ 0) × R

  -- ---- the definition, case by case
  module _ (judge : Model → List ℕ → Checked) where
    pub checked_refused : (r : ℕ) → refused y xs ≡ suc r → checked judge y xs ≡ Refused (suc r)
    unfolding checked
    checked_refused r e = rw (e, checked)

    pub checked_judges : refused y xs ≡ 0 → checked judge y xs ≡ judge (model y) xs
    unfolding checked
    checked_judges e = rw (e, checked)

    -- a refusal as the code has it
    pub number_checked : (f : Refusal) → number_of f ≡ refused y xs → Refused (number_of f) ≡ checked judge y xs
    number_checked f e = by (number_of f) (number_not_none f) e
      where
        by : (r : ℕ) → (r ≡ 0 → ⊥) → r ≡ refused y xs → Refused r ≡ checked judge y xs
        by zero g e = absurd (g refl)
        by (suc r) g e = sym (checked_refused r (sym e))

    module _ (R : Type 0) (verdict : Said) (decides : Within → Decides (judge (model y) xs) R) (own : Own verdict R) where
      decided : refused y xs ≡ 0 → (c : Checked) → Decides c R → Judged y xs R verdict c
      decided z (Yes q) d = record { number = sym z; accepts = (λ t. (z, d), λ t. tt); rejects = (λ t. absurd t, λ t. t.1 d); own = λ lent allowance e f. tt }
      decided z (No q) d =
          record {
            number = sym z;
            accepts = (λ t. absurd t, λ t. d t.1);
            rejects = (λ t. (z, d), λ t. tt);
            own = λ lent allowance e f. d (own lent allowance e f).1;
          }
      decided z (Refused n) d = absurd d

      -- yes and no exactly as the evidence is right or not
      pub judged : Judged y xs R verdict (checked judge y xs)
      judged = pick (refused y xs) refl
        where
          pick : (r : ℕ) → refused y xs ≡ r → Judged y xs R verdict (checked judge y xs)
          pick zero e = rw (checked_judges e) (decided e (judge (model y) xs) (decides (within e)))
          pick (suc r) e =
              rw (checked_refused r e)
              (record {
                number = sym e;
                accepts = (λ t. absurd t, λ t. absurd (omega (arith, t.0, e)));
                rejects = (λ t. absurd t, λ t. absurd (omega (arith, t.0, e)));
                own = λ lent allowance f g. absurd (omega (arith, (own lent allowance f g).0, e));
              })

  -- what holds of the judge's count holds of the check's, as a refusal reports no question
  pub checked_few : (judge : Model → List ℕ → Checked) (most : ℕ) → questions_of (judge (model y) xs) ≤ most → questions_of (checked judge y xs) ≤ most
  checked_few judge most h = pick (refused y xs) refl
    where
      pick : (r : ℕ) → refused y xs ≡ r → questions_of (checked judge y xs) ≤ most
      pick zero e = rw (checked_judges judge e) h
      pick (suc r) e = rw (checked_refused judge r e) (omega arith)

  -- ---- what the search hands back
  own : (verdict : Said) (R : Type 0) → Speaks verdict → (Right (model y) verdict xs → Within × R) → Own verdict R
  own verdict R says part lent allowance e f =
      let w = part (rw (e, f) at (called_right y lent allowance)) in
      (accepts (called_accepts y lent allowance (rw e says)) w.0, w.1)

  -- ---- the promises
  pub excluded_promised : (r : Checked) → r ≡ checked excluded_states y xs → ExcludedChecked y xs r
  excluded_promised r e =
      let own_right = own says_safe (Excludes (model y) (listed xs)) tt (λ s. (s.states, s.excludes)) in
      let j = judged excluded_states (Excludes (model y) (listed xs)) says_safe (excluded_decides (model y) xs) own_right in
      rw e (record {
        equation = refl;
        judged = j;
        never = λ t. excludes_never (model y) (listed xs) (j.accepts.0 t).1;
        few = checked_few excluded_states (suc (length xs)) (excluded_few (model y) xs);
      })

  pub path_promised : (r : Checked) → r ≡ checked path_of y xs → PathChecked y xs r
  path_promised r e =
      let own_right = own says_unsafe (IsPath (model y) xs) tt (λ s. (path_within (model y) xs s.real, s.real)) in
      let j = judged path_of (IsPath (model y) xs) says_unsafe (path_decides (model y) xs) own_right in
      rw e (record {
        equation = refl;
        judged = j;
        reached = λ t.
            let h = path_hit (model y) xs (j.accepts.0 t).1 in
            record { steps = h.0; state = h.2.state; reached = h.2.reach; bad = h.2.bad };
        none = omega (arith, checked_few path_of 0 (omega (arith, path_none (model y) xs)));
      })

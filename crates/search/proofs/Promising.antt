-- The public call's promise, of a refusal and of a search that was closed. Evidence and zeros depend on the lent stores' lengths alone, so the stores
-- that the search ends with give what the lent ones would; demands 2 and 3 are those of the definition. Assumes nothing.
use Prim.Native.Nat.{ℕ, zero, suc}
use mathlib.Core.Bool.{true}
use mathlib.Core.List.{List, []}
use mathlib.Core.Path.{◌≡◌, refl, sym, ap, ◌∙◌}
use lib.ListN.{length}
use Rattle.stores.proofs.Over.{over_same}
use Rattle.ic3.specs.Search.{safe, unsafe, gave_up, searched}
use Rattle.ic3.specs.Search as ic3
use Rattle.ic3.proofs.Bound.{demand_3}
use Rattle.system.specs.System.{System, model, refusal_of}
use Rattle.system.proofs.Refusals.{size_right, refusal_none}
use Rattle.call.specs.Call.{Stores, wrong_stores, refused, Said, says_safe, says_unsafe, gives_up, refuses, leaves, ended, rounds, called}
use Rattle.search.specs.Lent.{verdict_of}
use Rattle.search.specs.Inner.{Lends, Ends, Closing, Closes}
use Rattle.call.specs.Promise.{number_of, said_of, questions_of, count_of, result_of, Promised}
use Rattle.search.specs.declared.react.Verdict.{Verdict}
use Rattle.call.specs.declared.Outcome.{Outcome}
use Rattle.call.specs.declared.Outcome.TheVariants.{Safe, Unsafe, GaveUp, Refused}
use Rattle.call.proofs.Call.{refused_system, refused_stores, refused_none, called_refused, called_searches, called_within, called_asks, called_right, stores_fitting, Lengths}

-- ---- how a search ends
module _ (s s' : Stores) (w : Lengths s s') where
  -- what is left depends on the stores' lengths alone
  leaves_same : (front path : List ℕ) → leaves s' front path ≡ leaves s front path
  unfolding leaves
  leaves_same front path =
      rw (
        over_same front s'.states s.states w.states,
        over_same [] s'.levels s.levels w.levels,
        over_same path s'.path s.path w.path,
      )

  -- so does the whole result
  pub ended_same : (q : ℕ) (v : ic3.Verdict) → ended s' q v ≡ ended s q v
  unfolding ended
  ended_same q (safe evidence) = rw (leaves_same evidence [])
  ended_same q (unsafe path) = rw (leaves_same [] path)
  ended_same q (gave_up why) = rw (leaves_same [] [])

-- what `close` requires, since a run keeps the stores' lengths
pub ends_closing : {n room : ℕ} {ending : ic3.Ending} {v : Verdict} {asked : ℕ} {s : Stores} → Ends n room ending v asked s → Closing v s
ends_closing w = record { same = w.lends.levels ∙ sym w.lends.states; counted = w.counted }

-- ---- the promise
module _ (y : System) (lent : Stores) (allowance : ℕ) where
  -- a refusal: nothing is said, nothing asked, and the stores are untouched
  pub refused_promised : (r : ℕ) (o : Outcome) → refused y lent ≡ suc r → o ≡ Refused (suc r)
      → Promised y lent allowance o lent
  refused_promised r o h q =
      let e = called_refused y lent allowance r h in
      rw q (record {
        equation = sym e;
        evidence_length = rw e;
        demand_2 = tt;
        demand_3 = λ m D. rw e at (called_within y lent allowance m D);
        start_asked = rw e at (called_asks y lent allowance);
        exists_m = (demand_3 rounds (model y)).exists;
      })

  -- refusals 1 to 3 come from the system alone
  pub system_promised : (r : ℕ) → r ≡ refusal_of y → (r ≡ 0 → ⊥)
      → Promised y lent allowance (Refused r) lent
  system_promised zero e f = absurd (f refl)
  system_promised (suc r) e f = refused_promised r _ (refused_system y lent r (sym e)) refl

  -- refusal 4 comes from the stores alone
  pub stores_promised : refusal_of y ≡ 0 → wrong_stores lent ≡ true
      → Promised y lent allowance (Refused 4) lent
  stores_promised e w = refused_promised 3 _ (refused_stores y lent e w) refl

-- what is not refused is lent as the search needs it
pub lends : (y : System) (lent : Stores) → refused y lent ≡ 0 → Lends y.n (length lent.states) lent
lends y lent h =
    let e = refused_none y lent h in
    let f = stores_fitting lent e.1 in
    record {
      small = (size_right y.n y.w (refusal_none y e.0).0).1;
      most = f.most;
      states = refl;
      levels = sym f.same;
      enough = f.path;
    }

module _ (y : System) {lent : Stores} (allowance : ℕ) (h : refused y lent ≡ 0) {e : Verdict} {asked : ℕ} {s : Stores}
    (w : Ends y.n (length lent.states) (searched rounds (model y) (length lent.states) allowance) e asked s) (k : Lengths lent s) where
  -- the verdict which the search ended with, over the stores s
  abbrev v : ic3.Verdict
  v = verdict_of e s

  -- the call's result is that of the stores which the search ended with
  called_ends : called y lent allowance ≡ ended s asked v
  called_ends =
      called_searches y lent allowance h
      ∙ (sym (ended_same lent s k _ _) ∙ rw (w.verdict, w.questions))

  -- a search that ended and was closed: what it returns is the call's result, so what holds of the definition's search holds of it
  pub searched_promised : {o : Outcome} {after : Stores} → Closes s e asked o after → Promised y lent allowance o after
  searched_promised {o} {after} c =
      let q : result_of o after ≡ called y lent allowance = c.equation ∙ sym called_ends in
      record {
        equation = q;
        evidence_length = rw called_ends c.evidence_length;
        demand_2 = rw (ap (λ r. r.said) q, ap (λ r. r.evidence) q) (called_right y lent allowance);
        demand_3 = λ m D. rw q (called_within y lent allowance m D);
        start_asked = rw q (called_asks y lent allowance);
        exists_m = (demand_3 rounds (model y)).exists;
      }

-- stores that hold the same
pub promised_same : {y : System} {lent after after' : Stores} {allowance : ℕ} {o : Outcome} → after' ≡ after
    → Promised y lent allowance o after → Promised y lent allowance o after'
promised_same e p = rw e p

-- ---- the promise leaves no choice
-- an outcome is what is said, with its number, questions and length of evidence
outcome_of : Said → ℕ → ℕ → ℕ → Outcome
outcome_of says_safe number questions count = Safe count questions
outcome_of says_unsafe number questions count = Unsafe count questions
outcome_of gives_up number questions count = GaveUp number questions
outcome_of refuses number questions count = Refused number

outcome_is : (o : Outcome) → outcome_of (said_of o) (number_of o) (questions_of o) (count_of o) ≡ o
unfolding outcome_of
outcome_is (Safe count questions) = refl
outcome_is (Unsafe count questions) = refl
outcome_is (GaveUp number questions) = refl
outcome_is (Refused number) = refl

outcome_same : (o o' : Outcome) → said_of o ≡ said_of o' → number_of o ≡ number_of o' → questions_of o ≡ questions_of o' → count_of o ≡ count_of o' → o ≡ o'
outcome_same o o' a b c d = sym (outcome_is o) ∙ (rw (a, b, c, d) (outcome_is o'))

-- any two outcomes that are promised, and the stores left with them, are equal
pub one_outcome : (y : System) (lent : Stores) (allowance : ℕ) (o o' : Outcome) (after after' : Stores) → Promised y lent allowance o after
    → Promised y lent allowance o' after' → (o ≡ o') × (after ≡ after')
one_outcome y lent allowance o o' after after' p p' =
    let e : result_of o after ≡ result_of o' after' = p.equation ∙ sym p'.equation in (
      outcome_same o o' (ap (λ r. r.said) e) (ap (λ r. r.number) e) (ap (λ r. r.questions) e) (p.evidence_length ∙ sym p'.evidence_length),
      ap (λ r. r.after) e,
    )

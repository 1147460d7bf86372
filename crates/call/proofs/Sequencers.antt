-- The sequencers' clauses have the steps that the scope gives, and each marked sequencer ends as it says. Steps and searches are computed, the
-- searches for the whole list at once; number, verdict, evidence and question count do not depend on what the lent stores hold, so what was
-- computed holds of every lent stores of that room. Assumes nothing.
use Prim.Native.Nat.{ℕ, ◌<◌}
use mathlib.Core.Bool.{Bool, true, false, not}
use mathlib.Core.List.{List, [], ◌∷◌, map}
use mathlib.Core.Path.{◌≡◌, refl, ap}
use lib.Dec.{eqb}
use Rattle.base.proofs.Tests.{clash}
use Rattle.masks.specs.Bit.{bit, somewhere}
use Rattle.masks.proofs.Somewhere.{somewhere_false}
use Rattle.ic3.specs.Model.{least}
use Rattle.ic3.specs.Search.{level_of, put, states, R, wanted, Verdict, safe, unsafe, gave_up, judge, goes_on, round, tested, found, deeper, settled, fits, kept, react, next, search_from, begun, searched}
use Rattle.system.specs.System.{System, literal_true, clause_true, four_true, list_true, some_true, pair, model, wrong_size, wrong_count, wrong_mask, wrong_clause, wrong_bit, refusal_of}
use Rattle.system.specs.Plain.{widened_list, widened}
use Rattle.call.specs.Call.{Stores, Result, ended, rounds}
use Rattle.call.specs.Sequencers.{Step, given, ring, ring_given, late, late_given, chain, chain_given, Given, Sequencer, sequencer, sequencers, Ends, Worked}
use Rattle.call.proofs.Call.{refused_stores, called_searches}

-- ---- the systems are the ones given
differ : Bool → Bool → Bool
differ true b = not b
differ false b = b

same : (k : ℕ) (f g : ℕ → Bool) → somewhere k (λ s. differ (f s) (g s)) ≡ false → (s : ℕ) → s < k → f s ≡ g s
unfolding differ
same k f g e s h = pick (f s) (g s) ((somewhere_false k (λ s. differ (f s) (g s))).0 e s h)
  where
    pick : (a b : Bool) → differ a b ≡ false → a ≡ b
    pick true true q = refl
    pick true false q = clash refl q
    pick false true q = clash refl q
    pick false false q = refl

-- all states and steps are gone through by one computation
given_by : (y : System) (steps : List Step) → somewhere 4 (λ s. differ ((model y).start s) (eqb s 0)) ≡ false
    → somewhere 4 (λ s. somewhere 4 (λ t. differ ((model y).step s t) (given steps s t))) ≡ false
    → somewhere 4 (λ s. differ ((model y).bad s) (eqb s 3)) ≡ false → Given y steps
given_by y steps e f g =
    record {
      start = same 4 (model y).start (λ s. eqb s 0) e;
      step = λ s t h l.
          same 4 ((model y).step s) (given steps s) ((somewhere_false 4 _).0 f s h) t l;
      bad = same 4 (model y).bad (λ s. eqb s 3) g;
    }

pub ring_given_lem : Given ring ring_given
unfolding differ bit somewhere literal_true clause_true four_true list_true some_true pair model widened_list widened
ring_given_lem = given_by ring ring_given refl refl refl

pub late_given_lem : Given late late_given
unfolding differ bit somewhere literal_true clause_true four_true list_true some_true pair model widened_list widened
late_given_lem = given_by late late_given refl refl refl

pub chain_given_lem : Given chain chain_given
unfolding differ bit somewhere literal_true clause_true four_true list_true some_true pair model widened_list widened
chain_given_lem = given_by chain chain_given refl refl refl

-- ---- they end as the scope says
abbrev nothing : Stores
nothing = record { states = []; levels = []; path = [] }

abbrev searching : Sequencer → Result
searching x = let e = searched rounds (model x.system) x.room x.allowance in ended nothing e.questions e.verdict

-- the sequencer with what the search gives
abbrev computed : Sequencer → Sequencer
computed x = let r = searching x in sequencer x.system x.room x.allowance r.number r.said r.evidence r.questions

-- THE COMPUTATION: the list is what comes out of it, and none of its systems is refused
table : (any : ℕ) → map computed (sequencers any) ≡ sequencers any
unfolding bit somewhere literal_true clause_true four_true list_true some_true pair model widened_list widened least level_of put states R wanted judge goes_on round tested found deeper settled fits kept react next search_from begun searched ended
table any = refl

accepted : (any : ℕ) → map (λ x. refusal_of x.system) (sequencers any) ≡ map (λ x. 0) (sequencers any)
unfolding widened_list widened wrong_size wrong_count wrong_mask wrong_clause wrong_bit refusal_of
accepted any = refl

ends_same : (x : Sequencer) (s : Stores) (q : ℕ) (v : Verdict) → Ends x (ended nothing q v) → Ends x (ended s q v)
unfolding ended
ends_same x s q (safe evidence) h = record { number = h.number; said = h.said; evidence = h.evidence; questions = h.questions }
ends_same x s q (unsafe path) h = record { number = h.number; said = h.said; evidence = h.evidence; questions = h.questions }
ends_same x s q (gave_up why) h = record { number = h.number; said = h.said; evidence = h.evidence; questions = h.questions }

each : (l : List Sequencer) → map computed l ≡ l → map (λ x. refusal_of x.system) l ≡ map (λ x. 0) l → Worked l
each [] e a = tt
each (x ∷ l) e a =
    let c : computed x ≡ x = cc in
    let r : refusal_of x.system ≡ 0 = cc in
    let f : Ends x (searching x) = record {
      number = ap (λ y. y.number) c;
      said = ap (λ y. y.said) c;
      evidence = ap (λ y. y.evidence) c;
      questions = ap (λ y. y.questions) c;
    } in (
      λ s h w. rw (called_searches x.system s x.allowance (refused_stores x.system s r w), h) (ends_same x s _ _ f),
      each l (cc) (cc),
    )

pub worked : (any : ℕ) → Worked (sequencers any)
worked any = each (sequencers any) (table any) (accepted any)

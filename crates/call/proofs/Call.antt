-- The call, case by case; that it has one result; demands 3 and 2 of it and what its first question shows, which are the search's, since number, verdict
-- and questions are; and that every store keeps its length, since evidence is never longer than the room and a path by at most two. Assumes nothing.
use Prim.Native.Nat.{ℕ, zero, suc, ◌+◌, ◌≤◌}
use mathlib.Core.Bool.{Bool, true, false, not, ◌||◌}
use mathlib.Core.List.{List, []}
use mathlib.Core.Logic.{◌↔◌}
use mathlib.Core.Path.{◌≡◌, refl, sym, ◌∙◌}
use native.Mathlib.Omega.{arith}
use borrow.Author.Tests.{eqb-true, ltb-false}
use lib.Dec.{eqb, ltb}
use lib.ListN.{length}
use Rattle.ic3.specs.Theorems.{Demand2, Answered, Started}
use Rattle.stores.proofs.Over.{over_length}
use Rattle.base.proofs.Tests.{clash}
use Rattle.base.specs.Refusals.{◌if◌, ◌else◌}
use Rattle.base.proofs.Refusals.{else_none, else_most, if_none, if_most}
use Rattle.ic3.specs.Model.{Model}
use Rattle.ic3.specs.Search.{no_room, spent, no_start, Verdict, safe, unsafe, gave_up, searched}
use Rattle.ic3.specs.Demands.{HasStart, NoStart, Doomed, Number}
use Rattle.ic3.proofs.Sound.{demand_2}
use Rattle.ic3.proofs.Bound.{demand_3}
use Rattle.ic3.proofs.Start.{started}
use Rattle.ic3.specs.Shape.{FitsEnding}
use Rattle.ic3.proofs.Shape.{ending_fits}
use Rattle.system.specs.System.{System, model, wrong_size, wrong_counts, wrong_bits, refusal_of}
use Rattle.call.specs.Call.{Stores, wrong_stores, refused, Said, says_safe, says_unsafe, gives_up, refuses, Result, result, leaves, ended, rounds, called}
use Rattle.call.specs.Promise.{Right, Within, StartAsked}

-- the system's own refusals come first
pub refused_system : (y : System) (s : Stores) (r : ℕ) → refusal_of y ≡ suc r → refused y s ≡ suc r
unfolding refused
refused_system y s r e = rw (e, refused)

-- then refusal 4, or none
pub refused_stores : (y : System) (s : Stores) {b : Bool} → refusal_of y ≡ 0 → wrong_stores s ≡ b → refused y s ≡ 4 if b
unfolding refused
refused_stores y s e w = rw (e, refused) (rw w)

pub refused_none : (y : System) (s : Stores) → refused y s ≡ 0 → (refusal_of y ≡ 0) × (wrong_stores s ≡ false)
unfolding refused
refused_none y s e = let n = else_none (refusal_of y) (4 if wrong_stores s) e in (n.0, if_none 3 (wrong_stores s) n.1)

module _ (y : System) (s : Stores) (allowance : ℕ) where
  pub called_refused : (r : ℕ) → refused y s ≡ suc r → called y s allowance ≡ result (suc r) refuses 0 [] s
  unfolding called
  called_refused r e = rw (e, called)

  pub called_searches : refused y s ≡ 0
      → called y s allowance
      ≡ ended s (searched rounds (model y) (length s.states) allowance).questions (searched rounds (model y) (length s.states) allowance).verdict
  unfolding called
  called_searches e = rw (e, called)

  -- any two results that the call allows are equal
  pub one_result : (r r' : Result) → r ≡ called y s allowance → r' ≡ called y s allowance → r ≡ r'
  one_result r r' e e' = e ∙ sym e'

-- ---- demand 3
module _ (s : Stores) (q : ℕ) where
  -- an answer has the number 0
  ended_answers : (v : Verdict) → Answered v → (ended s q v).number ≡ 0
  unfolding ended
  ended_answers (safe evidence) a = refl
  ended_answers (unsafe path) a = refl
  ended_answers (gave_up why) a = absurd a

  -- every ending reports the questions
  ended_questions : (v : Verdict) → (ended s q v).questions ≡ q
  unfolding ended
  ended_questions (safe evidence) = refl
  ended_questions (unsafe path) = refl
  ended_questions (gave_up why) = refl

-- a call asks no more than the bound, and with room and leave for that it does not give up
pub called_within : (y : System) (s : Stores) (allowance m : ℕ) → Number (Doomed (model y)) m → Within y s allowance (called y s allowance) m
called_within y s allowance m D = pick (refused y s) refl
  where
    pick : (r : ℕ) → refused y s ≡ r → Within y s allowance (called y s allowance) m
    pick zero e =
        let b = (demand_3 rounds (model y)).bounded m D in
        let room = length s.states in
        rw (called_searches y s allowance e)
        (record {
          few = rw (ended_questions s _ _) (b.few room allowance);
          answers = λ z h f g. ended_answers s _ _ (b.answers h room allowance f g);
        })
    pick (suc r) e = rw (called_refused y s allowance r e) (record { few = omega arith; answers = λ z h f g. absurd (omega arith) })

-- ---- the question for a start state
-- a start state where there is none
not_both : (M : Model) {A : Type 0} → HasStart M → NoStart M → A
not_both M h n = clash h.starts (n h.state h.inside)

module _ (M : Model) (allowance : ℕ) (s : Stores) (q : ℕ) where
  -- which ending has the number 14
  ended_14 : (v : Verdict) → Started M allowance v → ((ended s q v).number ≡ 14) ↔ ((1 ≤ allowance) × NoStart M)
  unfolding ended
  ended_14 (safe evidence) w = (λ e. absurd (omega arith), λ n. not_both M w n.1)
  ended_14 (unsafe path) w = (λ e. absurd (omega arith), λ n. not_both M w n.1)
  ended_14 (gave_up no_room) w = (λ e. absurd (omega arith), λ n. not_both M w n.1)
  ended_14 (gave_up spent) w = (λ e. absurd (omega arith), λ n. not_both M (w n.0) n.1)
  ended_14 (gave_up no_start) w = (λ e. w, λ n. refl)

  -- a verdict's ending has seen a start state
  ended_start : (v : Verdict) → Started M allowance v → (ended s q v).number ≡ 0 → HasStart M
  unfolding ended
  ended_start (safe evidence) w e = w
  ended_start (unsafe path) w e = w
  ended_start (gave_up no_room) w e = absurd (omega arith)
  ended_start (gave_up spent) w e = absurd (omega arith)
  ended_start (gave_up no_start) w e = absurd (omega arith)

-- no refusal of a call is above 4
refused_few : (y : System) (s : Stores) → refused y s ≤ 4
unfolding refused refusal_of
refused_few y s =
    let a = wrong_size y.n y.w in
    let b = wrong_counts y.start y.step y.bad in
    let c = wrong_bits y.n y.w y.start y.step y.bad in
    let own : (1 if a else 2 if b else 3 if c) ≤ 4 = else_most 4 (1 if a) (2 if b else 3 if c) (omega (arith, if_most 1 a))
    (else_most 4 (2 if b) (3 if c) (omega (arith, if_most 2 b)) (omega (arith, if_most 3 c))) in
    else_most 4 (1 if a else 2 if b else 3 if c) (4 if wrong_stores s) own (if_most 4 (wrong_stores s))

pub called_asks : (y : System) (s : Stores) (allowance : ℕ) → StartAsked y s allowance (called y s allowance)
called_asks y s allowance = pick (refused y s) refl
  where
    pick : (r : ℕ) → refused y s ≡ r → StartAsked y s allowance (called y s allowance)
    pick zero e =
        let w = started rounds (model y) (length s.states) allowance in
        let f = ended_14 (model y) allowance s _ _ w in
        rw (called_searches y s allowance e)
        (record { none = (λ n. (e, (f.0 n).0, (f.0 n).1), λ n. f.1 (n.1, n.2)); verdict = ended_start (model y) allowance s _ _ w })
    pick (suc r) e =
        rw (called_refused y s allowance r e)
        (record {
          none = (λ n. absurd (omega (arith, refused_few y s)), λ n. absurd (omega (arith, n.0)));
          verdict = λ n. absurd (omega arith);
        })

-- ---- demand 2
ended_right : (M : Model) (s : Stores) (q : ℕ) (v : Verdict) → Demand2 M v → Right M (ended s q v).said (ended s q v).evidence
unfolding ended
ended_right M s q (safe evidence) d = d
ended_right M s q (unsafe path) d = d
ended_right M s q (gave_up why) d = tt

-- something is said
abbrev pub Speaks : Said → Type 0
Speaks says_safe = Unit {0}
Speaks says_unsafe = Unit {0}
Speaks gives_up = ⊥
Speaks refuses = ⊥

module _ (y : System) (s : Stores) (allowance : ℕ) where
  -- what a call says is right
  pub called_right : Right (model y) (called y s allowance).said (called y s allowance).evidence
  called_right = pick (refused y s) refl
    where
      pick : (r : ℕ) → refused y s ≡ r → Right (model y) (called y s allowance).said (called y s allowance).evidence
      pick zero e = rw (called_searches y s allowance e) (ended_right (model y) s _ _ (demand_2 (model y) rounds (length s.states) allowance))
      pick (suc r) e = rw (called_refused y s allowance r e) tt

  -- a call that says something was given a system that is not refused
  pub called_accepts : Speaks (called y s allowance).said → refusal_of y ≡ 0
  called_accepts f = pick (refused y s) refl
    where
      pick : (r : ℕ) → refused y s ≡ r → refusal_of y ≡ 0
      pick zero e = (refused_none y s e).0
      pick (suc r) e = absurd (rw (called_refused y s allowance r e) at f)

  -- and a system that has a start state
  pub called_starts : Speaks (called y s allowance).said → HasStart (model y)
  unfolding ended
  called_starts f = pick (refused y s) refl
    where
      seen : (q : ℕ) (v : Verdict) → Started (model y) allowance v → Speaks (ended s q v).said → HasStart (model y)
      seen q (safe evidence) w g = w
      seen q (unsafe path) w g = w
      seen q (gave_up why) w g = absurd g

      pick : (r : ℕ) → refused y s ≡ r → HasStart (model y)
      pick zero e =
          let ending = searched rounds (model y) (length s.states) allowance in
          seen ending.questions ending.verdict (started rounds (model y) (length s.states) allowance) (rw (called_searches y s allowance e) at f)
      pick (suc r) e = absurd (rw (called_refused y s allowance r e) at f)

-- ---- lengths
-- what stores that are not refused are
pub record Fitting (s : Stores) : Type 0 where
  pub same : length s.states ≡ length s.levels
  pub most : length s.states ≤ 65536
  pub path : length s.states + 2 ≤ length s.path

pub stores_fitting : (s : Stores) → wrong_stores s ≡ false → Fitting s
unfolding wrong_stores
stores_fitting s e =
    let r : ℕ = length s.states in
    let f = pick (eqb r (length s.levels)) (ltb 65536 r) (ltb (length s.path) (r + 2)) e in
    record {
      same = eqb-true r (length s.levels) f.0;
      most = ltb-false 65536 r f.1;
      path = ltb-false (length s.path) (r + 2) f.2;
    }
  where
    pick : (a b c : Bool) → (not a || (b || c)) ≡ false → (a ≡ true) × (b ≡ false) × (c ≡ false)
    pick true true c g = clash refl g
    pick true false c g = (refl, refl, g)
    pick false b c g = clash refl g

-- `after` is as long as `before`, store by store
pub record Lengths (before after : Stores) : Type 0 where
  pub states : length after.states ≡ length before.states
  pub levels : length after.levels ≡ length before.levels
  pub path : length after.path ≡ length before.path

leaves_lengths : (s : Stores) (front path : List ℕ) → length front ≤ length s.states → length path ≤ length s.path → Lengths s (leaves s front path)
unfolding leaves
leaves_lengths s front path a b =
    record {
      states = over_length front s.states a;
      levels = over_length [] s.levels (omega arith);
      path = over_length path s.path b;
    }

ended_lengths : (s : Stores) (q : ℕ) (v : Verdict) → length s.states + 2 ≤ length s.path → FitsEnding (length s.states) v
    → Lengths s (ended s q v).after
unfolding ended
ended_lengths s q (safe evidence) h f = leaves_lengths s evidence [] f (omega arith)
ended_lengths s q (unsafe path) h f = leaves_lengths s [] path (omega arith) (omega arith)
ended_lengths s q (gave_up why) h f = leaves_lengths s [] [] (omega arith) (omega arith)

pub called_lengths : (y : System) (s : Stores) (allowance : ℕ) → Lengths s (called y s allowance).after
called_lengths y s allowance = pick (refused y s) refl
  where
    pick : (r : ℕ) → refused y s ≡ r → Lengths s (called y s allowance).after
    pick zero e =
        rw (called_searches y s allowance e)
        (ended_lengths s _ _ (stores_fitting s (refused_none y s e).1).path (ending_fits rounds (model y) (length s.states) allowance))
    pick (suc r) e = rw (called_refused y s allowance r e) (record { states = refl; levels = refl; path = refl })

-- the evidence is longer than the room by two at most
ended_evidence : (s : Stores) (q : ℕ) (v : Verdict) → FitsEnding (length s.states) v
    → length (ended s q v).evidence ≤ length s.states + 2
unfolding ended
ended_evidence s q (safe evidence) f = omega (arith, f)
ended_evidence s q (unsafe path) f = f
ended_evidence s q (gave_up why) f = omega arith

pub called_evidence : (y : System) (s : Stores) (allowance : ℕ) → length (called y s allowance).evidence ≤ length s.states + 2
called_evidence y s allowance = pick (refused y s) refl
  where
    pick : (r : ℕ) → refused y s ≡ r → length (called y s allowance).evidence ≤ length s.states + 2
    pick zero e = rw (called_searches y s allowance e) (ended_evidence s _ _ (ending_fits rounds (model y) (length s.states) allowance))
    pick (suc r) e = rw (called_refused y s allowance r e) (omega arith)

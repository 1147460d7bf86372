-- The whole search over the lent stores: without leave to ask it ends at once; the question for a start state is the definition's, since an empty list is
-- true of every state; without one the search ends, and else the run from step 1 on is the rest of it. Assumes nothing.
use Prim.Native.Nat.{ℕ, zero, suc, ◌-◌, ◌^◌, min, ◌≤◌}
use mathlib.Core.Bool.{and-true}
use mathlib.Core.List.{List, []}
use mathlib.Core.Option.{Option, none, some}
use mathlib.Core.Path.{◌≡◌, refl, ap}
use native.Mathlib.Nat.{min-eq_left}
use native.Mathlib.Omega.{arith}
use Rattle.ic3.specs.Model.{least}
use Rattle.ic3.specs.Search.{search_from, begun, searched}
use Rattle.ic3.proofs.Least.{least_same}
use Rattle.ic3.proofs.Shape.{opening_shape}
use Rattle.system.specs.System.{System, system_of, list_true, model}
use Rattle.system.proofs.Sentences.{empty_bad}
use Rattle.question.specs.Question.{inside, bad_in}
use Rattle.call.specs.Call.{Stores, rounds}
use Rattle.search.specs.Lent.{store_of, window, config, config_of}
use Rattle.search.specs.Inner.{Lends, Begins, Ends}
use Rattle.search.specs.declared.react.Why.TheVariants.{Spent, NoStart}
use Rattle.search.specs.declared.react.Verdict.TheVariants.{GaveUp}
use Rattle.search.specs.declared.react.Phase.TheVariants.{Look}

-- a state of R(0) of which an empty list is true is a start state
pub start_asked : (n : ℕ) (start levels : List ℕ) → bad_in n 0 start [] [] levels 0 0 ≡ least (2 ^ min n 32) (λ s. list_true start s 0)
unfolding bad_in inside model
start_asked n start levels =
    least_same (2 ^ min n 32) _ _ (λ s h. rw (empty_bad (system_of n 0 start [] []) refl s) (and-true (list_true start s 0)))

-- without leave to ask
pub forbidden_ends : (y : System) {room allowance : ℕ} {s : Stores} → Lends y.n room s → allowance ≡ 0
    → Ends y.n room (searched rounds (model y) room allowance) (GaveUp Spent) 0 s
unfolding searched
forbidden_ends y w e = rw e (record { verdict = refl; questions = refl; counted = tt; lends = w })

-- step 1 has the shape: nothing is stored
pub first_begins : {n room allowance : ℕ} {s : Stores} → Lends n room s → 1 ≤ allowance → Begins n room (config 0 0 Look) 1 allowance s
unfolding store_of window
first_begins {room = room} w h = record { ready = record { lends = w; shape = opening_shape room; indexed = tt }; within = h }

module _ (y : System) {room allowance : ℕ} {s : Stores} (w : Lends y.n room s) (h : 1 ≤ allowance) where
  -- the first answer, taken in
  taken : (o : Option ℕ) → o ≡ least (2 ^ min y.n 32) (λ x. list_true y.start x 0)
      → begun rounds (allowance - 1) (model y) room o ≡ searched rounds (model y) room allowance
  unfolding searched model
  taken o e = by allowance h
    where
      by : (a : ℕ) → 1 ≤ a → begun rounds (a - 1) (model y) room o ≡ searched rounds (model y) room a
      by zero l = absurd (omega arith)
      by (suc left) l = let z : suc left - 1 ≡ left = omega arith in rw (e, min-eq_left w.small, z)

  -- without a start state
  pub nowhere_ends : none ≡ least (2 ^ min y.n 32) (λ x. list_true y.start x 0)
      → Ends y.n room (searched rounds (model y) room allowance) (GaveUp NoStart) 1 s
  unfolding begun
  nowhere_ends e =
      record {
        verdict = ap (λ z. z.verdict) (taken none e);
        questions = ap (λ z. z.questions) (taken none e);
        counted = tt;
        lends = w;
      }

  -- the run from step 1 is the rest of the search
  pub first_searches : (t : ℕ) → some t ≡ least (2 ^ min y.n 32) (λ x. list_true y.start x 0)
      → search_from rounds (allowance - 1) (model y) room (config_of (config 0 0 Look) s) 1 ≡ searched rounds (model y) room allowance
  unfolding store_of window begun
  first_searches t e = taken (some t) e

-- Sentences of the scope that follow from the definitions and the demands. Assumes nothing.
use Prim.Native.Nat.{ℕ, zero, suc, ◌+◌, ◌≤◌}
use mathlib.Core.List.{List, [], ◌∷◌}
use mathlib.Core.Option.{Option, none, some}
use mathlib.Core.Path.{◌≡◌, refl}
use native.Mathlib.Omega.{arith}
use lib.ListN.{length}
use Rattle.base.proofs.Tests.{clash}
use Rattle.ic3.specs.Model.{Model, least}
use Rattle.ic3.specs.Search.{Entry, look, settle, Config, at, spent, no_start, gave_up, Move, go, stop, Rounds, next, Ending, search_from, begun, searched}
use Rattle.ic3.specs.Shape.{Placed}
use Rattle.ic3.specs.Demands.{Reach, starts, steps, NoStart}
use Rattle.ic3.proofs.Least.{least_is}

-- Without a start state no state is reachable, and the search ends after its first question.
module _ (M : Model) (none_starts : NoStart M) where
  pub nothing_reachable : {k s : ℕ} → Reach M k s → ⊥
  nothing_reachable (starts {s = s} h e) = clash e (none_starts s h)
  nothing_reachable (steps r h e) = nothing_reachable r

  pub ends_at_once : (r : Rounds) (room left : ℕ) → searched r M room (suc left) ≡ record { verdict = gave_up no_start; questions = 1 }
  unfolding searched begun
  ends_at_once r room left = rw (least_is M.size M.start none none_starts)

-- The path is t, then the states of the open duties from level 1 up to N, so N + 1 states.
pub path_states : (N : ℕ) (st : List Entry) (s : ℕ) (ds : List ℕ) (t : ℕ) → Placed N st (settle 0 s ds) → length (t ∷ (s ∷ ds)) ≡ suc N
path_states N st s ds t w = omega (arith, w)

-- Before each ask, if the allowance is used up, the call ends: no search asks more questions than it has leave for.
module _ (r : Rounds) (M : Model) (room : ℕ) where
  from_within : (left : ℕ) (c : Config) (q : ℕ) → (search_from r left M room c q).questions ≤ left + q
  unfolding search_from
  from_within zero c q = omega arith
  from_within (suc left) c q = pick (next r M room c) (λ d. from_within left d (suc q))
    where
      pick : (m : Move) → ((d : Config) → (search_from r left M room d (suc q)).questions ≤ left + suc q)
          → (elim m as (λ x. Ending) [ go d ↦ search_from r left M room d (suc q) | stop v ↦ record { verdict = v; questions = suc q } ]).questions
          ≤ suc left + q
      pick (go d) f = omega (arith, f d)
      pick (stop v) f = omega arith

  -- without leave nothing is asked
  pub ends_unasked : searched r M room 0 ≡ record { verdict = gave_up spent; questions = 0 }
  unfolding searched
  ends_unasked = refl

  begun_within : (left : ℕ) (o : Option ℕ) → (begun r left M room o).questions ≤ suc left
  unfolding begun
  begun_within left none = omega arith
  begun_within left (some s) = omega (arith, from_within left (at 0 [] look) 1)

  pub searched_within : (allowance : ℕ) → (searched r M room allowance).questions ≤ allowance
  unfolding searched
  searched_within zero = omega arith
  searched_within (suc left) = begun_within left (least M.size M.start)

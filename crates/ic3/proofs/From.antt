-- A search as its turns. A loop over questions keeps "the rest of the run is the whole run" by `run_out`, `run-go` and `run-stop`; and what
-- every turn keeps holds of the ending, by recursion on the allowance. The question for a start state stands before the first turn. Assumes nothing.
use Prim.Native.Nat.{ℕ, zero, suc, ◌+◌, ◌-◌, ◌≤◌}
use mathlib.Core.List.{[]}
use mathlib.Core.Option.{Option, none, some}
use mathlib.Core.Path.{◌≡◌, refl}
use native.Mathlib.Omega.{arith}
use Rattle.ic3.specs.Answers.{Answers}
use Rattle.ic3.specs.Model.{Model, least}
use Rattle.ic3.specs.Search.{look, Config, at, spent, Verdict, gave_up, Move, go, stop, Rounds, next, Ending, search_from, begun, searched}
use Rattle.ic3.specs.Demands.{HasStart, NoStart}
use Rattle.ic3.proofs.Least.{least_answers}

module _ (r : Rounds) (M : Model) (room : ℕ) where
  pub from_out : (c : Config) (q : ℕ) → search_from r 0 M room c q ≡ record { verdict = gave_up spent; questions = q }
  unfolding search_from
  from_out c q = refl

  pub from_go : (left : ℕ) (c d : Config) (q : ℕ) → next r M room c ≡ go d → search_from r (suc left) M room c q ≡ search_from r left M room d (suc q)
  unfolding search_from
  from_go left c d q e = rw (e, search_from)

  pub from_stop : (left : ℕ) (c : Config) (v : Verdict) (q : ℕ) → next r M room c ≡ stop v
      → search_from r (suc left) M room c q ≡ record { verdict = v; questions = suc q }
  unfolding search_from
  from_stop left c v q e = rw (e, search_from)

module _ (r : Rounds) (M : Model) (room allowance : ℕ) (P : Config → ℕ → Type 0) (Q : Verdict → ℕ → Type 0) where
  -- P of where the search goes on, or Q of its ending
  abbrev pub Turned : ℕ → Move → Type 0
  Turned q (go d) = P d q
  Turned q (stop v) = Q v q

  abbrev pub Ended : Ending → Type 0
  Ended e = Q e.verdict e.questions

  pub from_keeps : ((c : Config) (q : ℕ) → P c q → Turned (suc q) (next r M room c)) → ((c : Config) → P c allowance → Q (gave_up spent) allowance)
      → (left : ℕ) (c : Config) (q : ℕ) → left + q ≡ allowance → P c q
      → Ended (search_from r left M room c q)
  unfolding search_from
  from_keeps turn over zero c q e p = let z : q ≡ allowance = omega arith in rw z (over c (rw z at p))
  from_keeps turn over (suc left) c q e p =
      pick (next r M room c) (turn c q p) (λ d x. from_keeps turn over left d (suc q) (omega arith) x)
    where
      pick : (m : Move) → Turned (suc q) m
          → ((d : Config) → P d (suc q) → Ended (search_from r left M room d (suc q)))
          → Ended (elim m as (λ x. Ending) [ go d ↦ search_from r left M room d (suc q) | stop v ↦ record { verdict = v; questions = suc q } ])
      pick (go d) t f = f d t
      pick (stop v) t f = t

  -- the whole search: no leave to ask, no start state, or step 1 after one question
  pub searched_keeps : ((c : Config) (q : ℕ) → P c q → Turned (suc q) (next r M room c)) → ((c : Config) → P c allowance → Q (gave_up spent) allowance)
      → (allowance ≡ 0 → Ended (searched r M room 0)) → (1 ≤ allowance → NoStart M → Ended (begun r (allowance - 1) M room none))
      → (HasStart M → P (at 0 [] look) 1) → Ended (searched r M room allowance)
  unfolding begun searched
  searched_keeps turn over forbidden nowhere first = whole allowance refl
    where
      taken : (left : ℕ) → suc left ≡ allowance → (o : Option ℕ) → Answers M.size M.start o → Ended (begun r left M room o)
      taken left e none a = nowhere (omega arith) a
      taken left e (some s) a =
          from_keeps turn over left (at 0 [] look) 1 (omega arith) (first (record { state = s; inside = a.state; starts = a.fulfils }))

      whole : (a : ℕ) → a ≡ allowance → Ended (searched r M room a)
      whole zero e = forbidden (omega arith)
      whole (suc left) e = taken left e (least M.size M.start) (least_answers M.size M.start)

-- Demands 2 and 3, of the search over a model.
use Rattle.std.specs.Prelude.{ℕ, ◌+◌, ◌*◌, ◌≤◌, ◌≡◌}
use Rattle.ic3.specs.Model.{Model}
use Rattle.ic3.specs.Search.{no_room, spent, no_start, Verdict, safe, unsafe, gave_up, Rounds, searched}
use Rattle.ic3.specs.Demands.{Safe, Unsafe, HasStart, NoStart, Doomed, Number}

-- demand 2, of a verdict
abbrev pub Demand2 : Model → Verdict → Type 0
Demand2 M (safe evidence) = Safe M evidence
Demand2 M (unsafe path) = Unsafe M path
Demand2 M (gave_up why) = Unit {0}

-- a verdict, no giving up
abbrev pub Answered : Verdict → Type 0
Answered (safe evidence) = Unit {0}
Answered (unsafe path) = Unit {0}
Answered (gave_up why) = ⊥

-- One search never asks more than `most` questions, and where there is a start state, with room for m states and leave to ask that many it never
-- gives up.
pub record Bounded (r : Rounds) (M : Model) (m most : ℕ) : Type 0 where
  pub few : (room allowance : ℕ) → (searched r M room allowance).questions ≤ most
  pub answers : HasStart M → (room allowance : ℕ) → m ≤ room → most ≤ allowance → Answered (searched r M room allowance).verdict

-- demand 3: there is exactly one such m, and it bounds the search
pub record Demand3 (r : Rounds) (M : Model) : Type 0 where
  pub exists : (m : ℕ) × Number (Doomed M) m
  pub unique : (m n : ℕ) → Number (Doomed M) m → Number (Doomed M) n → m ≡ n
  pub bounded : (m : ℕ) → Number (Doomed M) m → Bounded r M m (3 * ((m + 2) * (m + 2)))

-- what the first question shows, of a verdict: there is a start state, or there is none and it was asked
abbrev pub Started : Model → ℕ → Verdict → Type 0
Started M allowance (safe evidence) = HasStart M
Started M allowance (unsafe path) = HasStart M
Started M allowance (gave_up no_room) = HasStart M
Started M allowance (gave_up spent) = (1 ≤ allowance → HasStart M)
Started M allowance (gave_up no_start) = (1 ≤ allowance) × NoStart M

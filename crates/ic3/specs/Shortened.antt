-- Beyond the demands: what shortened rounds change. With the same room and allowance the full search and the shortened one ask the same questions
-- and end alike, but for the last round of a safe run, which the shortened one need not go through.
use Rattle.std.specs.Prelude.{ℕ, ◌+◌, ◌≤◌, List, [], ◌≡◌}
use Rattle.ic3.specs.Model.{Model}
use Rattle.ic3.specs.Search.{Phase, look, settle, raise, Config, at, Verdict, safe, go, stop, full, next, Ending, search_from}
use Rattle.ic3.specs.Theorems.{Answered}

-- from c on the full search comes to a configuration
pub data Comes (M : Model) (room : ℕ) (c : Config) : Config → Type 0 where
  here : Comes M room c c
  onward : {d e : Config} → Comes M room c d → next full M room d ≡ go e → Comes M room c e

-- step 4
abbrev pub Tests : Phase → Type 0
Tests look = ⊥
Tests (settle k s ds) = ⊥
Tests (raise i s todo) = Unit {0}

-- From c on the full search is in its last round: it asks the questions of one step 4 alone, and its only verdict is safe with this evidence.
pub record LastRound (M : Model) (room : ℕ) (evidence : List ℕ) (c : Config) : Type 0 where
  pub same_N : (d : Config) → Comes M room c d → d.N ≡ c.N
  pub tests : (d : Config) → Comes M room c d → Tests d.phase
  pub ends : (d : Config) (v : Verdict) → Comes M room c d → next full M room d ≡ stop v → v ≡ safe evidence

-- The shortened search has said safe where the full one, at a configuration that it comes to from the beginning, has yet to go through the rest of its
-- last round.
pub record EndsSooner (M : Model) (room allowance : ℕ) (whole short : Ending) : Type 0 where
  pub evidence : List ℕ
  pub says : short.verdict ≡ safe evidence
  pub place : Config
  pub reached : Comes M room (at 0 [] look) place
  pub last : LastRound M room evidence place
  pub left : ℕ
  pub rest : whole ≡ search_from full left M room place short.questions
  pub allowed : left + short.questions ≡ allowance

-- THE DIFFERENCE, of the endings of the full search and the shortened one
pub data Differ (M : Model) (room allowance : ℕ) (whole short : Ending) : Type 0 where
  nowhere : whole ≡ short → Differ M room allowance whole short
  at_the_end : EndsSooner M room allowance whole short → Differ M room allowance whole short

-- So: wherever the full search answers, the shortened one gives the same verdict with the same evidence; and it asks no more questions.
pub record Agree (whole short : Ending) : Type 0 where
  pub verdict : Answered whole.verdict → short.verdict ≡ whole.verdict
  pub questions : short.questions ≤ whole.questions

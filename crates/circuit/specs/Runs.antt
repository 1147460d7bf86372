-- A run of a circuit with its inputs, state by state: what "constraints must hold in every state of a path, the last included" says.
use Rattle.std.specs.Prelude.{ℕ, ◌^◌, ◌<◌, true, List, [], ◌∷◌, ◌≡◌, length}
use Rattle.circuit.specs.Circuit.{Circuit, literal, any, values, next_state, constrained, watched, starts}

-- under the inputs i the constraints hold in s
pub record Allows (c : Circuit) (s i : ℕ) : Type 0 where
  pub inputs : i < 2 ^ length c.inputs
  pub holds : constrained c (values c s i) ≡ true

-- from s on: in each state allowed inputs lead to the next, and in the last one allowed inputs make a watched literal 1
abbrev pub RunsOn : Circuit → ℕ → List ℕ → Type 0
RunsOn c s [] = (i : ℕ) × Allows c s i × (any (literal (values c s i)) (watched c) ≡ true)
RunsOn c s (t ∷ xs) = ((i : ℕ) × Allows c s i × (t ≡ next_state c (values c s i))) × RunsOn c t xs

-- a run from a start state to a watched literal that is 1
abbrev pub Runs : Circuit → List ℕ → Type 0
Runs c [] = ⊥
Runs c (s ∷ xs) = (s < 2 ^ length c.latches) × (starts 0 c.latches s ≡ true) × RunsOn c s xs

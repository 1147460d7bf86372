-- What the answer promises, and what it means to a user.
use Rattle.std.specs.Prelude.{ℕ, ◌≤◌, true, List, [], ◌∷◌, ◌≡◌, take}
use Rattle.base.specs.Refusals.{scan_allowance}
use Rattle.text.specs.Writing.{Writes}
use Rattle.ic3.specs.Model.{Model}
use Rattle.ic3.specs.Demands.{Safe, Unsafe, HasStart, listed}
use Rattle.system.specs.System.{model}
use Rattle.call.specs.Call.{called}
use Rattle.call.specs.Promise.{stores, result_of}
use Rattle.call.specs.declared.Outcome.{Outcome}
use Rattle.house.specs.File.{Reading, file, refused, said}
use Rattle.answer.specs.Answer.{verdict_lines, call_lines, scan_stores, clause_rooms, system_in, answered}

-- the lines of an outcome, with its evidence in front of the stores
abbrev pub outcome_lines : Outcome → List ℕ → List ℕ → List ℕ
outcome_lines o states path = call_lines (result_of o (stores states [] path))

-- a text begins with these two digits
abbrev pub Begins : ℕ → ℕ → List ℕ → Type 0
Begins a b [] = ⊥
Begins a b (x ∷ []) = ⊥
Begins a b (x ∷ (y ∷ rest)) = (x ≡ a) × (y ≡ b)

-- The text is a house file, the answer's lines are a verdict of this kind, the file's system has a start state, and the states in the lines are right
-- evidence for it.
pub record Shows (text : List ℕ) (kind : ℕ) (Right : Model → List ℕ → Type 0) : Type 0 where
  pub reading : Reading
  pub read : said clause_rooms text ≡ file reading
  pub questions : ℕ
  pub evidence : List ℕ
  pub lines : answered text ≡ verdict_lines kind questions evidence
  pub start : HasStart (model (system_in reading))
  pub right : Right (model (system_in reading)) evidence

-- the numbers that a file can bring about
abbrev pub FromFile : ℕ → Type 0
FromFile number = listed (0 ∷ (1 ∷ (3 ∷ (5 ∷ (6 ∷ (14 ∷ [])))))) number ≡ true

-- The answer lies in front of the buffer, as far as that reaches, and its whole length is returned, which is 13,359 bytes at most. What stands behind
-- the first 37,999 bytes of the text does not matter. Two bytes hold the line of a refusal, and no file is refused with 2 or 4. If the answer begins
-- with 80 the system is safe and the 81 lines are excluded states that show it; if with 90 it is unsafe and the 91 lines are a shortest path.
pub record Answers (text before : List ℕ) (r : ℕ) (after : List ℕ) : Type 0 where
  pub writes : Writes 0 (answered text) before r after
  pub short : r ≤ 13359
  pub cut : answered text ≡ answered (take 37999 text)
  pub line : (number line : ℕ) → said clause_rooms text ≡ refused number line → line ≤ 1027
  pub number : (reading : Reading) → said clause_rooms text ≡ file reading → FromFile (called (system_in reading) scan_stores scan_allowance).number
  pub safe : Begins 56 48 (answered text) → Shows text 128 Safe
  pub unsafe : Begins 57 48 (answered text) → Shows text 144 Unsafe

-- What the answer promises, and what it means to a user: of the circuit in the text, not of clauses.
use Rattle.std.specs.Prelude.{ℕ, ◌+◌, ◌*◌, ◌≤◌, ◌<◌, true, List, [], ◌∷◌, ◌⊎◌, ◌≡◌, length, take}
use Rattle.base.specs.Refusals.{scan_allowance, most_clauses}
use Rattle.text.specs.Writing.{Writes}
use Rattle.ic3.specs.Demands.{Safe, Unsafe, HasStart, listed}
use Rattle.call.specs.Call.{called}
use Rattle.answer.specs.Answer.{verdict_lines, scan_stores}
use Rattle.answer.specs.Promise.{Begins}
use Rattle.circuit.specs.Circuit.{Circuit, meaning}
use Rattle.circuit.specs.Runs.{Runs}
use Rattle.circuit.specs.Import.{imported}
use Rattle.aiger.specs.Text.{newer_edition, malformed, told, tells}
use Rattle.aiger.specs.Promise.{line_for}
use Rattle.circuit_answer.specs.Answer.{refusal_in, answered}

-- what the text says
abbrev pub Says : List ℕ → ℕ → Circuit → Type 0
Says text m c = tells newer_edition text ≡ told m c

-- The text is a circuit that is not refused, the answer's lines are a verdict of this kind, the circuit has a start state, and the states in the
-- lines are right evidence for it.
pub record Shows (text : List ℕ) (kind : ℕ) (Right : Circuit → List ℕ → Type 0) : Type 0 where
  pub m : ℕ
  pub circuit : Circuit
  pub read : Says text m circuit
  pub accepted : refusal_in m circuit ≡ 0
  pub questions : ℕ
  pub evidence : List ℕ
  pub lines : answered text ≡ verdict_lines kind questions evidence
  pub start : HasStart (meaning circuit)
  pub right : Right circuit evidence

-- no bad state can be reached; a shortest path, which is a run with inputs that fulfil the constraints in every state of it
abbrev pub SafeCircuit : Circuit → List ℕ → Type 0
SafeCircuit c evidence = Safe (meaning c) evidence

abbrev pub UnsafeCircuit : Circuit → List ℕ → Type 0
UnsafeCircuit c path = Unsafe (meaning c) path × Runs c path

-- the refusals for the form of a text
abbrev pub FromText : ℕ → Type 0
FromText number = listed (20 ∷ (27 ∷ [])) number ≡ true

-- the numbers that a circuit can bring about behind its own refusals
abbrev pub FromCircuit : ℕ → Type 0
FromCircuit number = listed (0 ∷ (5 ∷ (6 ∷ []))) number ≡ true

-- 32 and no other number above 28, and only if the system would be refused with 2
abbrev pub Most : Circuit → ℕ → Type 0
Most c number = (number ≤ 28) ⊎ ((number ≡ 32) × (most_clauses < 2 * length c.latches + (3 * length c.gates + length c.constraints)))

-- a text says the same when it is cut off, or is refused with 20 then
abbrev pub CutOff : List ℕ → ℕ → Type 0
CutOff text most =
    (tells newer_edition (take most text) ≡ tells newer_edition text) ⊎ ((line : ℕ) × (tells newer_edition (take most text) ≡ malformed 20 line))

-- The answer lies in front of the buffer, as far as that reaches, and its whole length is returned, which is 13,359 bytes at most. A text that is cut
-- off, wherever, has the same answer or is refused with 20. A text that says no circuit is refused with 20 or 27, and the line that a refusal names is
-- one of the text's lines, or the next. No circuit is refused with a number above 28, but with 32 if its step list would have over 4,096 clauses. If
-- the answer begins with 80 the circuit is safe and the 81 lines are excluded states that show it; if with 90 it is unsafe and the 91 lines are a
-- shortest path.
pub record Answers (text before : List ℕ) (r : ℕ) (after : List ℕ) : Type 0 where
  pub writes : Writes 0 (answered text) before r after
  pub short : r ≤ 13359
  pub cut : (most : ℕ) → CutOff text most
  pub line : (number line : ℕ) → tells newer_edition text ≡ malformed number line → FromText number × (line ≤ length text + 1)
  pub circuit_line : (m : ℕ) (c : Circuit) → Says text m c → line_for c (refusal_in m c) ≤ length text + 1
  pub refusal : (m : ℕ) (c : Circuit) → Says text m c → Most c (refusal_in m c)
  pub number : (m : ℕ) (c : Circuit) → Says text m c → refusal_in m c ≡ 0 → FromCircuit (called (imported c) scan_stores scan_allowance).number
  pub safe : Begins 56 48 (answered text) → Shows text 128 SafeCircuit
  pub unsafe : Begins 57 48 (answered text) → Shows text 144 UnsafeCircuit

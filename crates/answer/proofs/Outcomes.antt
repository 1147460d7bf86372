-- The answer of a call as code comes to it, by its outcome. Evidence is no longer than its store, and the level store has no part in it. Assumes
-- nothing.
use Prim.Native.Nat.{ℕ, ◌≤◌}
use mathlib.Core.List.{List}
use mathlib.Core.Path.{◌≡◌, sym, ap}
use native.Mathlib.Omega.{arith}
use lib.ListN.{length, take, length-take}
use Rattle.call.specs.Call.{Result}
use Rattle.call.specs.Promise.{stores, result_of}
use Rattle.call.specs.declared.Outcome.{Outcome}
use Rattle.call.specs.declared.Outcome.TheVariants.{Safe, Unsafe, GaveUp, Refused}
use Rattle.answer.specs.Answer.{verdict_lines, gave_up_line, refusal_line, call_lines}
use Rattle.answer.specs.Promise.{outcome_lines}

-- a front is no longer than its store
pub front_short : (count most : ℕ) (store front : List ℕ) → front ≡ take count store → length store ≤ most → length front ≤ most
front_short count most store front e h = rw e (simp length-take (omega arith))

module _ (o : Outcome) (states path : List ℕ) where
  -- the lines of each outcome
  pub safe_lines : {count questions : ℕ} {evidence : List ℕ} → o ≡ Safe count questions → evidence ≡ take count states
      → outcome_lines o states path ≡ verdict_lines 128 questions evidence
  unfolding call_lines
  safe_lines e f = rw (f, e)

  pub unsafe_lines : {count questions : ℕ} {evidence : List ℕ} → o ≡ Unsafe count questions → evidence ≡ take count path
      → outcome_lines o states path ≡ verdict_lines 144 questions evidence
  unfolding call_lines
  unsafe_lines e f = rw (f, e)

  pub gave_up_lines : {number questions : ℕ} → o ≡ GaveUp number questions → outcome_lines o states path ≡ gave_up_line number questions
  unfolding call_lines
  gave_up_lines e = rw e

  pub refusal_lines : {number : ℕ} → o ≡ Refused number → outcome_lines o states path ≡ refusal_line number 0
  unfolding call_lines
  refusal_lines e = rw e

  -- the level store does not matter
  pub levels_apart : (levels : List ℕ) (r : Result) → result_of o (stores states levels path) ≡ r → call_lines r ≡ outcome_lines o states path
  unfolding call_lines
  levels_apart levels r e = ap call_lines (sym e)

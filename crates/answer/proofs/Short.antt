-- No answer is longer than 13,359 bytes: a line of 21, and one of 13 for each of at most 1,026 states, as evidence is longer than the room by two at
-- most. Assumes nothing.
use Prim.Native.Nat.{ℕ, ◌+◌, ◌*◌, ◌≤◌}
use mathlib.Core.List.{List, [], ◌∷◌}
use mathlib.Core.Path.{◌≡◌, refl}
use native.Mathlib.Omega.{arith}
use lib.ListN.{length, length-append}
use Rattle.system.specs.System.{System}
use Rattle.call.specs.Call.{Stores, Said, says_safe, says_unsafe, gives_up, refuses, result}
use Rattle.call.proofs.Call.{called_evidence}
use Rattle.house.specs.File.{Said as Read, file, refused, said}
use Rattle.answer.specs.Output.{one, two, four}
use Rattle.answer.specs.Answer.{state_lines, verdict_lines, gave_up_line, refusal_line, call_lines, scan_stores, system_lines, clause_rooms, system_in, answered, said_lines}
use Rattle.answer.proofs.Lines.{line_length}

states_length : (kind : ℕ) (states : List ℕ) → length (state_lines kind states) ≡ 13 * length states
unfolding state_lines one two four
states_length kind [] = refl
states_length kind (s ∷ states) = simp (length-append, line_length) (omega (arith, states_length kind states))

verdict_short : (kind questions : ℕ) (evidence : List ℕ) → length evidence ≤ 1026 → length (verdict_lines kind questions evidence) ≤ 13359
unfolding verdict_lines one two four
verdict_short kind questions evidence h = simp (length-append, line_length, states_length) (omega arith)

pub refusal_short : (number line : ℕ) → length (refusal_line number line) ≤ 13359
unfolding refusal_line one two
refusal_short number line = simp (line_length) (omega arith)

gave_up_short : (number questions : ℕ) → length (gave_up_line number questions) ≤ 13359
unfolding gave_up_line one two four
gave_up_short number questions = simp (line_length) (omega arith)

call_short : (s : Said) (number questions : ℕ) (evidence : List ℕ) (after : Stores) → length evidence ≤ 1026
    → length (call_lines (result number s questions evidence after)) ≤ 13359
unfolding call_lines
call_short says_safe number questions evidence after h = verdict_short 128 questions evidence h
call_short says_unsafe number questions evidence after h = verdict_short 144 questions evidence h
call_short gives_up number questions evidence after h = gave_up_short number questions
call_short refuses number questions evidence after h = refusal_short number 0

room_1026 : length scan_stores.states + 2 ≡ 1026
unfolding scan_stores
room_1026 = refl

pub system_short : (y : System) → length (system_lines y) ≤ 13359
system_short y = call_short _ _ _ _ _ (omega (arith, called_evidence y scan_stores 1000000, room_1026))

pub answered_short : (text : List ℕ) → length (answered text) ≤ 13359
unfolding answered said_lines
answered_short text = pick (said clause_rooms text)
  where
    pick : (s : Read) → length (said_lines s) ≤ 13359
    pick (file r) = system_short (system_in r)
    pick (refused number line) = refusal_short number line

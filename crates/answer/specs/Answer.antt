-- The whole of `scan` as a definition: what it writes for every text.
use Rattle.std.specs.Prelude.{ℕ, suc, ◌+◌, ◌*◌, List, [], ◌∷◌, ◌++◌, length, replicate}
use Rattle.base.specs.Refusals.{most_clause_lines, scan_room, scan_allowance}
use Rattle.system.specs.System.{System, system_of}
use Rattle.call.specs.Call.{Stores, says_safe, says_unsafe, gives_up, refuses, Result, called}
use Rattle.call.specs.Promise.{stores}
use Rattle.house.specs.File.{Rooms, Reading, Said, file, refused, said}
use Rattle.answer.specs.Output.{line_of, one, two, four}

-- 80 (safe) or 90 (unsafe) with questions and number of evidence states, then one 81 or 91 line per state
unfoldable pub state_lines : ℕ → List ℕ → List ℕ
state_lines kind [] = []
state_lines kind (s ∷ states) = line_of (kind ∷ four s) ++ state_lines kind states

unfoldable pub verdict_lines : ℕ → ℕ → List ℕ → List ℕ
verdict_lines kind questions evidence = line_of (kind ∷ (four questions ++ four (length evidence))) ++ state_lines (suc kind) evidence

-- A0 with 5, 6 or 14 (one byte) and questions (four)
unfoldable pub gave_up_line : ℕ → ℕ → List ℕ
gave_up_line number questions = line_of (160 ∷ (one number ++ four questions))

-- F0 with the refusal (one byte) and line (two bytes, 0 for a refusal of the system)
unfoldable pub refusal_line : ℕ → ℕ → List ℕ
refusal_line number line = line_of (240 ∷ (one number ++ two line))

-- the answer of a call
unfoldable pub call_lines : Result → List ℕ
call_lines r =
    elim r.said [
      | says_safe ↦ verdict_lines 128 r.questions r.evidence
      | says_unsafe ↦ verdict_lines 144 r.questions r.evidence
      | gives_up ↦ gave_up_line r.number r.questions
      | refuses ↦ refusal_line r.number 0
    ]

-- stores with the room of `scan`
unfoldable pub scan_stores : Stores
scan_stores = stores (replicate scan_room 0) (replicate scan_room 0) (replicate (scan_room + 2) 0)

-- the answer of the search for a system
abbrev pub system_lines : System → List ℕ
system_lines y = call_lines (called y scan_stores scan_allowance)

-- clause stores that hold all clause lines of a file
abbrev pub clause_rooms : Rooms
clause_rooms = record { start = 4 * most_clause_lines; step = 4 * most_clause_lines; bad = 4 * most_clause_lines }

-- the system of a file, which has no wires
abbrev pub system_in : Reading → System
system_in r = system_of r.n 0 r.start r.step r.bad

unfoldable pub said_lines : Said → List ℕ
said_lines (file r) = system_lines (system_in r)
said_lines (refused number line) = refusal_line number line

-- THE ANSWER: reader, then search, then frames
unfoldable pub answered : List ℕ → List ℕ
answered text = said_lines (said clause_rooms text)

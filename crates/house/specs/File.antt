-- House files of the scope: what a text says, or the first refusal and its line.
use Rattle.std.specs.Prelude.{ℕ, suc, ◌+◌, Bool, true, false, ◌&&◌, List, [], ◌∷◌, ◌++◌, eqb, ltb, leb, length}
use Rattle.base.specs.Refusals.{most_clause_lines}
use Rattle.text.specs.Lines.{lines}
use Rattle.line.specs.Says.{Line, Size, Clause, Count, Wrong, says}

-- the lengths of the lent stores of start, step and bad, in masks
pub record Rooms : Type 0 where
  pub start : ℕ
  pub step : ℕ
  pub bad : ℕ

-- What was read so far. The stage is 0 before the 00 line, 1 behind it and behind a 01 line, 2 and 3 behind a 02 and a 03 line, 16 behind the 0F
-- line. `clauses` counts the clause lines.
pub record Reading : Type 0 where
  pub stage : ℕ
  pub n : ℕ
  pub clauses : ℕ
  pub start : List ℕ
  pub step : List ℕ
  pub bad : List ℕ

-- nothing was read
abbrev pub nothing : Reading
nothing = record { stage = 0; n = 0; clauses = 0; start = []; step = []; bad = [] }

-- what a line leads to: reading goes on, or a refusal
pub data Taken : Type 0 where
  on : Reading → Taken
  refuse : ℕ → Taken

-- a clause line's four masks: those of the bits, and two that want no wire
abbrev pub clause_of : ℕ → ℕ → List ℕ
clause_of ones zeros = ones ∷ (zeros ∷ (0 ∷ (0 ∷ [])))

-- room for one clause more
unfoldable pub has_room : ℕ → List ℕ → Bool
has_room room list = leb (length list + 4) room

-- the room of a kind's list, and the reading with one clause more in it
unfoldable pub room_for : Rooms → Reading → ℕ → Bool
room_for rooms r kind =
    elim (eqb kind 1) [
      | true ↦ has_room rooms.start r.start
      | false ↦ elim (eqb kind 2) [ true ↦ has_room rooms.step r.step | false ↦ has_room rooms.bad r.bad ]
    ]

unfoldable pub with_clause : Reading → ℕ → List ℕ → Reading
with_clause r kind clause =
    elim (eqb kind 1) [
      | true ↦ record { stage = 1; n = r.n; clauses = suc r.clauses; start = r.start ++ clause; step = r.step; bad = r.bad }
      | false ↦ elim (eqb kind 2) [
        | true ↦ record { stage = 2; n = r.n; clauses = suc r.clauses; start = r.start; step = r.step ++ clause; bad = r.bad }
        | false ↦ record { stage = 3; n = r.n; clauses = suc r.clauses; start = r.start; step = r.step; bad = r.bad ++ clause }
      ]
    ]

-- Where it leads what a line says by itself. Refusal 12: clause line number 1,025, or no room left; 13: count wrong.
abbrev pub taken_as : Rooms → Reading → Line → Taken
taken_as rooms r (Size n) = on (record { stage = 1; n = n; clauses = r.clauses; start = r.start; step = r.step; bad = r.bad })
taken_as rooms r (Clause kind ones zeros) =
    elim (ltb r.clauses most_clause_lines && room_for rooms r kind) [ true ↦ on (with_clause r kind (clause_of ones zeros)) | false ↦ refuse 12 ]
taken_as rooms r (Count count) =
    elim (eqb count r.clauses) [
      | true ↦ on (record { stage = 16; n = r.n; clauses = r.clauses; start = r.start; step = r.step; bad = r.bad })
      | false ↦ refuse 13
    ]
taken_as rooms r (Wrong number) = refuse number

-- a line
abbrev pub line_taken : Rooms → Reading → List ℕ → Taken
line_taken rooms r line = taken_as rooms r (says line r.stage)

-- what a text says: everything that was read, or the refusal and its line
pub data Said : Type 0 where
  file : Reading → Said
  refused : ℕ → ℕ → Said

-- The lines from line k on. A file that stops before 0F is refused with 10 at the line after its last.
unfoldable pub read_lines : Rooms → List (List ℕ) → ℕ → Reading → Said
read_lines rooms [] k r = elim (eqb r.stage 16) [ true ↦ file r | false ↦ refused 10 k ]
read_lines rooms (line ∷ rest) k r = elim (line_taken rooms r line) [ on r' ↦ read_lines rooms rest (suc k) r' | refuse number ↦ refused number k ]

-- THE READER
unfoldable pub said : Rooms → List ℕ → Said
said rooms text = read_lines rooms (lines text) 1 nothing

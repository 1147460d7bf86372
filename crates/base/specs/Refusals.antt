-- Refusals by number, tested in a given order, and the limits. 0 is no refusal.
use Rattle.std.specs.Prelude.{ℕ, zero, suc, Bool, true, false}

infix 15 ◌if◌
infixr 14 ◌else◌
-- the refusal of this number, if the test is true
abbrev pub ◌if◌ : ℕ → Bool → ℕ
number if true = number
number if false = 0

-- the first of two that is a refusal
abbrev pub ◌else◌ : ℕ → ℕ → ℕ
zero else next = next
suc first else next = suc first

-- at most so many clauses in a list, states in the state store, clause lines in a file, digits in a line; and room and allowance of `scan`
abbrev pub most_clauses : ℕ
most_clauses = 4096

abbrev pub most_stored : ℕ
most_stored = 65536

abbrev pub most_clause_lines : ℕ
most_clause_lines = 1024

abbrev pub most_digits : ℕ
most_digits = 36

abbrev pub scan_room : ℕ
scan_room = 1024

abbrev pub scan_allowance : ℕ
scan_allowance = 1000000

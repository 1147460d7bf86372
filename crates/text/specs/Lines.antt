-- A text in lines, each ended by a line feed.
use Rattle.std.specs.Prelude.{ℕ, ◌+◌, ◌≤◌, true, false, List, [], ◌∷◌, ◌≡◌, eqb, length, take, drop}

-- a byte in front of the lines of what follows it
unfoldable pub before : ℕ → List (List ℕ) → List (List ℕ)
before b [] = (b ∷ []) ∷ []
before b (l ∷ ls) = (b ∷ l) ∷ ls

-- the lines of a text, each with its line feed, 10; the last may lack it
unfoldable pub lines : List ℕ → List (List ℕ)
lines [] = []
lines (b ∷ bs) = elim (eqb b 10) [ true ↦ (b ∷ []) ∷ lines bs | false ↦ before b (lines bs) ]

-- how many bytes the first line of a text has, 0 if there is none
unfoldable pub line_length : List ℕ → ℕ
line_length text = elim (lines text) [ [] ↦ 0 | l ∷ ls ↦ length l ]

-- the line that starts at index i has `len` bytes
pub record LineAt (text : List ℕ) (i len : ℕ) : Type 0 where
  pub filled : 1 ≤ len
  pub within : i + len ≤ length text
  pub first : lines (drop i text) ≡ take len (drop i text) ∷ lines (drop (i + len) text)

-- Frames written out: lines of capital hexadecimal, each with its sum byte and a line feed.
use Rattle.std.specs.Prelude.{ℕ, ◌+◌, ◌-◌, ◌/◌, ◌%◌, ◌^◌, true, false, List, [], ◌∷◌, ◌++◌, ltb}
use Rattle.line.specs.Text.{sum}

-- the byte of a digit, 0-9 or A-F
unfoldable pub letter : ℕ → ℕ
letter d = elim (ltb d 10) [ true ↦ 48 + d | false ↦ 55 + d ]

-- two digits for each byte
unfoldable pub digits : List ℕ → List ℕ
digits [] = []
digits (b ∷ bs) = letter (b / 16) ∷ (letter (b % 16) ∷ digits bs)

-- the last byte of a frame: it makes the sum of all bytes a multiple of 256
unfoldable pub sum_byte : List ℕ → ℕ
sum_byte frame = (256 - sum frame % 256) % 256

-- the line of a frame
unfoldable pub line_of : List ℕ → List ℕ
line_of frame = digits frame ++ (digits (sum_byte frame ∷ []) ++ (10 ∷ []))

-- a number in one, two and four bytes, the high byte first
unfoldable pub one : ℕ → List ℕ
one x = x % 256 ∷ []

unfoldable pub two : ℕ → List ℕ
two x = x / 2 ^ 8 % 256 ∷ one x

unfoldable pub four : ℕ → List ℕ
four x = x / 2 ^ 24 % 256 ∷ (x / 2 ^ 16 % 256 ∷ two x)

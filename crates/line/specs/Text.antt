-- From lines to frames: lines of capital hexadecimal, each ended by a line feed, one frame a line.
use Rattle.std.specs.Prelude.{ℕ, ◌+◌, ◌-◌, ◌*◌, true, false, ◌&&◌, List, [], ◌∷◌, eqb, ltb, leb}
use Rattle.std.proofs.Math.Option.{Option, none, some}

-- the value of a digit, 0-9 or A-F; of any other byte, 16
unfoldable pub digit : ℕ → ℕ
digit c =
    elim (leb 48 c && leb c 57) [
      | true ↦ c - 48
      | false ↦ elim (leb 65 c && leb c 70) [ true ↦ c - 55 | false ↦ 16 ]
    ]

-- a byte in front of a frame, if there is one
unfoldable pub ahead : ℕ → Option (List ℕ) → Option (List ℕ)
ahead b none = none
ahead b (some frame) = some (b ∷ frame)

-- the bytes that the pairs of digits of a line make, if it is nothing but such pairs and a line feed
unfoldable pub bytes : List ℕ → Option (List ℕ)
bytes [] = none
bytes (c ∷ []) = elim (eqb c 10) [ true ↦ some [] | false ↦ none ]
bytes (h ∷ (l ∷ rest)) = elim (ltb (digit h) 16 && ltb (digit l) 16) [ true ↦ ahead (16 * digit h + digit l) (bytes rest) | false ↦ none ]

-- the sum of all bytes
unfoldable pub sum : List ℕ → ℕ
sum [] = 0
sum (b ∷ bs) = b + sum bs

-- a number, the high byte first, behind what was read of it
unfoldable pub number : ℕ → List ℕ → ℕ
number high [] = high
number high (b ∷ bs) = number (256 * high + b) bs

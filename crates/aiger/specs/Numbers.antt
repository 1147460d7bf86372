-- A line of decimal numbers: one or more digits each, leading zeros allowed, exactly one blank between, a line feed behind the last. Each is below
-- 2^32.
use Rattle.std.specs.Prelude.{ℕ, ◌+◌, ◌-◌, ◌*◌, ◌^◌, Bool, true, false, ◌&&◌, List, [], ◌∷◌, eqb, ltb, leb, length}
use Rattle.std.proofs.Math.Option.{Option, none, some}

-- 0-9
unfoldable pub is_digit : ℕ → Bool
is_digit c = leb 48 c && leb c 57

-- a number in front of others, if there are any
unfoldable pub ahead : ℕ → Option (List ℕ) → Option (List ℕ)
ahead x none = none
ahead x (some xs) = some (x ∷ xs)

-- The numbers in the rest of a line, where `begun` says that a digit of the first one was read, and `value` what it is so far.
unfoldable pub numbers_from : Bool → ℕ → List ℕ → Option (List ℕ)
numbers_from begun value [] = none
numbers_from begun value (c ∷ cs) =
    elim (is_digit c) [
      | true ↦ numbers_from true (10 * value + (c - 48)) cs
      | false ↦ elim (begun && ltb value (2 ^ 32)) [
        | true ↦ elim (eqb c 32) [
          | true ↦ ahead value (numbers_from false 0 cs)
          | false ↦ elim (eqb c 10 && eqb (length cs) 0) [ true ↦ some (value ∷ []) | false ↦ none ]
        ]
        | false ↦ none
      ]
    ]

-- the numbers of a line, if it is nothing else
unfoldable pub numbers : List ℕ → Option (List ℕ)
numbers line = numbers_from false 0 line

-- What a line of a house file says by itself, behind a stage: the size, a clause, the count of clause lines, or the number of what is wrong with it.
use Rattle.std.specs.Prelude.{ℕ, zero, suc, ◌+◌, ◌*◌, ◌/◌, ◌%◌, Bool, true, false, ◌&&◌, ◌||◌, List, eqb, ltb, leb, length, get_or, take, drop}
use Rattle.std.proofs.Math.Option.{none, some}
use Rattle.base.specs.Refusals.{most_digits}
use Rattle.line.specs.Text.{bytes, sum, number}

-- the size; a clause of a kind, its bits wanted 1 and 0; the count of clause lines; or the number of what is wrong
pub data Line : Type 0 where
  Size : ℕ → Line
  Clause : ℕ → ℕ → ℕ → Line
  Count : ℕ → Line
  Wrong : ℕ → Line

-- a kind is known and in its place: one 00 line, then 01 lines, 02 lines, 03 lines, one 0F line, nothing after
unfoldable pub in_place : ℕ → ℕ → Bool
in_place zero kind = eqb kind 0
in_place (suc s) kind = leb (suc s) kind && ((leb 1 kind && leb kind 3) || eqb kind 15)

-- how many bytes a mask of this kind has: later bits stand in a step alone
unfoldable pub width : ℕ → ℕ
width kind = elim (eqb kind 2) [ true ↦ 8 | false ↦ 4 ]

-- how many bytes a frame of this kind has, with its kind and its sum byte
unfoldable pub length_for : ℕ → ℕ
length_for kind = elim (eqb kind 0) [ true ↦ 3 | false ↦ elim (eqb kind 15) [ true ↦ 4 | false ↦ 2 + 2 * width kind ] ]

-- the number in `count` bytes of a frame, from index i on
unfoldable pub field : List ℕ → ℕ → ℕ → ℕ
field frame i count = number 0 (take count (drop i frame))

-- A frame of a kind that is in place, of the right length.
unfoldable pub content : ℕ → List ℕ → Line
content kind frame =
    elim (eqb kind 0) [
      | true ↦ Size (get_or frame 1 0)
      | false ↦ elim (eqb kind 15) [
        | true ↦ Count (field frame 1 2)
        | false ↦ Clause kind (field frame 1 (width kind)) (field frame (1 + width kind) (width kind))
      ]
    ]

-- A frame. Refusal 9: sum wrong; 10: kind unknown or out of place; 11: length wrong for the kind.
unfoldable pub frame_says : List ℕ → ℕ → Line
frame_says frame stage =
    elim (eqb (sum frame % 256) 0) [
      | true ↦ elim (in_place stage (get_or frame 0 0)) [
        | true ↦ elim (eqb (length frame) (length_for (get_or frame 0 0))) [ true ↦ content (get_or frame 0 0) frame | false ↦ Wrong 11 ]
        | false ↦ Wrong 10
      ]
      | false ↦ Wrong 9
    ]

-- A line. Refusal 8: not pairs of 0-9 A-F with a line feed, empty, or over 36 digits.
unfoldable pub says : List ℕ → ℕ → Line
says line stage =
    elim (bytes line) [
      | none ↦ Wrong 8
      | some frame ↦ elim (eqb (length frame) 0 || ltb (most_digits / 2) (length frame)) [ true ↦ Wrong 8 | false ↦ frame_says frame stage ]
    ]

-- What stands behind the first 37,999 bytes of a text does not matter: 1,027 lines can be taken or refused, and a line of more than 37 bytes is refused with
-- 8, whole or cut off. By the lines that can still be taken. Assumes nothing.
use Prim.Native.Nat.{ℕ, zero, suc, ◌+◌, ◌-◌, ◌*◌, ◌≤◌, ◌<◌}
use mathlib.Core.List.{List, [], ◌∷◌}
use mathlib.Core.Path.{◌≡◌, refl, ap}
use native.Mathlib.Omega.{arith}
use borrow.Author.Tests.{ltb-true, ltb-false}
use lib.Dec.{ltb}
use lib.ListN.{length, take}
use Rattle.base.proofs.Tests.{test}
use Rattle.text.specs.Lines.{lines}
use Rattle.text.proofs.Cut.{Feedless, First, take_none, first_line}
use Rattle.line.proofs.Frames.{form}
use Rattle.line.proofs.Malformed.{malformed}
use Rattle.house.specs.File.{Rooms, Reading, Taken, on, refuse, taken_as, line_taken, read_lines, nothing, said}
use Rattle.house.proofs.Limits.{left, Onward, line_onward}

module _ (rooms : Rooms) where
  -- lines that are refused with 8
  long_refused : (r : Reading) (l : List ℕ) → 37 < length l → line_taken rooms r l ≡ refuse 8
  long_refused r l h = ap (taken_as rooms r) (malformed l r.stage (λ frame e a b. omega (arith, (form l frame e).size)))

  feedless_refused : (r : Reading) (l : List ℕ) → Feedless l → line_taken rooms r l ≡ refuse 8
  feedless_refused r l f =
      ap (taken_as rooms r)
      (malformed l r.stage (λ frame e a b. f (2 * length frame) (omega (arith, (form l frame e).size)) (form l frame e).last))

  -- two texts whose first lines are refused, or are one line with rests that say the same
  same_refused : (r : Reading) (k number : ℕ) (l l' : List ℕ) (ls ls' : List (List ℕ)) → line_taken rooms r l ≡ refuse number
      → line_taken rooms r l' ≡ refuse number → read_lines rooms (l ∷ ls) k r ≡ read_lines rooms (l' ∷ ls') k r
  unfolding read_lines
  same_refused r k number l l' ls ls' e f = rw (e, f, read_lines)

  same_taken : (r r' : Reading) (k : ℕ) (l : List ℕ) (ls ls' : List (List ℕ)) → line_taken rooms r l ≡ on r'
      → read_lines rooms ls (suc k) r' ≡ read_lines rooms ls' (suc k) r' → read_lines rooms (l ∷ ls) k r ≡ read_lines rooms (l ∷ ls') k r
  unfolding read_lines
  same_taken r r' k l ls ls' e f = rw (e, read_lines) f

  -- one line, if a cut text says the same from each reading on that can take fewer lines
  module _ (k : ℕ) (r : Reading) (most : ℕ) (g : 37 * (left r + 1) ≤ most)
      (again : (r' : Reading) (rest : List ℕ) (more : ℕ) → left r' < left r → 37 * (left r' + 1) ≤ more
      → read_lines rooms (lines rest) (suc k) r' ≡ read_lines rooms (lines (take more rest)) (suc k) r') where
    line_within : (line rest : List ℕ) (more : ℕ) → most ≡ length line + more → (t : Taken) → line_taken rooms r line ≡ t → Onward r (length line) t
        → read_lines rooms (line ∷ lines rest) k r ≡ read_lines rooms (line ∷ lines (take more rest)) k r
    line_within line rest more e (refuse number) f o = same_refused r k number line line _ _ f f
    line_within line rest more e (on r') f o =
        same_taken r r' k line _ _ f (again r' rest more (omega (arith, o.0)) (omega (arith, o.0, o.1)))

    line_cut : (text : List ℕ) → First text → read_lines rooms (lines text) k r ≡ read_lines rooms (lines (take most text)) k r
    line_cut text w =
        rw w.first
        (test (ltb most (length w.line))
        (λ e.
        let over = ltb-true most (length w.line) e in
        let c = w.beyond most (omega (arith, g)) over in
        rw c.0
        (same_refused r k 8 w.line (take most w.line) _ _
        (long_refused r w.line (omega (arith, g, over)))
        (feedless_refused r (take most w.line) c.1)))
        (λ e.
        let more = most - length w.line in
        let m : most ≡ length w.line + more = omega (arith, ltb-false most (length w.line) e) in
        rw (w.within most more m) (line_within w.line w.rest more m (line_taken rooms r w.line) refl (line_onward rooms r w.line))))

    text_cut : (text : List ℕ) → read_lines rooms (lines text) k r ≡ read_lines rooms (lines (take most text)) k r
    text_cut [] = rw (take_none most)
    text_cut (b ∷ bs) = line_cut (b ∷ bs) (first_line b bs)

  lines_cut : (n : ℕ) (text : List ℕ) (k : ℕ) (r : Reading) (most : ℕ) → left r < n → 37 * (left r + 1) ≤ most
      → read_lines rooms (lines text) k r ≡ read_lines rooms (lines (take most text)) k r
  lines_cut zero text k r most h g = absurd (omega arith)
  lines_cut (suc n) text k r most h g =
      text_cut k r most g (λ r' rest more l f. lines_cut n rest (suc k) r' more (omega arith) f) text

  pub said_cut : (text : List ℕ) → said rooms text ≡ said rooms (take 37999 text)
  unfolding said left
  said_cut text = lines_cut 1027 text 1 nothing 37999 (omega arith) (omega arith)

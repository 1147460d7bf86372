-- A line as code writes it: byte by byte while the sum is kept, then the sum byte and the line feed. Each digit is one byte, so the length of every
-- line is known. Assumes nothing.
use Prim.Native.Nat.{ℕ, ◌+◌, ◌-◌, ◌*◌, ◌/◌, ◌%◌, ◌<◌}
use mathlib.Core.List.{List, [], ◌∷◌, ◌++◌}
use mathlib.Core.Path.{◌≡◌, refl, sym}
use native.Mathlib.Numerals.{add-one}
use native.Mathlib.Omega.{arith}
use lib.ListN.{length, get_or, take, length-append}
use lib.Seq.{take-suc}
use Rattle.text.proofs.Laying.{writes_then}
use Rattle.text.specs.Writing.{Writes}
use Rattle.line.specs.Text.{sum}
use Rattle.answer.specs.Output.{letter, digits, sum_byte, line_of}

-- ---- bytes
digits_append : (v w : List ℕ) → digits (v ++ w) ≡ digits v ++ digits w
unfolding digits
digits_append [] w = refl
digits_append (b ∷ v) w = rw (digits_append v w)

digits_length : (w : List ℕ) → length (digits w) ≡ 2 * length w
unfolding digits
digits_length [] = refl
digits_length (b ∷ w) = omega (arith, digits_length w)

sum_append : (w : List ℕ) (b : ℕ) → sum (w ++ (b ∷ [])) ≡ sum w + b
unfolding sum
sum_append [] b = omega arith
sum_append (x ∷ w) b = omega (arith, sum_append w b)

-- the two digits of a byte
pub writes_digits : (b : ℕ) {i a a' r r' : ℕ} {before after after' : List ℕ} → a ≡ letter (b / 16) → a' ≡ letter (b % 16)
    → Writes i (a ∷ []) before r after → Writes r (a' ∷ []) after r' after' → Writes i (digits (b ∷ [])) before r' after'
unfolding digits
writes_digits b e e' first second = rw (← e, ← e') (writes_then first second)

pub digits_end : (b : ℕ) {i r : ℕ} {before after : List ℕ} → Writes i (digits (b ∷ [])) before r after → r ≡ i + 2
unfolding digits
digits_end b w = w.end

-- ---- one byte of a frame more
module _ (frame : List ℕ) (j : ℕ) (h : j < length frame) where
  pub sum_more : (s : ℕ) → s ≡ sum (take j frame) → s + get_or frame j 0 ≡ sum (take (j + 1) frame)
  sum_more s e = rw (e, add-one j, take-suc frame j 0 h) (sym (sum_append (take j frame) (get_or frame j 0)))

  pub line_more : {i r r' : ℕ} {before after after' : List ℕ} → Writes i (digits (take j frame)) before r after
      → Writes r (digits (get_or frame j 0 ∷ [])) after r' after' → Writes i (digits (take (j + 1) frame)) before r' after'
  line_more first second = rw (add-one j, take-suc frame j 0 h, digits_append) (writes_then first second)

-- sum byte and line feed, where w is the whole frame
pub line_ended : {i s r r' r'' : ℕ} {frame before after after' after'' : List ℕ} (w : List ℕ) → w ≡ frame → s ≡ sum w
    → Writes i (digits w) before r after → Writes r (digits ((256 - s % 256) % 256 ∷ [])) after r' after' → Writes r' (10 ∷ []) after' r'' after''
    → Writes i (line_of frame) before r'' after''
unfolding line_of sum_byte
line_ended w e f first second third = rw (← e) (rw (← f) (writes_then first (writes_then second third)))

pub line_length : (frame : List ℕ) → length (line_of frame) ≡ 2 * length frame + 3
unfolding line_of
line_length frame = simp (length-append, digits_length) (omega arith)

-- where a line ends
pub line_end : (frame : List ℕ) {i r : ℕ} {before after : List ℕ} → Writes i (line_of frame) before r after → r ≡ i + (2 * length frame + 3)
line_end frame w = omega (arith, w.end, line_length frame)

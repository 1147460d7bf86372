-- The first line of a text, byte by byte: a line feed ends it, and any other byte stands in front of the first line of the rest. So the first line is
-- the front of the text, and the other lines are those of what stands behind it. Assumes nothing.
use Prim.Native.Nat.{ℕ, suc, ◌+◌, ◌≤◌, ◌<◌}
use mathlib.Core.List.{List, [], ◌∷◌}
use mathlib.Core.Logic.{⊎_elim}
use mathlib.Core.Path.{◌≡◌, refl, sym, ap, ◌∙◌}
use native.Mathlib.Numerals.{add-one}
use native.Mathlib.Omega.{arith}
use borrow.Author.Tests.{eq-eqb, ne_eqb}
use lib.ListN.{length, get_or, take, drop, length-drop, drop_of_length-le}
use lib.Seq.{drop-drop, drop-cons}
use Rattle.base.proofs.Tests.{lt_or_ge, eq_or_ne}
use Rattle.text.specs.Lines.{before, lines, line_length, LineAt}

-- ---- a byte and the first line behind it
pub length_none : line_length [] ≡ 0
unfolding line_length lines
length_none = refl

pub length_feed : (b : ℕ) (bs : List ℕ) → b ≡ 10 → line_length (b ∷ bs) ≡ 1
unfolding line_length lines
length_feed b bs e = rw (eq-eqb b 10 e, lines, line_length)

-- the length of the first of some lines
abbrev first_of : List (List ℕ) → ℕ
first_of [] = 0
first_of (l ∷ ls) = length l

first_before : (b : ℕ) (ls : List (List ℕ)) → first_of (before b ls) ≡ suc (first_of ls)
unfolding before
first_before b [] = refl
first_before b (l ∷ ls) = refl

length_first : (text : List ℕ) → line_length text ≡ first_of (lines text)
unfolding line_length
length_first text = by_lines (lines text)
  where
    by_lines : (ls : List (List ℕ)) → (elim ls [ [] ↦ 0 | l ∷ ms ↦ length l ]) ≡ first_of ls
    by_lines [] = refl
    by_lines (l ∷ ms) = refl

lines_other : (b : ℕ) (bs : List ℕ) → (b ≡ 10 → ⊥) → lines (b ∷ bs) ≡ before b (lines bs)
unfolding lines
lines_other b bs f = rw (ne_eqb b 10 f, lines)

pub length_other : (b : ℕ) (bs : List ℕ) → (b ≡ 10 → ⊥) → line_length (b ∷ bs) ≡ suc (line_length bs)
length_other b bs f =
    length_first (b ∷ bs) ∙ ap first_of (lines_other b bs f) ∙ first_before b (lines bs) ∙ ap suc (sym (length_first bs))

-- ---- the first line is the front of the text
-- a text that is not empty: its first line has this many bytes
pub record Front (text : List ℕ) (len : ℕ) : Type 0 where
  pub filled : 1 ≤ len
  pub within : len ≤ length text
  pub first : lines text ≡ take len text ∷ lines (drop len text)

front_feed : (b : ℕ) (bs : List ℕ) → b ≡ 10 → Front (b ∷ bs) 1
unfolding lines
front_feed b bs e = record { filled = omega arith; within = omega arith; first = rw (eq-eqb b 10 e, lines) }

front_last : (b : ℕ) → (b ≡ 10 → ⊥) → Front (b ∷ []) 1
unfolding lines before
front_last b f = record { filled = omega arith; within = omega arith; first = rw (ne_eqb b 10 f, lines) }

front_more : (b : ℕ) (bs : List ℕ) (m : ℕ) → (b ≡ 10 → ⊥) → Front bs m → Front (b ∷ bs) (suc m)
unfolding before
front_more b bs m f h =
    record { filled = omega arith; within = omega (arith, h.within); first = lines_other b bs f ∙ rw (h.first, before) }

front : (b : ℕ) (bs : List ℕ) → Front (b ∷ bs) (line_length (b ∷ bs))
front b [] = ⊎_elim (λ e. rw (length_feed b [] e) (front_feed b [] e)) (λ f. rw (length_other b [] f, length_none) (front_last b f)) (eq_or_ne b 10)
front b (c ∷ cs) =
    ⊎_elim (λ e. rw (length_feed b (c ∷ cs) e) (front_feed b (c ∷ cs) e))
    (λ f. rw (length_other b (c ∷ cs) f) (front_more b (c ∷ cs) _ f (front c cs))) (eq_or_ne b 10)

-- ---- the same from an index on
-- a text that has ended has no line
pub length_ended : (text : List ℕ) (i : ℕ) → length text ≤ i → line_length (drop i text) ≡ 0
length_ended text i h = rw (drop_of_length-le text h) length_none

pub length_feed_at : (text : List ℕ) (i : ℕ) → i < length text → get_or text i 0 ≡ 10 → line_length (drop i text) ≡ 1
length_feed_at text i h e = rw (drop-cons text i 0) (length_feed _ _ e)

pub length_other_at : (text : List ℕ) (i : ℕ) → i < length text → (get_or text i 0 ≡ 10 → ⊥)
    → line_length (drop i text) ≡ line_length (drop (i + 1) text) + 1
length_other_at text i h f = rw (drop-cons text i 0, add-one i, add-one) (length_other _ _ f)

pub line_at : (text : List ℕ) (i : ℕ) → i < length text → LineAt text i (line_length (drop i text))
line_at text i h =
    let f : Front (drop i text) (line_length (drop i text)) = rw (drop-cons text i 0) (front _ _) in
    record {
      filled = f.filled;
      within = omega (arith, f.within, length-drop i text);
      first = rw (← drop-drop (line_length (drop i text)) i text) f.first;
    }

-- the place behind a line is an index of the text or its end, or where it was
pub line_end : (text : List ℕ) (i bound : ℕ) → i < bound → length text < bound → i + line_length (drop i text) < bound
line_end text i bound h k =
    ⊎_elim (λ l. omega (arith, (line_at text i l).within)) (λ g. omega (arith, length_ended text i g)) (lt_or_ge i (length text))

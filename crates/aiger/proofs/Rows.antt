-- The rows of a part. A row is put in front of what follows it, one piece behind another. Three numbers tell whether a line of up to three is of the
-- form, since 0 is never above the largest literal. A part goes line by line, so a whole one has three numbers for each line and ends so many lines
-- behind its first. Assumes nothing.
use Prim.Native.Nat.{ℕ, zero, suc, ◌+◌, ◌-◌, ◌*◌, ◌%◌, ◌≤◌, ◌<◌}
use mathlib.Core.Bool.{Bool, true, false, not, ◌&&◌, ◌||◌, and-true, and_assoc, or-false}
use mathlib.Core.List.{List, [], ◌∷◌, ◌++◌, append_assoc}
use mathlib.Core.Logic.{⊎_elim}
use mathlib.Core.Option.{Option, none, some}
use mathlib.Core.Path.{◌≡◌, refl, sym, ap, ◌∙◌}
use native.Mathlib.Omega.{arith}
use borrow.Author.Tests.{eqb-true, eq-eqb, ne_eqb}
use lib.Dec.{eqb, ltb, leb}
use lib.ListN.{length, get_or, take, drop, replicate, length-replicate, drop_of_length-le, get_or-eq_default}
use Rattle.std.specs.Prelude as Std
use Rattle.std.specs.Prelude.{None, Some}
use Rattle.base.proofs.Tests.{test, both, clash, lt_or_ge}
use Rattle.text.specs.Lines.{lines, line_length}
use Rattle.text.specs.Writing.{laid}
use Rattle.text.proofs.Lines.{line_at, line_end, length_ended}
use Rattle.circuit.specs.Circuit.{every}
use Rattle.aiger.specs.Numbers.{numbers}
use Rattle.aiger.specs.Text.{defining, fits, three, row_of, Part, broken, whole, with_row, part, threes}
use Rattle.aiger.specs.Inner.{Found, Numbered, row_list, Fine, count_fits, TakesLine, Low}
use Rattle.aiger.specs.declared.part.Line.{Line}
use Rattle.aiger.specs.declared.part.Form.{Form}
use Rattle.aiger.proofs.Numbering.{none_clash, numbers_none}

-- ---- rows in front of others
pub with_none : (p : Part) → with_row [] p ≡ p
unfolding with_row
with_none (broken k) = refl
with_none (whole rows k ls) = refl

pub with_both : (a b : List ℕ) (p : Part) → with_row a (with_row b p) ≡ with_row (a ++ b) p
unfolding with_row
with_both a b (broken k) = refl
with_both a b (whole rows k ls) = rw append_assoc

-- ---- whether a row is of the form
-- each of the literals, of which there are so many, is small enough
abbrev small : ℕ → ℕ → ℕ → ℕ → ℕ → Bool
small most width a b c = (leb a most && (ltb width 2 || leb b most)) && (ltb width 3 || leb c most)

abbrev pub low : Form → ℕ → ℕ → ℕ → Bool
low f a b c = small f.most f.width a b c

abbrev pub starts : Form → ℕ → Bool
starts f a = not f.defines || defining a

take_small : (most width : ℕ) (xs : List ℕ) → 1 ≤ width → width ≤ 3 → width ≤ length xs
    → every (λ x. leb x most) (take width xs) ≡ small most width (get_or xs 0 0) (get_or xs 1 0) (get_or xs 2 0)
unfolding every
take_small m zero xs h l e = absurd (omega arith)
take_small m (suc zero) [] h l e = absurd (omega arith)
take_small m (suc zero) (x ∷ xs) h l e = sym (and-true (leb x m && true))
take_small m (suc (suc zero)) [] h l e = absurd (omega arith)
take_small m (suc (suc zero)) (x ∷ []) h l e = absurd (omega arith)
take_small m (suc (suc zero)) (x ∷ (y ∷ xs)) h l e = sym (and_assoc (leb x m) (leb y m) true)
take_small m (suc (suc (suc zero))) [] h l e = absurd (omega arith)
take_small m (suc (suc (suc zero))) (x ∷ []) h l e = absurd (omega arith)
take_small m (suc (suc (suc zero))) (x ∷ (y ∷ [])) h l e = absurd (omega arith)
take_small m (suc (suc (suc zero))) (x ∷ (y ∷ (z ∷ xs))) h l e = rw (and-true (leb z m)) (sym (and_assoc (leb x m) (leb y m) (leb z m)))
take_small m (suc (suc (suc (suc w)))) xs h l e = absurd (omega arith)

-- a line that has as many numbers as its form has at least that many literals
count_least : (f : Form) (count : ℕ) → count_fits f count ≡ true → f.width ≤ count
unfolding count_fits
count_least f count e =
    test (eqb count f.width)
    (λ q. omega (arith, eqb-true count f.width q))
    (λ q. omega (arith, eqb-true count (f.width + 1) (both f.starts (eqb count (f.width + 1)) (rw q at e)).1))

-- numbers of which there are so many, and three of them, are of the form or not
pub record Fitting (form : Form) (count a b c : ℕ) (r : Bool) : Type 0 where
  pub fits : (xs : List ℕ) → length xs ≡ count → count ≤ 3 → three xs ≡ a ∷ (b ∷ (c ∷ [])) → r ≡ fits form xs

module _ {form : Form} {count a b c : ℕ} (fine : Fine form) where
  row_fits : {r : Bool} → r ≡ (count_fits form count && (starts form a && low form a b c)) → Fitting form count a b c r
  unfolding fits count_fits
  row_fits {r} e =
      record {
        fits = λ xs l h t.
            let p : get_or xs 0 0 ≡ a = cc in
            let q : get_or xs 1 0 ≡ b = cc in
            let s : get_or xs 2 0 ≡ c = cc in
            e ∙ test (count_fits form count)
            (λ n. rw (l, take_small form.most form.width xs fine.some_number fine.width (omega (arith, count_least form count n)), p, q, s))
            (λ n. rw (l, n));
      }

  -- the tests in the order of the code: how many there are, whether the first defines a variable, and the size of each
  pub fits_other : count_fits form count ≡ false → Fitting form count a b c false
  fits_other f = row_fits (rw f)

  pub fits_start : count_fits form count ≡ true → starts form a ≡ false → Fitting form count a b c false
  fits_start e f = row_fits (rw (e, f))

  pub fits_low : {r : Bool} → count_fits form count ≡ true → starts form a ≡ true → r ≡ low form a b c → Fitting form count a b c r
  fits_low e f g = row_fits (rw (e, f) g)

pub odd_start : (a : ℕ) → (a % 2 ≡ 0 → ⊥) → defining a ≡ false
unfolding defining
odd_start a f = rw (ne_eqb (a % 2) 0 f)

pub even_start : (a : ℕ) → a % 2 ≡ 0 → defining a ≡ not (eqb a 0)
unfolding defining
even_start a e = rw (eq-eqb (a % 2) 0 e)

-- ---- numbers laid over zeros
zeros : (n k : ℕ) → ◌≡◌ {A = ℕ} (get_or (replicate n 0) k 0) 0
zeros zero k = refl
zeros (suc n) zero = refl
zeros (suc n) (suc k) = zeros n k

pub laid_zeros : (n : ℕ) (xs : List ℕ) (k : ℕ) → length xs ≤ n → get_or (laid 0 xs (replicate n 0)) k 0 ≡ get_or xs k 0
unfolding laid
laid_zeros zero [] k h = refl
laid_zeros zero (x ∷ xs) k h = absurd (omega arith)
laid_zeros (suc n) [] k h = zeros (suc n) k
laid_zeros (suc n) (x ∷ xs) zero h = refl
laid_zeros (suc n) (x ∷ xs) (suc k) h = laid_zeros n xs k (omega arith)

-- numbers that were found: read by index, the store has them, and 0 behind the last
pub found_at : {line : List ℕ} (n : ℕ) {count : ℕ} {store : List ℕ} (g : Found line (replicate n 0) count store) (k : ℕ)
    → get_or store k 0 ≡ get_or g.xs k 0
found_at n g k = ap (λ l. get_or l k 0) g.content ∙ laid_zeros n g.xs k (omega (arith, g.count, g.fits, length-replicate {A = ℕ} n 0))

-- ---- a line's row
-- what a line without numbers, and one with numbers, has for a row
pub row_none : (f : Form) (line : List ℕ) → numbers line ≡ none → row_of f line ≡ none
unfolding row_of
row_none f line e = rw (e, row_of)

pub row_wrong : (f : Form) (line : List ℕ) {xs : List ℕ} → numbers line ≡ some xs → fits f xs ≡ false → row_of f line ≡ none
unfolding row_of
row_wrong f line e w = rw (e, row_of, w)

pub row_right : (f : Form) (line : List ℕ) {xs : List ℕ} → numbers line ≡ some xs → fits f xs ≡ true → row_of f line ≡ some (three xs)
unfolding row_of
row_right f line e w = rw (e, row_of, w)

-- more numbers than three are of no form
fits_more : (f : Form) (xs : List ℕ) → f.width ≤ 3 → (f.starts ≡ true → f.width ≤ 2) → 3 < length xs → fits f xs ≡ false
unfolding fits
fits_more f xs h s l =
    rw (ne_eqb (length xs) f.width (omega arith))
    (test f.starts (λ e. rw (e, ne_eqb (length xs) (f.width + 1) (omega (arith, s e)))) (λ e. rw e))

-- a line that was read and tested
module _ {f : Form} (fine : Fine f) (line : Line) where
  pub takes_none : line.count ≡ None → TakesLine f line false
  takes_none e =
      record { right = λ t. clash t refl; wrong = λ t bytes found r n. by_numbers bytes n (numbers bytes) refl }
    where
      by_numbers : (bytes : List ℕ) {found : List ℕ} → Numbered bytes (replicate 3 0) line.count found → (o : Option (List ℕ)) → numbers bytes ≡ o
          → row_of f bytes ≡ none
      by_numbers bytes n none w = row_none f bytes w
      by_numbers bytes n (some xs) w = row_wrong f bytes w (fits_more f xs fine.width fine.start (omega (arith, n.lacks e xs w)))

  module _ {count : ℕ} (e : line.count ≡ Some count) {r : Bool} (t : Fitting f count line.row.literal line.row.second line.row.third r) where
    -- numbers were found: they stand there, and the test is that of the definition
    found_row : (bytes found : List ℕ) → row_list line.row ≡ three found → (g : Found bytes (replicate 3 0) count found)
        → (row_list line.row ≡ three g.xs) × (r ≡ fits f g.xs)
    found_row bytes found same g =
        let e : row_list line.row ≡ three g.xs = same ∙ rw (found_at 3 g 0, found_at 3 g 1, found_at 3 g 2) in
        (e, t.fits g.xs g.count (omega (arith, g.fits)) (sym e))

    pub takes_by : TakesLine f line r
    takes_by =
        record {
          right = λ q bytes found same n.
              let g = n.found count e in
              let h = found_row bytes found same g in
              row_right f bytes g.says (sym h.1 ∙ q) ∙ ap (λ l. some l) (sym h.0);
          wrong = λ q bytes found same n.
              let g = n.found count e in
              row_wrong f bytes g.says (sym (found_row bytes found same g).1 ∙ q);
        }

-- a line that begins within the text ends there
pub ends_within : (text : List ℕ) (at len : ℕ) → at ≤ length text → len ≡ line_length (drop at text) → at + len ≤ length text
ends_within text at len h e = omega (arith, line_end text at (suc (length text)) (omega arith) (omega arith))

-- ---- a part, line by line: what follows a row, or the line where none is
abbrev pub behind_row : Option (List ℕ) → ℕ → Part → Part
behind_row none k p = broken k
behind_row (some row) k p = with_row row p

pub part_line : (f : Form) (n k : ℕ) (l : List ℕ) (ls : List (List ℕ)) → part f (suc n) k (l ∷ ls) ≡ behind_row (row_of f l) k (part f n (suc k) ls)
unfolding part
part_line f n k l ls = by_row (row_of f l) refl
  where
    by_row : (o : Option (List ℕ)) → row_of f l ≡ o → part f (suc n) k (l ∷ ls) ≡ behind_row o k (part f n (suc k) ls)
    by_row none e = rw (part, e)
    by_row (some row) e = rw (part, e)

part_ended : (f : Form) (n k : ℕ) → part f (suc n) k [] ≡ broken k
unfolding part
part_ended f n k = refl

lines_ended : lines [] ≡ []
unfolding lines
lines_ended = refl

-- the part from an index on, by its next line; where the text has ended this is empty, and has no row
pub part_next : (f : Form) (n k : ℕ) (text : List ℕ) (at end : ℕ) → at ≤ length text → end ≡ at + line_length (drop at text)
    → part f (suc n) k (lines (drop at text)) ≡ behind_row (row_of f (take (end - at) (drop at text))) k (part f n (suc k) (lines (drop end text)))
part_next f n k text at end h e =
    ⊎_elim
    (λ l.
    let w = line_at text at l in
    let s : end - at ≡ line_length (drop at text) = omega arith in
    rw (s, w.first, e) (part_line f n k _ _))
    (λ l.
    let s : end - at ≡ 0 = omega (arith, length_ended text at l) in
    rw (s, drop_of_length-le text {i = at} l, lines_ended, row_none f [] numbers_none) (part_ended f n k))
    (lt_or_ge at (length text))

-- ---- the rows of a whole part
-- a row is that of numbers which are of the form
record Shaped (f : Form) (row : List ℕ) : Type 0 where
  xs : List ℕ
  fitting : fits f xs ≡ true
  same : row ≡ three xs

row_shaped : (f : Form) (line : List ℕ) {row : List ℕ} → row_of f line ≡ some row → Shaped f row
row_shaped f line {row} e = by_numbers (numbers line) refl
  where
    by_numbers : (o : Option (List ℕ)) → numbers line ≡ o → Shaped f row
    by_numbers none n = none_clash _ (row_none f line n) e
    by_numbers (some xs) n =
        test (fits f xs) (λ t. record { xs = xs; fitting = t; same = cc (row_right f line n t) }) (λ t. none_clash _ (row_wrong f line n t) e)

-- the code finds the row of a line that has one; where the first number defines a variable it is even
pub row_found : (f : Form) (line : List ℕ) {row : List ℕ} → f.width ≤ 3 → (f.starts ≡ true → f.width ≤ 2) → row_of f line ≡ some row
    → {r : Std.Option ℕ} {after : List ℕ} → Numbered line (replicate 3 0) r after → (row ≡ three after) × (f.defines ≡ true → get_or row 0 0 % 2 ≡ 0)
unfolding fits count_fits defining
row_found f line {row} most more e {r} {after} n = by_numbers (numbers line) refl
  where
    counted : (o : Std.Option ℕ) → r ≡ o → (xs : List ℕ) → numbers line ≡ some xs → fits f xs ≡ true → (count : ℕ) × (r ≡ Some count)
    counted None z xs q t = clash t (fits_more f xs most more (omega (arith, n.lacks z xs q)))
    counted (Some k) z xs q t = (k, z)

    by_list : (xs : List ℕ) → numbers line ≡ some xs → fits f xs ≡ true → (row ≡ three after) × (f.defines ≡ true → get_or row 0 0 % 2 ≡ 0)
    by_list xs q t =
        let same : row ≡ three xs = cc (row_right f line q t) in
        let some_number = counted r refl xs q t in
        let g = n.found some_number.0 some_number.1 in
        let found : g.xs ≡ xs = cc g.says in
        let at : (k : ℕ) → get_or after k 0 ≡ get_or xs k 0 = λ k. found_at 3 g k ∙ ap (λ l. get_or l k 0) found in (
          same ∙ rw (at 0, at 1, at 2),
          λ d.
              let s = (both (starts f (get_or xs 0 0)) _ (both (count_fits f (length xs)) _ t).1).0 in
              let p = both (eqb (get_or xs 0 0 % 2) 0) _ (rw d at s) in
              rw same (eqb-true (get_or xs 0 0 % 2) 0 p.0),
        )

    by_numbers : (o : Option (List ℕ)) → numbers line ≡ o → (row ≡ three after) × (f.defines ≡ true → get_or row 0 0 % 2 ≡ 0)
    by_numbers none q = none_clash _ (row_none f line q) e
    by_numbers (some xs) q = test (fits f xs) (λ t. by_list xs q t) (λ t. none_clash _ (row_wrong f line q t) e)

pub part_clash {ℓ} : {C : Type ℓ} {k : ℕ} {rows : List ℕ} {m : ℕ} {others : List (List ℕ)} → broken k ≡ whole rows m others → C
part_clash e = let z : ◌≡◌ {A = ℕ} 0 1 = cc in absurd (omega arith)

-- three numbers a line, the next line, and 0 for the third number where a line has two and no start value
pub record Whole (f : Form) (n k : ℕ) (rows : List ℕ) (m : ℕ) : Type 0 where
  pub many : length rows ≡ 3 * n
  pub next : m ≡ k + n
  pub low : f.width ≤ 2 → f.starts ≡ false → Low rows

whole_more : {f : Form} {n k : ℕ} {row rows : List ℕ} {next : ℕ} → Shaped f row → Whole f n (suc k) rows next → Whole f (suc n) k (row ++ rows) next
unfolding fits threes every
whole_more {f} {n} {k} {row} {rows} s w =
    rw s.same (record {
      many = omega (arith, w.many);
      next = omega (arith, w.next);
      low = λ h g.
          let two : length s.xs ≤ 2 =
          omega (arith, eqb-true (length s.xs) f.width (both _ _ (rw (g, or-false (eqb (length s.xs) f.width)) at s.fitting)).0) in
          rw (get_or-eq_default s.xs 0 two) (w.low h g);
    })

module _ (f : Form) (n k : ℕ) (l : List ℕ) (ls : List (List ℕ)) {rows : List ℕ} {m : ℕ} {others : List (List ℕ)}
    (each : (rs : List ℕ) (i : ℕ) (os : List (List ℕ)) → part f n (suc k) ls ≡ whole rs i os → Whole f n (suc k) rs i) where
  whole_line : (o : Option (List ℕ)) → row_of f l ≡ o → (p : Part) → part f n (suc k) ls ≡ p → behind_row o k p ≡ whole rows m others
      → Whole f (suc n) k rows m
  unfolding with_row
  whole_line none r p q e = part_clash e
  whole_line (some row) r (broken i) q e = part_clash e
  whole_line (some row) r (whole rs i os) q e =
      let same : rows ≡ row ++ rs = cc in
      let next : m ≡ i = cc in
      rw (same, next) (whole_more (row_shaped f l r) (each rs i os q))

pub part_whole : (f : Form) (n k : ℕ) (ls : List (List ℕ)) {rows : List ℕ} {m : ℕ} {others : List (List ℕ)} → part f n k ls ≡ whole rows m others
    → Whole f n k rows m
unfolding part threes every
part_whole f zero k ls {rows} {m} e =
    let none : rows ≡ [] = cc in
    let next : m ≡ k = cc in
    rw (none, next) (record { many = refl; next = omega arith; low = λ h g. refl })
part_whole f (suc n) k [] e = part_clash e
part_whole f (suc n) k (l ∷ ls) e = whole_line f n k l ls (λ rs i os q. part_whole f n (suc k) ls q) _ refl _ refl (sym (part_line f n k l ls) ∙ e)

-- A text that is cut off. A line that is cut has no line feed, and so it has no numbers and is no header. So the cut text has the same lines, until
-- it ends or has a line that is wrong: if it is right, the whole text says the same. And a line that is missing or wrong is one of the text's lines
-- or the next one, and a text has no more lines than bytes. Assumes nothing.
use Prim.Native.Nat.{ℕ, zero, suc, ◌+◌, ◌^◌, ◌≤◌}
use mathlib.Core.Bool.{Bool, true, false, ◌&&◌}
use mathlib.Core.List.{List, [], ◌∷◌, ◌++◌}
use mathlib.Core.Logic.{◌⊎◌, inl, inr, ⊎_elim}
use mathlib.Core.Option.{Option, none, some}
use mathlib.Core.Path.{◌≡◌, refl, sym, ap, subst}
use native.Mathlib.Omega.{arith}
use borrow.Author.Tests.{eqb-true, eqb-false}
use lib.Dec.{eqb, ltb}
use lib.ListN.{length, take, drop}
use Rattle.base.proofs.Tests.{test, both}
use Rattle.text.specs.Lines.{before, lines}
use Rattle.text.proofs.Cut.{Feedless}
use Rattle.ic3.specs.Demands.{listed}
use Rattle.circuit.specs.Circuit.{Circuit}
use Rattle.aiger.specs.Numbers.{is_digit, ahead, numbers_from, numbers}
use Rattle.aiger.specs.Text.{row_of, Part, broken, whole, with_row, part, magic, begins, header_of, Told, malformed, told}
use Rattle.aiger.specs.Text.{behind, defines, latch_form, uses, singles_of, circuit_of, parts_of, asks_justice, behind_header, lines_tell, tells}
use Rattle.aiger.specs.declared.part.Form.{Form}
use Rattle.aiger.specs.declared.read.Header.{Header}
use Rattle.aiger.proofs.Rows.{behind_row, part_line}
use Rattle.aiger.proofs.Telling.{behind_head, tells_line}

-- ---- a line without its line feed
feedless_more : (b : ℕ) (l : List ℕ) → eqb b 10 ≡ false → Feedless l → Feedless (b ∷ l)
feedless_more b l e f zero h g = eqb-false b 10 e g
feedless_more b l e f (suc j) h g = f j (omega arith) g

feedless_rest : (b : ℕ) (l : List ℕ) → Feedless (b ∷ l) → Feedless l
feedless_rest b l f j h g = f (suc j) (omega arith) g

feedless_drop : (n : ℕ) (l : List ℕ) → Feedless l → Feedless (drop n l)
feedless_drop zero l f = f
feedless_drop (suc n) [] f = f
feedless_drop (suc n) (b ∷ l) f = feedless_drop n l (feedless_rest b l f)

-- it has no numbers: only a line feed ends the last of them
feedless_from : (begun : Bool) (value : ℕ) (l : List ℕ) → Feedless l → numbers_from begun value l ≡ none
unfolding numbers_from ahead
feedless_from begun value [] f = refl
feedless_from begun value (c ∷ cs) f =
    test (is_digit c)
    (λ d. rw (d, numbers_from) (feedless_from true _ cs (feedless_rest c cs f)))
    (λ d. test (begun && ltb value (2 ^ 32))
    (λ v. test (eqb c 32)
    (λ s. rw (d, v, s, numbers_from) (rw (feedless_from false 0 cs (feedless_rest c cs f), ahead)))
    (λ s. test (eqb c 10 && eqb (length cs) 0)
    (λ e. absurd (f 0 (omega arith) (eqb-true c 10 (both (eqb c 10) _ e).0)))
    (λ e. rw (d, v, s, e, numbers_from))))
    (λ v. rw (d, v, numbers_from)))

pub feedless_none : (l : List ℕ) → Feedless l → numbers l ≡ none
unfolding numbers
feedless_none l f = feedless_from false 0 l f

feedless_row : (f : Form) (l : List ℕ) → Feedless l → row_of f l ≡ none
unfolding row_of
feedless_row f l h = rw (feedless_none l h, row_of)

feedless_header : (newer : Bool) (l : List ℕ) → Feedless l → header_of newer l ≡ none
unfolding header_of
feedless_header newer l h =
    test (begins magic l) (λ e. rw (e, feedless_none (drop 4 l) (feedless_drop 4 l h), header_of)) (λ e. rw (e, header_of))

-- ---- the lines of a text, and of the text cut off
abbrev Cuts : List (List ℕ) → List (List ℕ) → Type 0
Cuts ls [] = Unit {0}
Cuts [] (m ∷ ms) = ⊥
Cuts (l ∷ ls) (m ∷ ms) = Feedless m ⊎ ((m ≡ l) × Cuts ls ms)

cuts_before : (b : ℕ) → eqb b 10 ≡ false → (ls ms : List (List ℕ)) → Cuts ls ms → Cuts (before b ls) (before b ms)
unfolding before
cuts_before b e [] [] c = inl (feedless_more b [] e (λ j h. absurd (omega arith)))
cuts_before b e (l ∷ ls) [] c = inl (feedless_more b [] e (λ j h. absurd (omega arith)))
cuts_before b e [] (m ∷ ms) c = absurd c
cuts_before b e (l ∷ ls) (m ∷ ms) c =
    ⊎_elim (λ f. inl (feedless_more b m e f)) (λ w. inr (ap {B = List ℕ} (λ z. b ∷ z) w.0, w.1)) c

lines_cut : (most : ℕ) (text : List ℕ) → Cuts (lines text) (lines (take most text))
unfolding lines
lines_cut zero text = tt
lines_cut (suc n) [] = tt
lines_cut (suc n) (b ∷ bs) =
    test (eqb b 10)
    (λ e. rw (e, lines) (inr (refl, lines_cut n bs)))
    (λ e. rw (e, lines) (cuts_before b e (lines bs) (lines (take n bs)) (lines_cut n bs)))

-- no more lines than bytes
before_most : (b : ℕ) (ls : List (List ℕ)) → length (before b ls) ≤ suc (length ls)
unfolding before
before_most b [] = omega arith
before_most b (l ∷ ls) = omega arith

pub lines_most : (text : List ℕ) → length (lines text) ≤ length text
unfolding lines
lines_most [] = omega arith
lines_most (b ∷ bs) =
    test (eqb b 10)
    (λ e. rw (e, lines) (omega (arith, lines_most bs)))
    (λ e. rw (e, lines) (omega (arith, lines_most bs, before_most b (lines bs))))

-- ---- a part of each
-- the line at which a part stands or breaks off is line a or a later one, and no line that is left is behind line b
abbrev pub In : ℕ → ℕ → Part → Type 0
In a b (broken k) = (a ≤ k) × (k ≤ b)
In a b (whole rows k ls) = (a ≤ k) × (k + length ls ≤ b)

-- a part of the text, and of the text cut off
abbrev PartCut : ℕ → Part → Part → Type 0
PartCut b p (broken j) = In j b p
PartCut b (broken k) (whole rows j ms) = ⊥
PartCut b (whole rows k ls) (whole rows' j ms) = (k + length ls ≤ b) × ((rows ≡ rows') × ((k ≡ j) × Cuts ls ms))

-- with a row in front
row_in : (row : List ℕ) (a b : ℕ) (p : Part) → In a b p → In a b (with_row row p)
unfolding with_row
row_in row a b (broken k) h = h
row_in row a b (whole rows k ls) h = h

row_cut : (row : List ℕ) (b : ℕ) (p q : Part) → PartCut b p q → PartCut b (with_row row p) (with_row row q)
unfolding with_row
row_cut row b p (broken j) c = row_in row j b p c
row_cut row b (broken k) (whole rows j ms) c = absurd c
row_cut row b (whole rows k ls) (whole rows' j ms) c = (c.0, (ap (λ z. row ++ z) c.1.0, c.1.1))

pub part_in : (f : Form) (n k : ℕ) (ls : List (List ℕ)) (a b : ℕ) → a ≤ k → k + length ls ≤ b → In a b (part f n k ls)
unfolding part
part_in f zero k ls a b low high = (low, high)
part_in f (suc n) k [] a b low high = (low, omega arith)
part_in f (suc n) k (l ∷ ls) a b low high =
    rw (part_line f n k l ls) (by_row (part_in f n (suc k) ls a b (omega arith) (omega arith)) (row_of f l))
  where
    by_row : In a b (part f n (suc k) ls) → (o : Option (List ℕ)) → In a b (behind_row o k (part f n (suc k) ls))
    by_row h none = (low, omega arith)
    by_row h (some row) = row_in row a b (part f n (suc k) ls) h

part_cut : (f : Form) (n k : ℕ) (ls ms : List (List ℕ)) (b : ℕ) → k + length ls ≤ b → Cuts ls ms → PartCut b (part f n k ls) (part f n k ms)
unfolding part
part_cut f zero k ls ms b high c = (high, (refl, (refl, c)))
part_cut f (suc n) k ls [] b high c = part_in f (suc n) k ls k b (omega arith) high
part_cut f (suc n) k [] (m ∷ ms) b high c = absurd c
part_cut f (suc n) k (l ∷ ls) (m ∷ ms) b high c =
    rw (part_line f n k m ms)
    (⊎_elim (λ h. rw (feedless_row f m h) (part_in f (suc n) k (l ∷ ls) k b (omega arith) high))
    (λ w. rw (part_line f n k l ls, w.0) (by_row (part_cut f n (suc k) ls ms b (omega arith) w.1) (row_of f l))) c)
  where
    by_row : PartCut b (part f n (suc k) ls) (part f n (suc k) ms) → (o : Option (List ℕ))
        → PartCut b (behind_row o k (part f n (suc k) ls)) (behind_row o k (part f n (suc k) ms))
    by_row h none = (omega arith, omega arith)
    by_row h (some row) = row_cut row b (part f n (suc k) ls) (part f n (suc k) ms) h

-- ---- what is told of each
-- if the form is wrong, the refusal is 20 or 27, and its line is one from line a to line b
abbrev Between : ℕ → ℕ → Told → Type 0
Between a b (malformed number j) = (listed (20 ∷ (27 ∷ [])) number ≡ true) × (a ≤ j) × (j ≤ b)
Between a b (told m c) = Unit {0}

-- of the text, and of the text cut off: the same, or a line is missing then
abbrev ToldCut : ℕ → Told → Told → Type 0
ToldCut b w (malformed number j) = (w ≡ malformed number j) ⊎ ((number ≡ 20) × Between j b w)
ToldCut b (malformed number k) (told m c) = ⊥
ToldCut b (told m' c') (told m c) = (m' ≡ m) × (c' ≡ c)

-- what is told of lines from line k on
record Telling (next : ℕ → List (List ℕ) → Told) : Type 0 where
  between : (k : ℕ) (ls : List (List ℕ)) (a b : ℕ) → a ≤ k → k + length ls ≤ b → Between a b (next k ls)
  cut : (k : ℕ) (ls ms : List (List ℕ)) (b : ℕ) → k + length ls ≤ b → Cuts ls ms → ToldCut b (next k ls) (next k ms)

telling_end : (m : ℕ) (c : Circuit) → Telling (λ k ls. told m c)
telling_end m c = record { between = λ k ls a b low high. tt; cut = λ k ls ms b high h. (refl, refl) }

module _ (f : Form) (n : ℕ) (next : List ℕ → ℕ → List (List ℕ) → Told) (w : (rows : List ℕ) → Telling (next rows)) where
  behind_between : (a b : ℕ) (p : Part) → In a b p → Between a b (behind p next)
  unfolding behind listed
  behind_between a b (broken k) h = (refl, h.0, h.1)
  behind_between a b (whole rows k ls) h = (w rows).between k ls a b h.0 h.1

  behind_cut : (b : ℕ) (p q : Part) → PartCut b p q → ToldCut b (behind p next) (behind q next)
  unfolding behind
  behind_cut b p (broken j) c = inr (refl, behind_between j b p c)
  behind_cut b (broken k) (whole rows j ms) c = absurd c
  behind_cut b (whole rows k ls) (whole rows' j ms) c = rw (← c.1.0, ← c.1.1.0) ((w rows).cut k ls ms b c.0 c.1.1.1)

  telling_behind : Telling (λ k ls. behind (part f n k ls) next)
  telling_behind =
      record {
        between = λ k ls a b low high. behind_between a b (part f n k ls) (part_in f n k ls a b low high);
        cut = λ k ls ms b high c. behind_cut b (part f n k ls) (part f n k ms) (part_cut f n k ls ms b high c);
      }

abbrev parts : Header → ℕ → List (List ℕ) → Told
parts h k ls =
    behind (part (defines h 1) h.inputs k ls) (λ inputs k ls.
    behind (part (latch_form h) h.latches k ls) (λ latches k ls.
    behind (part (uses h) (singles_of h) k ls) (λ singles k ls.
    behind (part (defines h 3) h.gates k ls) (λ gates k ls. told h.m (circuit_of h inputs latches singles gates)))))

telling_parts : (h : Header) → Telling (parts h)
telling_parts h =
    telling_behind (defines h 1) h.inputs _ (λ inputs.
    telling_behind (latch_form h) h.latches _ (λ latches.
    telling_behind (uses h) (singles_of h) _ (λ singles.
    telling_behind (defines h 3) h.gates _ (λ gates. telling_end h.m (circuit_of h inputs latches singles gates)))))

-- ---- by the header
module _ (h : Header) where
  behind_in : (ls : List (List ℕ)) (b : ℕ) → 2 + length ls ≤ b → Between 1 b (behind_header h ls)
  unfolding behind_header parts_of listed
  behind_in ls b high =
      test (asks_justice h)
      (λ e. rw (e, behind_header) (refl, omega arith, omega arith))
      (λ e. rw (e, behind_header) ((telling_parts h).between 2 ls 1 b (omega arith) high))

  behind_both : (ls ms : List (List ℕ)) (b : ℕ) → 2 + length ls ≤ b → Cuts ls ms → ToldCut b (behind_header h ls) (behind_header h ms)
  unfolding behind_header parts_of
  behind_both ls ms b high c =
      test (asks_justice h)
      (λ e. rw (e, behind_header) (inl refl))
      (λ e. rw (e, behind_header) ((telling_parts h).cut 2 ls ms b high c))

module _ (newer : Bool) where
  tell_between : (ls : List (List ℕ)) (b : ℕ) → 1 + length ls ≤ b → Between 1 b (lines_tell newer ls)
  unfolding lines_tell listed
  tell_between [] b high = (refl, omega arith, omega arith)
  tell_between (l ∷ ls) b high = rw (tells_line newer l ls) (by_header (header_of newer l))
    where
      by_header : (o : Option Header) → Between 1 b (behind_head o ls)
      by_header none = (refl, omega arith, omega arith)
      by_header (some h) = behind_in h ls b (omega arith)

  tell_cut : (ls ms : List (List ℕ)) (b : ℕ) → 1 + length ls ≤ b → Cuts ls ms → ToldCut b (lines_tell newer ls) (lines_tell newer ms)
  unfolding lines_tell
  tell_cut ls [] b high c = inr (refl, tell_between ls b high)
  tell_cut [] (m ∷ ms) b high c = absurd c
  tell_cut (l ∷ ls) (m ∷ ms) b high c =
      rw (tells_line newer m ms)
      (⊎_elim (λ h. rw (feedless_header newer m h) (inr (refl, tell_between (l ∷ ls) b high)))
      (λ w. rw (tells_line newer l ls, w.0) (by_header w.1 (header_of newer l))) c)
    where
      by_header : Cuts ls ms → (o : Option Header) → ToldCut b (behind_head o ls) (behind_head o ms)
      by_header h none = inl refl
      by_header h (some r) = behind_both r ls ms b (omega arith) h

  -- ---- the text
  tells_cut : (most : ℕ) (text : List ℕ) → ToldCut (length text + 1) (tells newer text) (tells newer (take most text))
  unfolding tells
  tells_cut most text = tell_cut (lines text) (lines (take most text)) (length text + 1) (omega (arith, lines_most text)) (lines_cut most text)

  -- a text that is cut off says the same, or is refused with 20
  pub cut_off : (most : ℕ) (text : List ℕ)
      → (tells newer (take most text) ≡ tells newer text) ⊎ ((line : ℕ) × (tells newer (take most text) ≡ malformed 20 line))
  cut_off most text = pick (tells newer text) (tells newer (take most text)) (tells_cut most text)
    where
      pick : (w v : Told) → ToldCut (length text + 1) w v → (v ≡ w) ⊎ ((line : ℕ) × (v ≡ malformed 20 line))
      pick w (malformed number j) h = ⊎_elim (λ e. inl (sym e)) (λ e. inr (j, rw e.0)) h
      pick (malformed number k) (told m c) h = absurd h
      pick (told m' c') (told m c) h = inl (rw (h.0, h.1))

  -- what is wrong with the form is 20 or 27; there are no more lines than bytes, and a missing line is the next one
  pub line_most : (text : List ℕ) (number k : ℕ) → tells newer text ≡ malformed number k
      → (listed (20 ∷ (27 ∷ [])) number ≡ true) × (k ≤ length text + 1)
  unfolding tells
  line_most text number k e =
      let r = subst (Between 1 (length text + 1)) e (tell_between (lines text) (length text + 1) (omega (arith, lines_most text))) in
      (r.0, r.2)

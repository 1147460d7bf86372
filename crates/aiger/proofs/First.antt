-- The first edition is the newer one with nothing further. A header of five counts has 0 for the others, and a latch line of two numbers is one of the
-- newer edition too; so a text that the first edition takes says the same in the newer. Its circuit's latches start at 0, and it has no bad-state
-- lines and no constraints. Assumes nothing.
use Prim.Native.Nat.{ℕ, zero, suc, ◌+◌, ◌*◌, ◌≤◌}
use mathlib.Core.Bool.{Bool, true, false, ◌&&◌, or-false}
use mathlib.Core.List.{List, [], ◌∷◌}
use mathlib.Core.Option.{Option, none, some}
use mathlib.Core.Path.{◌≡◌, refl, sym, ap, ◌∙◌}
use native.Mathlib.Omega.{arith}
use borrow.Author.Tests.{eqb-true, leb-true, le-leb}
use lib.Dec.{eqb, leb}
use lib.ListN.{length, get_or, drop, get_or-eq_default, drop_of_length-le}
use Rattle.base.proofs.Tests.{test, both}
use Rattle.text.specs.Lines.{lines}
use Rattle.circuit.specs.Circuit.{Circuit, Latch, every}
use Rattle.circuit.proofs.FirstEdition.{AllLow, FirstEdition}
use Rattle.aiger.specs.Numbers.{numbers}
use Rattle.aiger.specs.Text.{first_edition, newer_edition, fits, row_of, whole, with_row, part, firsts, circuit_of, magic, begins}
use Rattle.aiger.specs.Text.{most_counts, header_by, header_from, header_of, told, latch_form, singles_of, parts_of}
use Rattle.aiger.specs.Text.{asks_justice, behind_header, lines_tell, tells}
use Rattle.aiger.specs.Inner.{Low}
use Rattle.aiger.specs.declared.part.Form.{Form}
use Rattle.aiger.specs.declared.read.Header.{Header}
use Rattle.aiger.proofs.Numbering.{none_clash}
use Rattle.aiger.proofs.Threes.{length_threes}
use Rattle.aiger.proofs.Rows.{row_none, row_wrong, row_right, behind_row, part_line, part_clash, part_whole}
use Rattle.aiger.proofs.Telling.{behind_whole}
use Rattle.aiger.proofs.Told.{never, same_circuit, behind_told}
use Rattle.aiger.proofs.Rereading.{opens}

all_low : (ls : List Latch) → every (λ (l : Latch). eqb l.start 0) ls ≡ true → AllLow ls
unfolding every
all_low [] e = tt
all_low (l ∷ ls) e = let p = both _ _ e in (eqb-true l.start 0 p.0, all_low ls p.1)

-- a header or none
no_header : {C : Type 0} {h : Header} → none ≡ some h → C
no_header e = let z : ◌≡◌ {A = ℕ} 0 1 = cc in absurd (omega arith)

-- ---- a line, where a start value may stand too
abbrev opened : Form → Form
opened f = record { width = f.width; starts = true; defines = f.defines; most = f.most }

module _ (f : Form) (plain : f.starts ≡ false) where
  fits_opened : (xs : List ℕ) → fits f xs ≡ true → fits (opened f) xs ≡ true
  unfolding fits
  fits_opened xs e =
      let p = both (eqb (length xs) f.width) _ (rw (plain, or-false (eqb (length xs) f.width)) at e) in
      rw p.0 p.1

  row_opened : (line row : List ℕ) → row_of f line ≡ some row → row_of (opened f) line ≡ some row
  row_opened line row e = by_numbers (numbers line) refl
    where
      by_numbers : (o : Option (List ℕ)) → numbers line ≡ o → row_of (opened f) line ≡ some row
      by_numbers none n = none_clash _ (row_none f line n) e
      by_numbers (some xs) n =
          test (fits f xs)
          (λ t. row_right (opened f) line n (fits_opened xs t) ∙ (sym (row_right f line n t) ∙ e))
          (λ t. none_clash _ (row_wrong f line n t) e)

  part_opened : (n k : ℕ) (ls : List (List ℕ)) {rows : List ℕ} {m : ℕ} {others : List (List ℕ)} → part f n k ls ≡ whole rows m others
      → part (opened f) n k ls ≡ whole rows m others
  unfolding part with_row
  part_opened zero k ls e = e
  part_opened (suc n) k [] e = part_clash e
  part_opened (suc n) k (l ∷ ls) e =
      let o = opens (row_of f l) k (part f n (suc k) ls) (sym (part_line f n k l ls) ∙ e) in
      part_line (opened f) n k l ls
      ∙ (ap (λ r. behind_row r k (part (opened f) n (suc k) ls)) (row_opened l o.row o.first)
      ∙ (ap (with_row o.row) (part_opened n (suc k) ls {rows = o.later} o.follow) ∙ rw (← o.all)))

-- ---- the header
-- five counts, read in either edition
record Five (line : List ℕ) (h : Header) : Type 0 where
  counts : List ℕ
  five : length counts ≡ 5
  same : h ≡ header_by first_edition counts
  newer : header_of newer_edition line ≡ some (header_by newer_edition counts)

header_five : (line : List ℕ) {h : Header} → header_of first_edition line ≡ some h → Five line h
unfolding header_of header_from most_counts
header_five line {h} e =
    test (begins magic line) (λ b. by_numbers b (numbers (drop 4 line)) refl) (λ b. no_header (rw (b, header_of) at e))
  where
    by_counts : begins magic line ≡ true → (xs : List ℕ) → numbers (drop 4 line) ≡ some xs → (leb 5 (length xs) && leb (length xs) 5) ≡ true → Five line h
    by_counts b xs n t =
        let p = both (leb 5 (length xs)) _ t in
        let five : length xs ≡ 5 = omega (arith, leb-true 5 (length xs) p.0, leb-true (length xs) 5 p.1) in
        let read : header_of first_edition line ≡ some (header_by first_edition xs) = rw (header_of, b, n) (rw (header_from, t)) in
        record {
          counts = xs;
          five = five;
          same = cc;
          newer = rw (header_of, b, n) (rw (p.0, le-leb (length xs) 9 (omega arith), header_from));
        }

    by_numbers : begins magic line ≡ true → (o : Option (List ℕ)) → numbers (drop 4 line) ≡ o → Five line h
    by_numbers b none n = no_header (rw (b, n, header_of) at e)
    by_numbers b (some xs) n =
        test (leb 5 (length xs) && leb (length xs) 5)
        (λ t. by_counts b xs n t)
        (λ t. no_header (rw (header_from, t) at (rw (header_of, b, n) at e)))

-- ---- the parts
module _ (h : Header) (plain : h.newer ≡ false) (ls : List (List ℕ)) (m : ℕ) (c : Circuit) (e : parts_of h ls ≡ told m c) where
  abbrev newer : Header
  newer =
      record {
        newer = true;
        m = h.m;
        inputs = h.inputs;
        latches = h.latches;
        outputs = h.outputs;
        gates = h.gates;
        bads = h.bads;
        constraints = h.constraints;
        justice = h.justice;
        fairness = h.fairness;
      }

  parts_newer : parts_of newer ls ≡ told m c
  unfolding parts_of circuit_of
  parts_newer =
      let i = behind_told _ _ m c e in
      let l = behind_told _ _ m c i.says in
      let s = behind_told _ _ m c l.says in
      let g = behind_told _ _ m c s.says in
      behind_whole _ i.is_whole
      ∙ (behind_whole _ (part_opened (latch_form h) plain h.latches _ _ l.is_whole)
      ∙ (behind_whole _ s.is_whole ∙ (behind_whole _ g.is_whole ∙ g.says)))

  -- latches that start at 0
  module _ (bads : h.bads ≡ 0) (constraints : h.constraints ≡ 0) where
    made_first : (inputs latches singles gates : List ℕ) → length singles ≡ 3 * singles_of h → Low latches
        → FirstEdition (circuit_of h inputs latches singles gates)
    unfolding circuit_of
    made_first inputs latches singles gates n l =
        record {
          low = all_low _ l;
          no_bads = rw bads;
          no_constraints = drop_of_length-le (firsts singles) {i = h.outputs + h.bads} (omega (arith, length_threes (λ a b c. a) singles, n, bads, constraints));
        }

    parts_first : FirstEdition c
    unfolding parts_of
    parts_first =
        let i = behind_told _ _ m c e in
        let l = behind_told _ _ m c i.says in
        let s = behind_told _ _ m c l.says in
        let g = behind_told _ _ m c s.says in
        rw (← same_circuit g.says)
        (made_first i.rows l.rows s.rows g.rows (part_whole _ _ _ _ s.is_whole).many
        ((part_whole _ _ _ _ l.is_whole).low (omega arith) plain))

-- ---- the text
behind_calm : (h : Header) (ls : List (List ℕ)) → asks_justice h ≡ false → behind_header h ls ≡ parts_of h ls
unfolding behind_header
behind_calm h ls e = rw (e, behind_header)

-- what is said behind the header
module _ (line : List ℕ) (ls : List (List ℕ)) (m : ℕ) (c : Circuit) where
  abbrev Said : Type 0
  Said = (lines_tell newer_edition (line ∷ ls) ≡ told m c) × FirstEdition c

  said : (counts : List ℕ) → length counts ≡ 5 → header_of newer_edition line ≡ some (header_by newer_edition counts)
      → behind_header (header_by first_edition counts) ls ≡ told m c → Said
  unfolding lines_tell asks_justice
  said counts five newer e =
      let h = header_by first_edition counts in
      let absent : (k : ℕ) → 5 ≤ k → get_or counts k 0 ≡ 0 = λ k l. get_or-eq_default counts 0 (omega arith) in
      let calm : asks_justice h ≡ false = rw (absent 7 (omega arith), absent 8 (omega arith)) in
      let parts : parts_of h ls ≡ told m c = sym (behind_calm h ls calm) ∙ e in (
        rw (newer, lines_tell) (behind_calm (header_by newer_edition counts) ls calm ∙ parts_newer h refl ls m c parts),
        parts_first h refl ls m c parts (absent 5 (omega arith)) (absent 6 (omega arith)),
      )

  line_said : lines_tell first_edition (line ∷ ls) ≡ told m c → Said
  unfolding lines_tell
  line_said e = by_header (header_of first_edition line) refl
    where
      by_header : (o : Option Header) → header_of first_edition line ≡ o → Said
      by_header none q = never (rw (q, lines_tell) at e)
      by_header (some h) q =
          let f = header_five line q in
          said f.counts f.five f.newer (rw f.same at (rw (q, lines_tell) at e))

lines_said : (ls : List (List ℕ)) (m : ℕ) (c : Circuit) → lines_tell first_edition ls ≡ told m c
    → (lines_tell newer_edition ls ≡ told m c) × FirstEdition c
unfolding lines_tell
lines_said [] m c e = never e
lines_said (l ∷ ls) m c e = line_said l ls m c e

module _ (text : List ℕ) (m : ℕ) (c : Circuit) (e : tells first_edition text ≡ told m c) where
  -- "On first-edition files the two readers agree."
  pub readers_agree : (newer : Bool) → tells newer text ≡ tells first_edition text
  unfolding tells
  readers_agree false = refl
  readers_agree true = (lines_said (lines text) m c e).0 ∙ sym e

  pub first_edition_lem : FirstEdition c
  unfolding tells
  first_edition_lem = (lines_said (lines text) m c e).1

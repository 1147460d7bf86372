-- What a text tells. A line begins with `aag` and a blank if each of its bytes is the one that stands there, and the header's counts are the numbers
-- behind, 0 where they are absent. Then come the parts, and the first line at fault in any of them is the text's; where all four are whole, the rows
-- were written one part at a time, but for those of one literal, which were written behind the store and so nowhere. Assumes nothing.
use Prim.Native.Nat.{ℕ, suc, ◌+◌, ◌*◌, ◌^◌, ◌≤◌, ◌<◌}
use mathlib.Core.Bool.{Bool, true, ◌&&◌, and-false}
use mathlib.Core.List.{List, [], ◌∷◌, ◌++◌}
use mathlib.Core.Logic.{⊎_elim}
use mathlib.Core.Option.{Option, none, some}
use mathlib.Core.Path.{◌≡◌, refl, ap, subst, ◌∙◌}
use native.Mathlib.Nat.{mul-add}
use native.Mathlib.Omega.{arith}
use borrow.Author.Tests.{eq-eqb, eqb-true, le-leb, lt-leb}
use lib.Dec.{eqb, leb}
use lib.ListN.{length, get_or, take, drop, replicate, drop_of_length-le, length-replicate}
use lib.Seq.{take-nil}
use Rattle.std.specs.Prelude.{Result, Ok, Err, Some, None}
use Rattle.base.specs.Numbers.{number_of}
use Rattle.base.specs.declared.Fault.{Fault}
use Rattle.base.specs.declared.Refusal.TheVariants as refusal
use Rattle.base.proofs.Tests.{test, both, clash, lt_or_ge}
use Rattle.aiger.specs.Numbers.{numbers}
use Rattle.text.specs.Lines.{lines, line_length}
use Rattle.text.specs.Writing.{laid}
use Rattle.text.proofs.Lines.{line_at, line_end}
use Rattle.aiger.specs.Text.{Part, broken, whole, begins, magic, most_counts, header_by, header_from, header_of, Told, malformed, behind}
use Rattle.aiger.specs.Text.{defines, latch_form, uses, singles_of, parts_of, asks_justice, behind_header, lines_tell, tells}
use Rattle.aiger.specs.declared.table.Row.{Row}
use Rattle.aiger.proofs.Threes.{flat_length, laid_beyond}
use Rattle.aiger.specs.Inner.{flattened, Numbered, Small, wrong_form, part_from, Read, Takes, Kept, ReadAs}
use Rattle.aiger.specs.declared.part.Lines.{Lines}
use Rattle.aiger.specs.declared.read.Header.{Header}
use Rattle.aiger.specs.declared.read.Reading.{Reading}
use Rattle.aiger.proofs.Numbering.{numbers_small}
use Rattle.aiger.proofs.Rows.{found_at, part_whole}

-- ---- the bytes in front
pub begins_length : (p l : List ℕ) → begins p l ≡ true → length p ≤ length l
unfolding begins
begins_length [] l e = omega arith
begins_length (x ∷ p) [] e = clash e refl
begins_length (x ∷ p) (y ∷ l) e = omega (arith, begins_length p l (both (eqb x y) _ e).1)

begins_split : (p l : List ℕ) → begins p l ≡ true → l ≡ p ++ drop (length p) l
unfolding begins
begins_split [] l e = refl
begins_split (x ∷ p) [] e = clash e refl
begins_split (x ∷ p) (y ∷ l) e =
    let t = both (eqb x y) _ e in
    let same : x ≡ y = eqb-true x y t.0 in
    rw same (ap {B = List ℕ} (λ r. y ∷ r) (begins_split p l t.1))

begins_front : (p rest : List ℕ) → begins p (p ++ rest) ≡ true
unfolding begins
begins_front [] rest = refl
begins_front (x ∷ p) rest = rw (eq-eqb x x refl) (begins_front p rest)

-- ---- the counts
module _ (newer : Bool) where
  head_begins : (line : List ℕ) → (begins magic line ≡ true → ⊥) → header_of newer line ≡ none
  unfolding header_of
  head_begins line f = test (begins magic line) (λ b. absurd (f b)) (λ b. rw (header_of, b))

  pub head_none : (line : List ℕ) → ((rest : List ℕ) → line ≡ magic ++ rest → ⊥) → header_of newer line ≡ none
  head_none line f = head_begins line (λ b. f (drop 4 line) (begins_split magic line b))

  from_few : (xs : List ℕ) → length xs < 5 → header_from newer xs ≡ none
  unfolding header_from
  from_few xs h = rw (lt-leb 5 (length xs) h, header_from)

  from_many : (xs : List ℕ) → most_counts newer < length xs → header_from newer xs ≡ none
  unfolding header_from
  from_many xs h = rw (lt-leb (length xs) (most_counts newer) h, and-false (leb 5 (length xs)), header_from)

  from_right : (xs : List ℕ) → 5 ≤ length xs → length xs ≤ most_counts newer → header_from newer xs ≡ some (header_by newer xs)
  unfolding header_from
  from_right xs h l = rw (le-leb 5 (length xs) h, le-leb (length xs) (most_counts newer) l, header_from)

  most_nine : most_counts newer ≤ 9
  unfolding most_counts
  most_nine = test newer (λ e. rw (e, most_counts) (omega arith)) (λ e. rw (e, most_counts) (omega arith))

  module _ (line behind : List ℕ) (same : line ≡ magic ++ behind) where
    started : begins magic line ≡ true
    started = rw same (begins_front magic behind)

    head_lacks : numbers behind ≡ none → header_of newer line ≡ none
    unfolding header_of
    head_lacks e = rw (header_of, started, ap (λ (l : List ℕ). numbers (drop 4 l)) same ∙ e)

    head_has : {xs : List ℕ} → numbers behind ≡ some xs → header_of newer line ≡ header_from newer xs
    unfolding header_of
    head_has e = rw (header_of, started, ap (λ (l : List ℕ). numbers (drop 4 l)) same ∙ e)

    -- no number at all, or more than nine
    pub head_other : {counts : List ℕ} → Numbered behind (replicate 9 0) None counts → header_of newer line ≡ none
    head_other n = by_numbers _ refl
      where
        by_numbers : (o : Option (List ℕ)) → numbers behind ≡ o → header_of newer line ≡ none
        by_numbers none e = head_lacks e
        by_numbers (some xs) e =
            head_has e ∙ from_many xs (omega (arith, most_nine, n.lacks refl xs e, length-replicate {A = ℕ} 9 0))

    module _ {count : ℕ} {counts : List ℕ} (n : Numbered behind (replicate 9 0) (Some count) counts) where
      pub head_few : count < 5 → header_of newer line ≡ none
      head_few f = let g = n.found count refl in head_has g.says ∙ from_few g.xs (omega (arith, g.count))

      pub head_many : most_counts newer < count → header_of newer line ≡ none
      head_many f = let g = n.found count refl in head_has g.says ∙ from_many g.xs (omega (arith, g.count))

      pub head_right : 5 ≤ count → count ≤ most_counts newer → (header_of newer line ≡ some (header_by newer counts)) × Small (header_by newer counts)
      head_right f l =
          let g = n.found count refl in
          let at : (k : ℕ) → get_or counts k 0 ≡ get_or g.xs k 0 = λ k. found_at 9 g k in
          let small : (k : ℕ) → get_or counts k 0 < 2 ^ 32 = λ k. rw (at k) (numbers_small _ g.says k) in (
            head_has g.says
                ∙ (from_right g.xs (omega (arith, g.count)) (omega (arith, g.count))
                ∙ rw (at 0, at 1, at 2, at 3, at 4, at 5, at 6, at 7, at 8)),
            record {
              m = small 0;
              inputs = small 1;
              latches = small 2;
              outputs = small 3;
              gates = small 4;
              bads = small 5;
              constraints = small 6;
            },
          )

-- ---- the parts, one behind the other
behind_broken : {p : Part} {k : ℕ} (next : List ℕ → ℕ → List (List ℕ) → Told) → p ≡ broken k → behind p next ≡ malformed 20 k
unfolding behind
behind_broken next e = ap (λ p. behind p next) e

pub behind_whole : {p : Part} {rows : List ℕ} {k : ℕ} {ls : List (List ℕ)} (next : List ℕ → ℕ → List (List ℕ) → Told) → p ≡ whole rows k ls
    → behind p next ≡ next rows k ls
unfolding behind
behind_whole next e = ap (λ p. behind p next) e

-- what is wrong with the form
read_fault : {text : List ℕ} {what : Told} {before : List Row} {f : Fault} {after : List Row} → what ≡ malformed (number_of f.refusal) f.line
    → length after ≡ length before → ReadAs text what before (Err f) after
read_fault {what = what} {f = f} says same =
    record {
      same = same;
      wrong = λ g e. let q : f ≡ g = cc in subst (λ (x : Fault). what ≡ malformed (number_of x.refusal) x.line) q says;
      right = λ q e. cc;
    }

-- what was kept
read_kept : {text : List ℕ} {what : Told} {before : List Row} {q : Reading} {after : List Row}
    → Kept text what (flattened before) q (flattened after)
    → length after ≡ length before → ReadAs text what before (Ok q) after
read_kept {text} {what} {before} {q} {after} kept same =
    record {
      same = same;
      wrong = λ f e. cc;
      right = λ r e. let f : q ≡ r = cc in subst (λ (x : Reading). Kept text what (flattened before) x (flattened after)) f kept;
    }

-- a part has a line at fault, and so has the text
fault_part : {text : List ℕ} {l : Lines} {from : ℕ} {before : List Row} {f : Fault} {after : List Row} (t : Takes text l from before (Err f) after)
    → {what : Told} {first : List Row} → length before ≡ length first
    → ((k : ℕ) → part_from text l from ≡ broken k → what ≡ malformed 20 k) → ReadAs text what first (Err f) after
fault_part {f = f} t same says =
    let w = t.wrong f refl in
    read_fault (rw w.0 (says f.line w.1)) (t.same ∙ same)

module _ (text : List ℕ) (h : Header) (at : ℕ) (before : List Row) where
  abbrev pub inputs_lines : Lines
  inputs_lines = record { form = defines h 1; count = h.inputs; first = 2; row = h.latches }

  abbrev pub latches_lines : Lines
  latches_lines = record { form = latch_form h; count = h.latches; first = 2 + h.inputs; row = 0 }

  abbrev pub singles_lines : ℕ → Lines
  singles_lines row = record { form = uses h; count = singles_of h; first = 2 + h.inputs + h.latches; row = row }

  abbrev pub gates_lines : Lines
  gates_lines =
      record { form = defines h 3; count = h.gates; first = 2 + h.inputs + h.latches + singles_of h; row = h.latches + h.inputs }

  pub fault_inputs : {b : List Row} {f : Fault} → Takes text inputs_lines at before (Err f) b → ReadAs text (parts_of h (lines (drop at text))) before (Err f) b
  unfolding parts_of
  fault_inputs t = fault_part t refl (λ k w. behind_broken _ w)

  module _ {i : ℕ} {b : List Row} (inputs : Takes text inputs_lines at before (Ok i) b) where
    abbrev inputs_read : Read text inputs_lines at before i b
    inputs_read = inputs.right i refl

    pub fault_latches : {b' : List Row} {f : Fault} → Takes text latches_lines i b (Err f) b'
        → ReadAs text (parts_of h (lines (drop at text))) before (Err f) b'
    unfolding parts_of
    fault_latches t = fault_part t inputs.same (λ k w. behind_whole _ inputs_read.says ∙ behind_broken _ w)

    module _ {j : ℕ} {b' : List Row} (latches : Takes text latches_lines i b (Ok j) b') where
      abbrev latches_read : Read text latches_lines i b j b'
      latches_read = latches.right j refl

      pub fault_singles : {row : ℕ} {d : List Row} {f : Fault} → Takes text (singles_lines row) j b' (Err f) d
          → ReadAs text (parts_of h (lines (drop at text))) before (Err f) d
      unfolding parts_of
      fault_singles t =
          fault_part t (latches.same ∙ inputs.same)
          (λ k w. behind_whole _ inputs_read.says ∙ (behind_whole _ latches_read.says ∙ behind_broken _ w))

      module _ {row k : ℕ} {d : List Row} (singles : Takes text (singles_lines row) j b' (Ok k) d) where
        abbrev singles_read : Read text (singles_lines row) j b' k d
        singles_read = singles.right k refl

        pub fault_gates : {d' : List Row} {f : Fault} → Takes text gates_lines k d (Err f) d'
            → ReadAs text (parts_of h (lines (drop at text))) before (Err f) d'
        unfolding parts_of
        fault_gates t =
            fault_part t (singles.same ∙ (latches.same ∙ inputs.same))
            (λ m w.
            behind_whole _ inputs_read.says
            ∙ (behind_whole _ latches_read.says ∙ (behind_whole _ singles_read.says ∙ behind_broken _ w)))

        -- all four are whole; those of one literal were written behind the store
        pub parts_right : {m : ℕ} {d' : List Row} → Small h → length b' ≤ row → Takes text gates_lines k d (Ok m) d'
            → ReadAs text (parts_of h (lines (drop at text))) before (Ok (record { header = h; latches = i; singles = j })) d'
        unfolding parts_of
        parts_right {m} small beyond gates =
            let last = gates.right m refl in
            read_kept (record {
              inputs = inputs_read.rows;
              latches = latches_read.rows;
              singles = singles_read.rows;
              gates = last.rows;
              says = behind_whole _ inputs_read.says
                  ∙ (behind_whole _ latches_read.says ∙ (behind_whole _ singles_read.says ∙ behind_whole _ last.says));
              counted = record {
                small = small;
                many_inputs = (part_whole _ _ _ _ inputs_read.says).many;
                many_latches = (part_whole _ _ _ _ latches_read.says).many;
                many_singles = (part_whole _ _ _ _ singles_read.says).many;
                many_gates = (part_whole _ _ _ _ last.says).many;
                latches_again = (_, record { within = inputs_read.within; from = _; line = _; says = latches_read.says });
                singles_again = (_, record { within = latches_read.within; from = _; line = _; says = singles_read.says });
              };
              content = last.content
                  ∙ (ap (λ (i : ℕ). laid i last.rows (flattened d)) (mul-add 3 h.latches h.inputs)
                  ∙ ap (laid (3 * h.latches + 3 * h.inputs) last.rows)
                  (singles_read.content
                  ∙ (laid_beyond (3 * row) singles_read.rows (flattened b') (omega (arith, beyond, flat_length b'))
                  ∙ (latches_read.content ∙ ap (laid 0 latches_read.rows) inputs_read.content))));
            })
            (gates.same ∙ (singles.same ∙ (latches.same ∙ inputs.same)))

-- a header that asks for more than safety
module _ (text : List ℕ) (h : Header) (ls : List (List ℕ)) where
  pub read_justice : {before : List Row} → ((h.justice ≡ 0) × (h.fairness ≡ 0) → ⊥)
      → ReadAs text (behind_header h ls) before (Err (record { refusal = refusal.Justice; line = 1 })) before
  unfolding behind_header asks_justice
  read_justice f =
      read_fault
      (test (eqb h.justice 0 && eqb h.fairness 0)
      (λ b. let p = both _ _ b in absurd (f (eqb-true h.justice 0 p.0, eqb-true h.fairness 0 p.1)))
      (λ b. rw (b, behind_header))) refl

  pub read_safety : {before : List Row} {r : Result Reading Fault} {after : List Row} → h.justice ≡ 0 → h.fairness ≡ 0
      → ReadAs text (parts_of h ls) before r after → ReadAs text (behind_header h ls) before r after
  unfolding behind_header asks_justice
  read_safety e f t = rw (eq-eqb h.justice 0 e, eq-eqb h.fairness 0 f, behind_header) t

-- ---- the whole text, by its first line; an empty text has no line, and an empty line is no header
abbrev pub behind_head : Option Header → List (List ℕ) → Told
behind_head none ls = malformed 20 1
behind_head (some h) ls = behind_header h ls

module _ (newer : Bool) where
  pub tells_line : (l : List ℕ) (ls : List (List ℕ)) → lines_tell newer (l ∷ ls) ≡ behind_head (header_of newer l) ls
  unfolding lines_tell
  tells_line l ls = by_head (header_of newer l) refl
    where
      by_head : (o : Option Header) → header_of newer l ≡ o → lines_tell newer (l ∷ ls) ≡ behind_head o ls
      by_head none e = rw (lines_tell, e)
      by_head (some h) e = rw (lines_tell, e)

  tells_empty : lines_tell newer (lines []) ≡ malformed 20 1
  unfolding lines_tell lines
  tells_empty = refl

  module _ (text : List ℕ) (end : ℕ) (e : end ≡ line_length (drop 0 text)) where
    tells_first : tells newer text ≡ behind_head (header_of newer (take end text)) (lines (drop end text))
    unfolding tells
    tells_first =
        ⊎_elim
        (λ l.
        let w = line_at text 0 l in
        let s : 0 + line_length (drop 0 text) ≡ end = omega arith in
        rw (w.first, s, e) (tells_line _ _))
        (λ l.
        let none : text ≡ [] = drop_of_length-le text {i = 0} l in
        rw (none, take-nil end, head_begins newer [] (λ b. omega (arith, begins_length magic [] b))) tells_empty)
        (lt_or_ge 0 (length text))

    -- the parts are read behind a header, and nothing is read behind any other line
    pub read_header : {h : Header} {before : List Row} {r : Result Reading Fault} {after : List Row} → header_of newer (take end text) ≡ some h
        → ReadAs text (behind_header h (lines (drop end text))) before r after → ReadAs text (tells newer text) before r after
    read_header f t = rw (tells_first ∙ ap (λ o. behind_head o (lines (drop end text))) f) t

    pub read_other : {before : List Row} {f : Fault} → header_of newer (take end text) ≡ none → f ≡ wrong_form 1
        → ReadAs text (tells newer text) before (Err f) before
    read_other e f = rw f (read_fault {f = wrong_form 1} (tells_first ∙ ap (λ o. behind_head o (lines (drop end text))) e) refl)

pub first_within : (text : List ℕ) (end : ℕ) → end ≡ line_length (drop 0 text) → end ≤ length text
first_within text end e = omega (arith, line_end text 0 (suc (length text)) (omega arith) (omega arith))

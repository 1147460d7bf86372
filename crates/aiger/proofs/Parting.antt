-- A part, line by line: after so many lines what is left begins at the next one, and the rows so far stand one behind the other. It ends behind its last
-- line, or at the first that is missing or wrong. Assumes nothing.
use Prim.Native.Nat.{ℕ, suc, ◌+◌, ◌-◌, ◌*◌, ◌≤◌, ◌<◌}
use mathlib.Core.List.{List, [], ◌++◌, append-nil}
use mathlib.Core.Option.{none, some}
use mathlib.Core.Path.{◌≡◌, refl, sym, ap, ◌∙◌}
use native.Mathlib.Omega.{arith}
use lib.ListN.{length, take, drop}
use Rattle.std.specs.Prelude.{Ok, Err}
use Rattle.base.specs.declared.Fault.{Fault}
use Rattle.text.specs.Lines.{lines}
use Rattle.text.specs.Writing.{Writes}
use Rattle.text.proofs.Laying.{writes_then, writes_none}
use Rattle.aiger.specs.Text.{row_of, Part, with_row, part}
use Rattle.aiger.specs.Inner.{row_list, flattened, PutsRow, ReadsLine, wrong_form, part_from, Takes}
use Rattle.aiger.specs.declared.part.Line.{Line}
use Rattle.aiger.specs.declared.part.Lines.{Lines}
use Rattle.aiger.specs.declared.table.Row.{Row}
use Rattle.aiger.proofs.Rows.{with_none, with_both, behind_row, part_next}

-- a row that is put is three numbers that are written
put_writes : {at : ℕ} {row : Row} {before after : List Row} → PutsRow at row before after
    → Writes (3 * at) (row_list row) (flattened before) (3 * at + 3) (flattened after)
put_writes w = record { content = w.content; end = refl }

module _ (text : List ℕ) (l : Lines) (from : ℕ) (before : List Row) where
  abbrev left : ℕ → ℕ → Part
  left k at = part l.form (l.count - k) (l.first + k) (lines (drop at text))

  -- so many of the lines were read
  pub record Taken (k at : ℕ) (store : List Row) : Type 0 where
    pub within : at ≤ length text
    pub rows : List ℕ
    pub says : part_from text l from ≡ with_row rows (left k at)
    pub same : length store ≡ length before
    pub writes : Writes (3 * l.row) rows (flattened before) (3 * (l.row + k)) (flattened store)

  pub taken_none : from ≤ length text → Taken 0 from before
  taken_none h =
      let w = writes_none (3 * l.row) (flattened before) in
      let all : l.count - 0 ≡ l.count = omega arith in
      let first : l.first + 0 ≡ l.first = omega arith in
      record {
        within = h;
        rows = [];
        says = rw (all, first) (sym (with_none (part_from text l from)));
        same = refl;
        writes = record { content = w.content; end = omega (arith, w.end) };
      }

  module _ {k at : ℕ} {store : List Row} (t : Taken k at store) where
    module _ (h : k < l.count) {line : Line} (read : ReadsLine text at line) where
      abbrev bytes : List ℕ
      bytes = take (line.end - at) (drop at text)

      left_next : left k at ≡ behind_row (row_of l.form bytes) (l.first + k) (left (k + 1) line.end)
      left_next =
          let n : l.count - k ≡ suc (l.count - (k + 1)) = omega arith in
          let i : suc (l.first + k) ≡ l.first + (k + 1) = omega arith in
          ap (λ (m : ℕ). part l.form m (l.first + k) (lines (drop at text))) n
          ∙ (part_next l.form (l.count - (k + 1)) (l.first + k) text at line.end t.within read.ends
          ∙ ap (λ (m : ℕ). behind_row (row_of l.form bytes) (l.first + k) (part l.form (l.count - (k + 1)) m (lines (drop line.end text)))) i)

      pub taken_next : row_of l.form bytes ≡ some (row_list line.row) → {after : List Row}
          → PutsRow (l.row + k) line.row store after → Taken (k + 1) line.end after
      taken_next e w =
          let both = writes_then t.writes (put_writes w) in
          record {
            within = read.within;
            rows = t.rows ++ row_list line.row;
            says = t.says
                ∙ (ap (with_row t.rows) (left_next ∙ ap (λ o. behind_row o (l.first + k) (left (k + 1) line.end)) e)
                ∙ with_both t.rows (row_list line.row) (left (k + 1) line.end));
            same = w.same ∙ t.same;
            writes = record { content = both.content; end = omega (arith, both.end) };
          }

      pub taken_wrong : row_of l.form bytes ≡ none → {f : Fault} → f ≡ wrong_form (l.first + k) → Takes text l from before (Err f) store
      unfolding with_row
      taken_wrong e {f} q =
          record {
            same = t.same;
            wrong = λ g r.
                let same : g ≡ wrong_form (l.first + k) = cc in
                rw same
                (refl, t.says ∙ ap (with_row t.rows) (left_next ∙ ap (λ o. behind_row o (l.first + k) (left (k + 1) line.end)) e));
            right = λ end r. cc;
          }

    pub taken_all : k ≡ l.count → Takes text l from before (Ok at) store
    unfolding with_row part
    taken_all e =
        record {
          same = t.same;
          wrong = λ f r. cc;
          right = λ end r.
              let same : at ≡ end = cc in
              let none : l.count - k ≡ 0 = omega arith in
              rw (← same)
              (record {
                rows = t.rows;
                says = t.says ∙ rw (none, e, append-nil);
                content = t.writes.content;
                within = t.within;
              });
        }

-- Literals that stand alone, in three pieces: outputs, bad-state lines, constraints. A part of so many lines and so many more is two parts, one behind
-- the other, so each piece is a part that is read from where the one before it ends, and what is said of all literals is said of the three pieces.
-- Assumes nothing.
use Prim.Native.Nat.{ℕ, zero, suc, ◌+◌, ◌*◌}
use mathlib.Core.Bool.{Bool, true, false, ◌&&◌, and_assoc}
use mathlib.Core.List.{List, [], ◌∷◌, ◌++◌, append_assoc}
use mathlib.Core.Path.{◌≡◌, refl, sym, ap, ap₂, ◌∙◌}
use native.Mathlib.Nat.{suc-add}
use native.Mathlib.Omega.{arith}
use lib.Dec.{eqb}
use lib.ListN.{length, take, drop, length-append}
use lib.Seq.{take_at, drop_at}
use Rattle.std.specs.Prelude.{None, Some}
use Rattle.text.specs.Lines.{lines}
use Rattle.system.specs.declared.Clause.{Clause}
use Rattle.circuit.specs.Circuit.{every}
use Rattle.circuit.specs.Import.{empty, marks}
use Rattle.circuit.proofs.Lists.{every_append}
use Rattle.aiger.specs.Text.{row_of, whole, with_row, part, firsts, vars, uses, singles_of}
use Rattle.aiger.specs.Inner.{known_in, place_by, Again, ReadAgain, Watches, watched_of, Sees}
use Rattle.aiger.specs.declared.part.Form.{Form}
use Rattle.aiger.specs.declared.read.Header.{Header}
use Rattle.aiger.specs.declared.again.Watched.{Watched}
use Rattle.aiger.proofs.Rows.{behind_row, part_line, part_clash, part_whole}
use Rattle.aiger.proofs.Rereading.{opens}
use Rattle.aiger.proofs.Threes.{threes_append, length_threes}

-- ---- a part in two
record Split (f : Form) (a b k : ℕ) (ls : List (List ℕ)) (rows : List ℕ) (m : ℕ) (others : List (List ℕ)) : Type 0 where
  front : List ℕ
  back : List ℕ
  line : ℕ
  between : List (List ℕ)
  first : part f a k ls ≡ whole front line between
  second : part f b line between ≡ whole back m others
  both : rows ≡ front ++ back

part_split : (f : Form) (a b k : ℕ) (ls : List (List ℕ)) {rows : List ℕ} {m : ℕ} {others : List (List ℕ)} → part f (a + b) k ls ≡ whole rows m others
    → Split f a b k ls rows m others
unfolding part with_row
part_split f zero b k ls {rows} e =
    let none : 0 + b ≡ b = omega arith in
    record { front = []; back = rows; line = k; between = ls; first = refl; second = rw none at e; both = refl }
part_split f (suc a) b k [] e = part_clash (rw (suc-add a b) at e)
part_split f (suc a) b k (l ∷ ls) e =
    let o = opens (row_of f l) k (part f (a + b) (suc k) ls) (sym (part_line f (a + b) k l ls) ∙ (rw (suc-add a b) at e)) in
    let s = part_split f a b (suc k) ls {rows = o.later} o.follow in
    record {
      front = o.row ++ s.front;
      back = s.back;
      line = s.line;
      between = s.between;
      first = part_line f a k l ls ∙ ap₂ (λ r p. behind_row r k p) o.first s.first;
      second = s.second;
      both = o.all ∙ (ap (λ (x : List ℕ). o.row ++ x) s.both ∙ sym (append_assoc o.row s.front s.back));
    }

-- ---- the three pieces
module _ (text : List ℕ) (h : Header) (at : ℕ) (singles : List ℕ) where
  record Pieces : Type 0 where
    outputs : List ℕ
    bads : List ℕ
    constraints : List ℕ
    others : List (List ℕ)
    after_outputs : List (List ℕ)
    after_bads : List (List ℕ)
    line_1 : ℕ
    line_2 : ℕ
    first : Again text (uses h) at h.outputs outputs after_outputs
    second : part (uses h) h.bads line_1 after_outputs ≡ whole bads line_2 after_bads
    third : (line : ℕ) × (part (uses h) h.constraints line_2 after_bads ≡ whole constraints line others)
    all : singles ≡ (outputs ++ bads) ++ constraints
    many_outputs : length outputs ≡ 3 * h.outputs
    many_bads : length bads ≡ 3 * h.bads

  pieces : ReadAgain text (uses h) at (singles_of h) singles → Pieces
  pieces (others, w) =
      let s = part_split (uses h) (h.outputs + h.bads) h.constraints w.from _ w.says in
      let t = part_split (uses h) h.outputs h.bads w.from _ {rows = s.front} s.first in
      record {
        outputs = t.front;
        bads = t.back;
        constraints = s.back;
        others = others;
        after_outputs = t.between;
        after_bads = s.between;
        line_1 = t.line;
        line_2 = s.line;
        first = record { within = w.within; from = w.from; line = t.line; says = t.first };
        second = t.second;
        third = (w.line, s.second);
        all = s.both ∙ ap (λ (x : List ℕ). x ++ s.back) t.both;
        many_outputs = (part_whole _ _ _ _ t.first).many;
        many_bads = (part_whole _ _ _ _ t.second).many;
      }

  -- their literals
  module _ (r : Pieces) where
    abbrev a : List ℕ
    a = firsts r.outputs

    abbrev b : List ℕ
    b = firsts r.bads

    abbrev c : List ℕ
    c = firsts r.constraints

    length_a : length a ≡ h.outputs
    length_a = length_threes _ r.outputs ∙ omega (arith, r.many_outputs)

    length_b : length b ≡ h.bads
    length_b = length_threes _ r.bads ∙ omega (arith, r.many_bads)

    literals : firsts singles ≡ (a ++ b) ++ c
    literals =
        ap firsts r.all
        ∙ (threes_append _ (r.outputs ++ r.bads) r.constraints (h.outputs + h.bads)
        (omega (arith, length-append r.outputs r.bads, r.many_outputs, r.many_bads))
        ∙ ap (λ (l : List ℕ). l ++ c) (threes_append _ r.outputs r.bads h.outputs r.many_outputs))

    literals_outputs : take h.outputs (firsts singles) ≡ a
    literals_outputs = rw (literals, append_assoc a b c) (take_at a (b ++ c) h.outputs length_a)

    literals_bads : take h.bads (drop h.outputs (firsts singles)) ≡ b
    literals_bads = rw (literals, append_assoc a b c, drop_at a (b ++ c) h.outputs length_a) (take_at b c h.bads length_b)

    literals_constraints : drop (h.outputs + h.bads) (firsts singles) ≡ c
    literals_constraints = rw literals (drop_at (a ++ b) c (h.outputs + h.bads) (omega (arith, length-append a b, length_a, length_b)))

-- ---- what was seen
module _ (text rows : List ℕ) (latches : ℕ) (h : Header) (at : ℕ) where
  abbrev known : List ℕ → Bool
  known = every (known_in (vars rows))

  abbrev marked : List ℕ → Clause
  marked = marks (place_by rows latches) empty

  -- all are known if those of each piece are
  known_pieces : (singles : List ℕ) (r : Pieces text h at singles) {a b c : Bool} → known (firsts r.outputs) ≡ a → known (firsts r.bads) ≡ b
      → known (firsts r.constraints) ≡ c → known (firsts singles) ≡ (a && (b && c))
  known_pieces singles r p q s =
      ap known (literals text h at singles r)
      ∙ (every_append (known_in (vars rows)) (firsts r.outputs ++ firsts r.bads) (firsts r.constraints)
      ∙ (ap (λ (t : Bool). t && known (firsts r.constraints)) (every_append (known_in (vars rows)) (firsts r.outputs) (firsts r.bads))
      ∙ (and_assoc (known (firsts r.outputs)) (known (firsts r.bads)) (known (firsts r.constraints)) ∙ rw (p, q, s))))

  -- a run with one that is not known
  unseen : ((singles : List ℕ) → ReadAgain text (uses h) at (singles_of h) singles → known (firsts singles) ≡ false)
      → Sees text h at rows latches None
  unseen f = record { within = λ q e. cc; unknown = λ e. f; says = λ q e. cc }

  pub unseen_outputs : Watches text at h.outputs rows latches None → Sees text h at rows latches None
  unseen_outputs o =
      unseen (λ singles w.
      let r = pieces text h at singles w in
      known_pieces singles r (o.unknown refl h r.outputs _ r.first) refl refl)

  module _ {x : Watched} (o : Watches text at h.outputs rows latches (Some x)) where
    abbrev outputs_seen : {singles : List ℕ} (r : Pieces text h at singles)
        → (known (firsts r.outputs) ≡ true) × (x.clause ≡ marked (firsts r.outputs)) × (r.after_outputs ≡ lines (drop x.at text))
    outputs_seen r = o.says x refl h r.outputs _ r.first

    bads_again : {singles : List ℕ} (r : Pieces text h at singles) → Again text (uses h) x.at h.bads r.bads r.after_bads
    bads_again r = record { within = o.within x refl; from = r.line_1; line = r.line_2; says = rw (outputs_seen r).2 at r.second }

    pub unseen_bads : Watches text x.at h.bads rows latches None → Sees text h at rows latches None
    unseen_bads b =
        unseen (λ singles w.
        let r = pieces text h at singles w in
        known_pieces singles r (outputs_seen r).0 (b.unknown refl h r.bads _ (bads_again r)) refl)

    module _ {y : Watched} (b : Watches text x.at h.bads rows latches (Some y)) where
      abbrev bads_seen : {singles : List ℕ} (r : Pieces text h at singles)
          → (known (firsts r.bads) ≡ true) × (y.clause ≡ marked (firsts r.bads)) × (r.after_bads ≡ lines (drop y.at text))
      bads_seen r = b.says y refl h r.bads _ (bads_again r)

      constraints_again : {singles : List ℕ} (r : Pieces text h at singles) → Again text (uses h) y.at h.constraints r.constraints r.others
      constraints_again r = record { within = b.within y refl; from = r.line_2; line = r.third.0; says = rw (bads_seen r).2 at r.third.1 }

      pub unseen_constraints : Watches text y.at h.constraints rows latches None → Sees text h at rows latches None
      unseen_constraints c =
          unseen (λ singles w.
          let r = pieces text h at singles w in
          known_pieces singles r (outputs_seen r).0 (bads_seen r).0 (c.unknown refl h r.constraints _ (constraints_again r)))

      -- which of two
      chosen : (t : Bool) (p q : Clause) (u v : List ℕ) → p ≡ marked u → q ≡ marked v
          → (elim t as (λ t. Clause) [ true ↦ p | false ↦ q ]) ≡ marked (elim t as (λ t. List ℕ) [ true ↦ u | false ↦ v ])
      chosen true p q u v e f = e
      chosen false p q u v e f = f

      pub sees : {z : Watched} → Watches text y.at h.constraints rows latches (Some z) → (clause : Clause)
          → clause ≡ (elim (eqb h.bads 0) as (λ t. Clause) [ true ↦ x.clause | false ↦ y.clause ])
          → Sees text h at rows latches (Some (record { watched = clause; constraints = y.at }))
      unfolding watched_of
      sees {z} c clause f =
          record {
            within = λ q e. let same : record { watched = clause; constraints = y.at } ≡ q = cc in rw (← same) (b.within y refl);
            unknown = λ e. cc;
            says = λ q e singles w.
                let same : record { watched = clause; constraints = y.at } ≡ q = cc in
                let r = pieces text h at singles w in
                rw (← same) (
                  known_pieces singles r (outputs_seen r).0 (bads_seen r).0 (c.says z refl h r.constraints r.others (constraints_again r)).0,
                  f
                      ∙ chosen (eqb h.bads 0) x.clause y.clause _ _
                      ((outputs_seen r).1 ∙ ap marked (sym (literals_outputs text h at singles r)))
                      ((bads_seen r).1 ∙ ap marked (sym (literals_bads text h at singles r))),
                  record {
                    header = h;
                    rows = r.constraints;
                    again = (r.others, constraints_again r);
                    literals_are = literals_constraints text h at singles r;
                  },
                );
          }

-- Lines that are read again. Their part is whole, so each of them is there and has a row, which the code finds, and the lines behind it are a whole part
-- again. So what is said of all of them is said of what was gathered and of those that are left. Assumes nothing.
use Prim.Native.Nat.{ℕ, suc, ◌+◌, ◌-◌, ◌*◌, ◌/◌, ◌%◌, ◌≤◌, ◌<◌}
use mathlib.Core.Bool.{Bool, true, false, not, ◌||◌, or-true}
use mathlib.Core.List.{List, [], ◌∷◌, ◌++◌}
use mathlib.Core.Logic.{◌⊎◌, inl, inr, ⊎_elim}
use mathlib.Core.Option.{Option, none, some}
use mathlib.Core.Path.{◌≡◌, refl, sym, ap, ◌∙◌}
use native.Mathlib.Nat.{eq-zero-or-pos}
use native.Mathlib.Omega.{arith}
use borrow.Author.Tests.{eq-eqb, ne_eqb}
use lib.Dec.{eqb}
use lib.ListN.{length, take, drop}
use Rattle.base.proofs.Tests.{clash}
use Rattle.std.specs.Prelude.{None, Some}
use Rattle.text.specs.Lines.{lines}
use Rattle.text.specs.Writing.{Writes}
use Rattle.system.specs.declared.Clause.{Clause}
use Rattle.circuit.specs.Circuit.{Latch, any, every}
use Rattle.circuit.specs.Refusals.{wrong_start, right_starts}
use Rattle.circuit.specs.Import.{Place, empty, mark, marks, constraint_clauses, flat}
use Rattle.aiger.specs.Text.{row_of, Part, broken, whole, with_row, part, threes, firsts, vars, latches_of, latch_form, uses}
use Rattle.aiger.specs.Inner.{row_list, ReadsLine, known_in, place_by, Again, ReadAgain, RightStarts, Watches, Constraints}
use Rattle.aiger.specs.declared.part.Form.{Form}
use Rattle.aiger.specs.declared.part.Line.{Line}
use Rattle.aiger.specs.declared.read.Header.{Header}
use Rattle.aiger.proofs.Rows.{behind_row, part_clash, part_next, row_found}
use Rattle.aiger.proofs.Writing.{Going, going_none, going_then, going_ends, flat_append}

-- ---- a part that is whole
-- its first line has a row, and what follows that is whole
pub record Opens (o : Option (List ℕ)) (p : Part) (rows : List ℕ) (line : ℕ) (others : List (List ℕ)) : Type 0 where
  pub row : List ℕ
  pub later : List ℕ
  pub first : o ≡ some row
  pub follow : p ≡ whole later line others
  pub all : rows ≡ row ++ later

pub opens : (o : Option (List ℕ)) (k : ℕ) (p : Part) {rows : List ℕ} {line : ℕ} {others : List (List ℕ)}
    → behind_row o k p ≡ whole rows line others → Opens o p rows line others
unfolding with_row
opens none k p e = part_clash e
opens (some row) k (broken j) e = part_clash e
opens (some row) k (whole later j ls) e = record { row = row; later = later; first = refl; follow = cc; all = cc }

-- ---- so many lines from a place on have these rows
pub record Left (text : List ℕ) (f : Form) (line : ℕ) (others : List (List ℕ)) (at left : ℕ) (rest : List ℕ) : Type 0 where
  pub from : ℕ
  pub says : part f left from (lines (drop at text)) ≡ whole rest line others

module _ {text : List ℕ} {f : Form} {line : ℕ} {others : List (List ℕ)} {at left : ℕ} {rest : List ℕ}
    (l : Left text f line others at left rest) where
  -- none is left
  pub left_none : left ≡ 0 → (rest ≡ []) × (others ≡ lines (drop at text))
  unfolding part
  left_none e = let says = rw e at l.says in (cc, cc)

  -- the next one is read: its row is what the code finds
  pub record Follows (next : Line) : Type 0 where
    pub later : List ℕ
    pub same : rest ≡ row_list next.row ++ later
    pub even : f.defines ≡ true → next.row.literal % 2 ≡ 0
    pub still : Left text f line others next.end (left - 1) later

  pub left_next : f.width ≤ 3 → (f.starts ≡ true → f.width ≤ 2) → 0 < left → at ≤ length text → {next : Line} → ReadsLine text at next → Follows next
  left_next most more least within {next} n =
      let one : left ≡ suc (left - 1) = omega arith in
      let bytes : List ℕ = take (next.end - at) (drop at text) in
      let behind = part_next f (left - 1) l.from text at next.end within n.ends in
      let others_left : Part = part f (left - 1) (suc l.from) (lines (drop next.end text)) in
      let o = opens (row_of f bytes) l.from others_left (sym behind ∙ (rw one at l.says)) in
      let found = row_found f bytes most more o.first n.numbered in
      let row : o.row ≡ row_list next.row = found.0 ∙ sym n.row in
      record {
        later = o.later;
        same = rw row at o.all;
        even = λ d. rw row at (found.1 d);
        still = record { from = suc l.from; says = o.follow };
      }

-- ---- start values
-- by the test that the code makes
module _ (a b c : ℕ) (even : a % 2 ≡ 0) where
  abbrev latch : Latch
  latch = record { var = a / 2; next = b; start = c }

  start_wrong : 1 < c → (c ≡ a → ⊥) → wrong_start latch ≡ true
  unfolding wrong_start
  start_wrong h f =
      rw (ne_eqb c 0 (λ e. omega arith), ne_eqb c 1 (λ e. omega arith), ne_eqb c (2 * (a / 2)) (λ e. f (omega arith)))

  start_right : (c ≤ 1) ⊎ (c ≡ a) → wrong_start latch ≡ false
  unfolding wrong_start
  start_right (inl h) =
      ⊎_elim (λ e. rw (eq-eqb c 0 e)) (λ l. rw (eq-eqb c 1 (omega arith)) (ap not (or-true (eqb c 0)))) (eq-zero-or-pos c)
  start_right (inr e) =
      rw (eq-eqb c (2 * (a / 2)) (omega arith)) (ap not (ap (λ (t : Bool). eqb c 0 || t) (or-true (eqb c 1)) ∙ or-true (eqb c 0)))

-- of latches that are read again, so many are right, and these are left
pub record RightSoFar (text : List ℕ) (h : Header) (latches : List ℕ) (at left right : ℕ) : Type 0 where
  pub rest : List ℕ
  pub line : ℕ
  pub others : List (List ℕ)
  pub still : Left text (latch_form h) line others at left rest
  pub wrong : any wrong_start (latches_of latches) ≡ any wrong_start (latches_of rest)
  pub all : right_starts (latches_of latches) ≡ right + right_starts (latches_of rest)

abbrev pub Starting : List ℕ → ℕ → ℕ → ℕ → ℕ → Type 0
Starting text from count at right =
    (h : Header) (latches : List ℕ) → ReadAgain text (latch_form h) from count latches → RightSoFar text h latches at (count - right) right

pub starting_first : (text : List ℕ) (from count : ℕ) → Starting text from count from 0
starting_first text from count h latches (others, w) =
    let same : count - 0 ≡ count = omega arith in
    record {
      rest = latches;
      line = w.line;
      others = others;
      still = rw same (record { from = w.from; says = w.says });
      wrong = refl;
      all = omega arith;
    }

module _ {text : List ℕ} {h : Header} {latches : List ℕ} {at count right : ℕ} (s : RightSoFar text h latches at (count - right) right) where
  pub starting_last : count ≤ right → any wrong_start (latches_of latches) ≡ false
  unfolding threes any
  starting_last l = let e = (left_none s.still (omega arith)).0 in s.wrong ∙ rw e

  module _ (within : at ≤ length text) (least : right < count) {next : Line} (n : ReadsLine text at next) where
    follows : Follows s.still next
    follows = left_next s.still (omega arith) (λ e. omega arith) (omega arith) within n

    pub starting_wrong : 1 < next.row.third → (next.row.third ≡ next.row.literal → ⊥)
        → (any wrong_start (latches_of latches) ≡ true) × (right ≡ right_starts (latches_of latches))
    unfolding threes right_starts any
    starting_wrong c f =
        let e = start_wrong next.row.literal next.row.second next.row.third (follows.even refl) c f in (
          s.wrong ∙ (ap (λ (l : List ℕ). any wrong_start (latches_of l)) follows.same ∙ rw e),
          sym (s.all ∙ (ap (λ (l : List ℕ). right + right_starts (latches_of l)) follows.same ∙ rw (e, right_starts) (omega arith))),
        )

    pub starting_next : (next.row.third ≤ 1) ⊎ (next.row.third ≡ next.row.literal)
        → RightSoFar text h latches next.end (count - (right + 1)) (right + 1)
    unfolding threes right_starts any
    starting_next c =
        let e = start_right next.row.literal next.row.second next.row.third (follows.even refl) c in
        let fewer : count - right - 1 ≡ count - (right + 1) = omega arith in
        record {
          rest = follows.later;
          line = s.line;
          others = s.others;
          still = rw fewer at follows.still;
          wrong = s.wrong ∙ (ap (λ (l : List ℕ). any wrong_start (latches_of l)) follows.same ∙ rw e);
          all = s.all ∙ (ap (λ (l : List ℕ). right + right_starts (latches_of l)) follows.same ∙ rw (e, right_starts) (omega arith));
        }

-- what is answered
module _ {text : List ℕ} {from count : ℕ} where
  pub all_right : ((h : Header) (latches : List ℕ) → ReadAgain text (latch_form h) from count latches → any wrong_start (latches_of latches) ≡ false)
      → RightStarts text from count None
  all_right f = record { few = λ k e. cc; right = λ e. f; wrong = λ k e. cc }

  pub one_wrong : {k : ℕ} → k < count → ((h : Header) (latches : List ℕ) → ReadAgain text (latch_form h) from count latches
      → (any wrong_start (latches_of latches) ≡ true) × (k ≡ right_starts (latches_of latches)))
      → RightStarts text from count (Some k)
  one_wrong {k} l f =
      record {
        few = λ j e. let same : k ≡ j = cc in omega arith;
        right = λ e. cc;
        wrong = λ j e. let same : k ≡ j = cc in rw (← same) f;
      }

-- ---- literals that stand alone
module _ (text rows : List ℕ) (latches : ℕ) where
  abbrev all_in : List ℕ → Bool
  all_in singles = every (known_in (vars rows)) (firsts singles)

  abbrev marked : Clause → List ℕ → Clause
  marked m singles = marks (place_by rows latches) m (firsts singles)

  -- what is left of some, with what was gathered: those in front are known
  pub record Gathered (h : Header) (singles : List ℕ) (others : List (List ℕ)) (at left : ℕ) (clause : Clause) : Type 0 where
    pub rest : List ℕ
    pub line : ℕ
    pub still : Left text (uses h) line others at left rest
    pub all_known : all_in singles ≡ all_in rest
    pub all_marked : marked empty singles ≡ marked clause rest

  abbrev pub Gathering : ℕ → ℕ → ℕ → ℕ → Clause → Type 0
  Gathering at₀ left₀ at left clause =
      (h : Header) (singles : List ℕ) (others : List (List ℕ)) → Again text (uses h) at₀ left₀ singles others
      → Gathered h singles others at left clause

  pub gathering_first : (at left : ℕ) → Gathering at left at (left - 0) empty
  gathering_first at left h singles others w =
      let same : left - 0 ≡ left = omega arith in
      rw same
      (record { rest = singles; line = w.line; still = record { from = w.from; says = w.says }; all_known = refl; all_marked = refl })

  module _ {h : Header} {singles : List ℕ} {others : List (List ℕ)} {at left : ℕ} {clause : Clause} (g : Gathered h singles others at left clause) where
    -- all is gathered
    pub gathered_all : left ≡ 0 → (all_in singles ≡ true) × (clause ≡ marked empty singles) × (others ≡ lines (drop at text))
    unfolding threes every marks
    gathered_all e =
        let q = left_none g.still e in
        (g.all_known ∙ rw q.0, sym (g.all_marked ∙ rw q.0), q.1)

    module _ (least : 0 < left) (within : at ≤ length text) {next : Line} (n : ReadsLine text at next) where
      following : Follows g.still next
      following = left_next g.still (omega arith) (λ e. clash e refl) least within n

      pub gathered_unknown : known_in (vars rows) next.row.literal ≡ false → all_in singles ≡ false
      unfolding threes every
      gathered_unknown e = g.all_known ∙ (ap (λ (l : List ℕ). all_in l) following.same ∙ rw e)

      pub gathered_next : known_in (vars rows) next.row.literal ≡ true
          → (clause' : Clause) → clause' ≡ mark (place_by rows latches (next.row.literal / 2)) (next.row.literal % 2) clause
          → {fewer : ℕ} → fewer ≡ left - 1 → Gathered h singles others next.end fewer clause'
      unfolding threes every marks
      gathered_next e clause' q m =
          rw (q, m)
          (record {
            rest = following.later;
            line = g.line;
            still = following.still;
            all_known = g.all_known ∙ (ap (λ (l : List ℕ). all_in l) following.same ∙ rw e);
            all_marked = g.all_marked ∙ ap (marked clause) following.same;
          })

  -- what is watched of a run, and that one of it is not known
  module _ (first count : ℕ) {at left : ℕ} {clause : Clause} (g : Gathering first count at left clause) where
    pub watches : at ≤ length text → left ≡ 0 → Watches text first count rows latches (Some (record { clause = clause; at = at }))
    watches within e =
        record {
          within = λ q f. let same : record { clause = clause; at = at } ≡ q = cc in rw (← same) within;
          unknown = λ f. cc;
          says = λ q f h singles others again.
              let same : record { clause = clause; at = at } ≡ q = cc in
              rw (← same) (gathered_all (g h singles others again) e);
        }

    pub unwatched : 0 < left → at ≤ length text → {next : Line} → ReadsLine text at next → known_in (vars rows) next.row.literal ≡ false
        → Watches text first count rows latches None
    unwatched least within n e =
        record {
          within = λ q f. cc;
          unknown = λ f h singles others again. gathered_unknown (g h singles others again) least within n e;
          says = λ q f. cc;
        }

-- ---- constraints
module _ (text : List ℕ) (place : ℕ → Place) where
  abbrev clauses_of : List ℕ → List ℕ
  clauses_of literals = flat (constraint_clauses place literals)

  -- what is left of some, with what was written
  pub record Putting (h : Header) (literals : List ℕ) (at left from : ℕ) (before : List ℕ) (end : ℕ) (store : List ℕ) : Type 0 where
    pub rest : List ℕ
    pub line : ℕ
    pub others : List (List ℕ)
    pub still : Left text (uses h) line others at left rest
    pub going : Going (clauses_of literals) (clauses_of (firsts rest)) from before end store

  pub putting_first : (at count : ℕ) (literals : List ℕ) (c : Constraints text at count literals) (from : ℕ) (before : List ℕ)
      → Putting c.header literals at (count - 0) from before from before
  putting_first at count literals c from before =
      let w = c.again.1 in
      let same : count - 0 ≡ count = omega arith in
      rw same
      (record {
        rest = c.rows;
        line = w.line;
        others = c.again.0;
        still = record { from = w.from; says = w.says };
        going = rw c.literals_are (going_none (clauses_of (firsts c.rows)) from before);
      })

  module _ {h : Header} {literals : List ℕ} {at left from : ℕ} {before : List ℕ} {end : ℕ} {store : List ℕ}
      (p : Putting h literals at left from before end store) where
    pub putting_last : left ≡ 0 → Writes from (clauses_of literals) before end store
    unfolding threes constraint_clauses flat
    putting_last e = going_ends p.going (rw (left_none p.still e).0)

    pub putting_next : 0 < left → at ≤ length text → {next : Line} → ReadsLine text at next → (m : Clause)
        → m ≡ mark (place (next.row.literal / 2)) (next.row.literal % 2) empty → {end' : ℕ} {store' : List ℕ} → Writes end (flat (m ∷ [])) store end' store'
        → {fewer : ℕ} → fewer ≡ left - 1 → Putting h literals next.end fewer from before end' store'
    unfolding threes constraint_clauses marks
    putting_next least within n m e v f =
        let w = left_next p.still (omega arith) (λ e. clash e refl) least within n in
        rw f
        (record {
          rest = w.later;
          line = p.line;
          others = p.others;
          still = w.still;
          going = going_then p.going
              (ap (λ (l : List ℕ). clauses_of (firsts l)) w.same ∙ rw e (flat_append (_ ∷ []) (constraint_clauses place (firsts w.later)))) v;
        })

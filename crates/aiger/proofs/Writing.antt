-- Clauses written row by row: what was written, and what of the whole is still to be. Then where the clauses of one latch and of one gate stand in
-- front of those of the others. Assumes nothing.
use Prim.Native.Nat.{ℕ, zero, suc, ◌+◌, ◌-◌, ◌*◌, ◌/◌, ◌%◌, ◌≤◌, ◌<◌}
use mathlib.Core.List.{List, [], ◌∷◌, ◌++◌, append_assoc, append-nil}
use mathlib.Core.Logic.{◌⊎◌, inl, inr, ⊎_elim}
use mathlib.Core.Path.{◌≡◌, refl, sym, ap, ◌∙◌}
use native.Mathlib.Nat.{eq-zero-or-pos}
use native.Mathlib.Numerals.{add-one}
use native.Mathlib.Omega.{arith}
use lib.ListN.{length, get_or, drop}
use Rattle.text.specs.Writing.{Writes}
use Rattle.text.proofs.Laying.{writes_then, writes_none}
use Rattle.masks.specs.declared.Mask.{Mask}
use Rattle.system.specs.declared.Clause.{Clause}
use Rattle.circuit.specs.Circuit.{Latch, first}
use Rattle.circuit.specs.Import.{Place, here, clause, with_place, flip, marks, empty, mark, start_clauses, latch_clauses, gate_clauses, flat}
use Rattle.aiger.specs.Text.{latches_of, gates_of}
use Rattle.aiger.specs.Inner.{no_row, flattened, starting_at, latch_of, gate_of}
use Rattle.aiger.specs.declared.table.Row.{Row}
use Rattle.aiger.proofs.Threes.{threes_next}

-- of the masks `all`, all but `rest` were written from index `from` on, and end at index `at`
pub record Going (all rest : List ℕ) (from : ℕ) (before : List ℕ) (at : ℕ) (store : List ℕ) : Type 0 where
  pub done : List ℕ
  pub writes : Writes from done before at store
  pub whole : all ≡ done ++ rest

pub going_none : (all : List ℕ) (from : ℕ) (before : List ℕ) → Going all all from before from before
going_none all from before = record { done = []; writes = writes_none from before; whole = refl }

module _ {all rest : List ℕ} {from : ℕ} {before : List ℕ} {at : ℕ} {store : List ℕ} (g : Going all rest from before at store) where
  pub going_then : {w more : List ℕ} {at' : ℕ} {store' : List ℕ} → rest ≡ w ++ more → Writes at w store at' store'
      → Going all more from before at' store'
  going_then {w} {more} e v =
      record {
        done = g.done ++ w;
        writes = writes_then g.writes v;
        whole = g.whole ∙ (ap (λ l. g.done ++ l) e ∙ sym (append_assoc g.done w more));
      }

  pub going_ends : rest ≡ [] → Writes from all before at store
  going_ends e = rw (g.whole ∙ (ap (λ l. g.done ++ l) e ∙ append-nil g.done)) g.writes

-- ---- the masks of clauses one behind the other
pub flat_append : (a b : List Clause) → flat (a ++ b) ≡ flat a ++ flat b
unfolding flat
flat_append [] b = refl
flat_append (m ∷ ms) b =
    ap {B = List ℕ} (λ l. m.ones.pair ∷ (m.zeros.pair ∷ (m.ones.wires ∷ (m.zeros.wires ∷ l)))) (flat_append ms b)

pub clause_end : {at : ℕ} (m : Clause) {before : List ℕ} {r : ℕ} {after : List ℕ} → Writes at (flat (m ∷ [])) before r after → r ≡ at + 4
unfolding flat
clause_end m w = w.end

-- a position of the pair more in a clause that was made
pub with_plain : (k : ℕ) (r m : Clause) (ones : Mask) → r ≡ m → ones ≡ with_place (here k) r.ones → clause ones r.zeros ≡ mark (here k) 0 m
unfolding mark
with_plain k r m ones e o = rw (o, e)

pub with_inverted : (k : ℕ) (r m : Clause) (zeros : Mask) → r ≡ m → zeros ≡ with_place (here k) r.zeros → clause r.ones zeros ≡ mark (here k) 1 m
unfolding mark
with_inverted k r m zeros e z = rw (z, e)

-- ---- a latch's start clause, by its start value
pub start_zero : (k start : ℕ) (m : Clause) → start ≡ 0 → m ≡ mark (here k) 1 empty → flat (m ∷ []) ≡ flat (start_clauses k (starting_at start ∷ []))
unfolding start_clauses first
start_zero k start m s e = rw (s, e)

pub start_one : (k start : ℕ) (m : Clause) → start ≡ 1 → m ≡ mark (here k) 0 empty → flat (m ∷ []) ≡ flat (start_clauses k (starting_at start ∷ []))
unfolding start_clauses first
start_one k start m s e = rw (s, e)

pub start_either : (k start : ℕ) → 1 < start → flat (start_clauses k (starting_at start ∷ [])) ≡ []
unfolding start_clauses first flat
start_either k zero h = absurd (omega arith)
start_either k (suc zero) h = absurd (omega arith)
start_either k (suc (suc r)) h = refl

pub start_end : {at : ℕ} (k start : ℕ) {before : List ℕ} {r : ℕ} {after : List ℕ}
    → Writes at (flat (start_clauses k (starting_at start ∷ []))) before r after → r ≤ at + 4
unfolding start_clauses first flat
start_end k zero w = omega (arith, w.end)
start_end k (suc zero) w = omega (arith, w.end)
start_end k (suc (suc q)) w = omega (arith, w.end)

-- in front of those of the other latches
start_first : (k var next start : ℕ) (ls : List Latch)
    → start_clauses k (record { var = var; next = next; start = start } ∷ ls) ≡ start_clauses k (starting_at start ∷ []) ++ start_clauses (suc k) ls
unfolding start_clauses first
start_first k var next zero ls = refl
start_first k var next (suc zero) ls = refl
start_first k var next (suc (suc r)) ls = refl

pub start_next : (latches : List Row) (k : ℕ) → k < length latches
    → flat (start_clauses k (latches_of (flattened (drop k latches))))
    ≡ flat (start_clauses k (starting_at (get_or latches k no_row).third ∷ [])) ++ flat (start_clauses (k + 1) (latches_of (flattened (drop (k + 1) latches))))
start_next latches k h = rw (threes_next _ latches k h, add-one k) (ap flat (start_first k _ _ _ _) ∙ flat_append _ _)

-- ---- an inverted literal: the same variable, the other sign
sign_or : (l : ℕ) → (l % 2 ≡ 0) ⊎ (l % 2 ≡ 1)
sign_or l = ⊎_elim inl (λ p. inr (omega arith)) (eq-zero-or-pos (l % 2))

flip_even : (l : ℕ) → l % 2 ≡ 0 → flip l ≡ l + 1
unfolding flip
flip_even l e = rw (e, flip)

flip_odd : (l : ℕ) → l % 2 ≡ 1 → flip l ≡ l - 1
unfolding flip
flip_odd l e = rw (e, flip)

flip_half : (l : ℕ) → flip l / 2 ≡ l / 2
flip_half l = ⊎_elim (λ e. omega (arith, flip_even l e)) (λ e. omega (arith, flip_odd l e)) (sign_or l)

flip_sign : (l : ℕ) → flip l % 2 ≡ 1 - l % 2
flip_sign l = ⊎_elim (λ e. omega (arith, flip_even l e)) (λ e. omega (arith, flip_odd l e)) (sign_or l)

module _ (place : ℕ → Place) where
  -- the clause of one literal, by its variable and sign
  abbrev pub literal_in : ℕ → Clause → Clause
  literal_in l m = mark (place (l / 2)) (l % 2) m

  abbrev pub inverted_in : ℕ → Clause → Clause
  inverted_in l m = mark (place (l / 2)) (1 - l % 2) m

  -- ---- a latch's two clauses
  pub latch_masks : (k next : ℕ) (a b : Clause) → a ≡ mark (here (32 + k)) 0 (inverted_in next empty)
      → b ≡ mark (here (32 + k)) 1 (literal_in next empty) → flat (a ∷ []) ++ flat (b ∷ []) ≡ flat (latch_clauses place k (latch_of next ∷ []))
  unfolding latch_clauses marks flat
  latch_masks k next a b e f = rw (e, f, flip_half next, flip_sign next)

  pub latch_end : {at : ℕ} (k next : ℕ) {before : List ℕ} {r : ℕ} {after : List ℕ}
      → Writes at (flat (latch_clauses place k (latch_of next ∷ []))) before r after → r ≡ at + 8
  unfolding latch_clauses flat
  latch_end k next w = w.end

  -- in front of those of the other latches
  pub latch_next : (latches : List Row) (k : ℕ) → k < length latches
      → flat (latch_clauses place k (latches_of (flattened (drop k latches))))
      ≡ flat (latch_clauses place k (latch_of (get_or latches k no_row).second ∷ []))
      ++ flat (latch_clauses place (k + 1) (latches_of (flattened (drop (k + 1) latches))))
  unfolding latch_clauses
  latch_next latches k h = rw (threes_next _ latches k h, add-one k) (flat_append (_ ∷ (_ ∷ [])) _)

  -- ---- a gate's three clauses
  pub gate_masks_lem : (out left right : ℕ) (a b d : Clause)
      → a ≡ literal_in left (mark (place (out / 2)) 1 empty)
      → b ≡ literal_in right (mark (place (out / 2)) 1 empty)
      → d ≡ inverted_in right (inverted_in left (mark (place (out / 2)) 0 empty))
      → (flat (a ∷ []) ++ flat (b ∷ [])) ++ flat (d ∷ []) ≡ flat (gate_clauses place (gate_of out left right ∷ []))
  unfolding gate_clauses marks flat
  gate_masks_lem out left right a b d e f g =
      let h : (2 * (out / 2) + 1) / 2 ≡ out / 2 = omega arith in
      let s : (2 * (out / 2) + 1) % 2 ≡ 1 = omega arith in
      let p : (2 * (out / 2)) / 2 ≡ out / 2 = omega arith in
      let q : (2 * (out / 2)) % 2 ≡ 0 = omega arith in
      rw (e, f, g, h, s, p, q, flip_half left, flip_sign left, flip_half right, flip_sign right)

  pub gate_end : {at : ℕ} (out left right : ℕ) {before : List ℕ} {r : ℕ} {after : List ℕ}
      → Writes at (flat (gate_clauses place (gate_of out left right ∷ []))) before r after → r ≡ at + 12
  unfolding gate_clauses flat
  gate_end out left right w = w.end

  pub gate_next : (gates : List Row) (k : ℕ) → k < length gates
      → flat (gate_clauses place (gates_of (flattened (drop k gates))))
      ≡ flat (gate_clauses place (gate_of (get_or gates k no_row).literal (get_or gates k no_row).second (get_or gates k no_row).third ∷ []))
      ++ flat (gate_clauses place (gates_of (flattened (drop (k + 1) gates))))
  unfolding gate_clauses
  gate_next gates k h = rw (threes_next _ gates k h) (flat_append (_ ∷ (_ ∷ (_ ∷ []))) _)

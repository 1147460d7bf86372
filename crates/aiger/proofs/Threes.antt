-- Rows of three numbers, one behind the other: those from a row on are its three numbers and those from the next on, and there are a third as many rows
-- as numbers. Where a variable is not listed its index is the list's length. Assumes nothing.
use Prim.Native.Nat.{ℕ, zero, suc, ◌+◌, ◌*◌, ◌/◌, ◌≤◌, ◌<◌}
use mathlib.Core.Path.{◌≡◌, refl, sym, ap, ◌∙◌}
use mathlib.Core.Bool.{Bool, true, false}
use mathlib.Core.List.{List, [], ◌∷◌, ◌++◌, map}
use native.Mathlib.Omega.{arith}
use native.Mathlib.Numerals.{add-one}
use borrow.Author.Tests.{lt-ltb, le-ltb, ltb-true}
use lib.Dec.{eqb, ltb}
use lib.ListN.{length, get_or, take, drop, set, length-set, drop_of_length-le}
use lib.Seq.{drop-cons, take-nil}
use Rattle.std.specs.Prelude.{Some, None, is_some, cond}
use Rattle.std.specs.List.{position, position_or_len}
use Rattle.text.specs.Writing.{laid}
use Rattle.base.proofs.Tests.{test, clash}
use Rattle.ic3.specs.Demands.{listed}
use Rattle.circuit.specs.Circuit.{Latch, outs, index}
use Rattle.circuit.proofs.Lists.{index_lt}
use Rattle.aiger.specs.Text.{threes, vars, latches_of, gates_of}
use Rattle.aiger.specs.Inner.{no_row, row_list, flattened, PutsRow, has_var}
use Rattle.aiger.specs.declared.table.Row.{Row}

-- ---- rows one behind the other: three numbers each, and those from one row on are the rest of the numbers
pub flat_length : (rows : List Row) → length (flattened rows) ≡ 3 * length rows
flat_length [] = refl
flat_length (row ∷ rows) = omega (arith, flat_length rows)

pub flat_drop : (k : ℕ) (rows : List Row) → flattened (drop k rows) ≡ drop (3 * k) (flattened rows)
flat_drop zero rows = refl
flat_drop (suc k) [] = sym (drop_of_length-le [] {i = 3 * suc k} (omega arith))
flat_drop (suc k) (row ∷ rows) = let n : 3 * suc k ≡ suc (suc (suc (3 * k))) = omega arith in rw n (flat_drop k rows)

pub flat_take : (k : ℕ) (rows : List Row) → flattened (take k rows) ≡ take (3 * k) (flattened rows)
flat_take zero rows = refl
flat_take (suc k) [] = sym (take-nil (3 * suc k))
flat_take (suc k) (row ∷ rows) =
    let n : 3 * suc k ≡ suc (suc (suc (3 * k))) = omega arith in
    rw n (ap (λ (l : List ℕ). row.literal ∷ (row.second ∷ (row.third ∷ l))) (flat_take k rows))

-- what is laid behind a buffer changes nothing
pub laid_beyond : (i : ℕ) (w buffer : List ℕ) → length buffer ≤ i → laid i w buffer ≡ buffer
unfolding laid
laid_beyond i w [] h = refl
laid_beyond zero w (b ∷ buffer) h = absurd (omega arith)
laid_beyond (suc i) w (b ∷ buffer) h = ap {B = List ℕ} (λ l. b ∷ l) (laid_beyond i w buffer (omega arith))

-- a row that is put is three numbers that are laid
pub puts_row : (at : ℕ) (row : Row) (rows : List Row) → at < length rows → PutsRow at row rows (set rows at row)
unfolding laid
puts_row at row rows h = record { same = length-set rows at row; content = go at rows h }
  where
    laid_nothing : (l : List ℕ) → laid 0 [] l ≡ l
    laid_nothing [] = refl
    laid_nothing (x ∷ l) = refl

    go : (at : ℕ) (rows : List Row) → at < length rows → flattened (set rows at row) ≡ laid (3 * at) (row_list row) (flattened rows)
    go at [] h = absurd (omega arith)
    go zero (r ∷ rows) h = ap (λ (l : List ℕ). row.literal ∷ (row.second ∷ (row.third ∷ l))) (sym (laid_nothing (flattened rows)))
    go (suc k) (r ∷ rows) h =
        let n : 3 * suc k ≡ suc (suc (suc (3 * k))) = omega arith in
        rw n (ap (λ (l : List ℕ). r.literal ∷ (r.second ∷ (r.third ∷ l))) (go k rows (omega arith)))

-- past the end nothing is
pub puts_none : (at : ℕ) (row : Row) (rows : List Row) → length rows ≤ at → PutsRow at row rows rows
puts_none at row rows h =
    record { same = refl; content = sym (laid_beyond (3 * at) (row_list row) (flattened rows) (omega (arith, flat_length rows))) }

module _ {A : Type 0} (f : ℕ → ℕ → ℕ → A) where
  -- the row at k, and no row
  pub threes_next : (rows : List Row) (k : ℕ) → k < length rows
      → threes f (flattened (drop k rows))
      ≡ f (get_or rows k no_row).literal (get_or rows k no_row).second (get_or rows k no_row).third ∷ threes f (flattened (drop (k + 1) rows))
  unfolding threes
  threes_next rows k h = rw (drop-cons rows k no_row h, add-one k)

  pub threes_end : (rows : List Row) (k : ℕ) → length rows ≤ k → threes f (flattened (drop k rows)) ≡ []
  unfolding threes
  threes_end rows k h = rw (drop_of_length-le rows {i = k} h)

  pub length_threes : (rows : List ℕ) → length (threes f rows) ≡ length rows / 3
  unfolding threes
  length_threes [] = refl
  length_threes (a ∷ []) = refl
  length_threes (a ∷ (b ∷ [])) = refl
  length_threes (a ∷ (b ∷ (c ∷ rows))) = omega (arith, length_threes rows)

  -- rows of two lists, where the first ends with a row
  pub threes_append : (a b : List ℕ) (n : ℕ) → length a ≡ 3 * n → threes f (a ++ b) ≡ threes f a ++ threes f b
  unfolding threes
  threes_append [] b n e = refl
  threes_append (p ∷ []) b n e = absurd (omega arith)
  threes_append (p ∷ (q ∷ [])) b n e = absurd (omega arith)
  threes_append (p ∷ (q ∷ (r ∷ a))) b zero e = absurd (omega arith)
  threes_append (p ∷ (q ∷ (r ∷ a))) b (suc n) e = ap (λ (l : List A). f p q r ∷ l) (threes_append a b n (omega arith))

  -- a function of each row
  pub map_threes : {B : Type 0} (g : A → B) (rows : List ℕ) → map g (threes f rows) ≡ threes (λ a b c. g (f a b c)) rows
  unfolding threes
  map_threes g [] = refl
  map_threes g (a ∷ []) = refl
  map_threes g (a ∷ (b ∷ [])) = refl
  map_threes {B} g (a ∷ (b ∷ (c ∷ rows))) = ap (λ (l : List B). g (f a b c) ∷ l) (map_threes g rows)

pub outs_rows : (rows : List ℕ) → outs (gates_of rows) ≡ vars rows
outs_rows rows = map_threes _ _ rows

pub latches_rows : (rows : List ℕ) → map (λ (l : Latch). l.var) (latches_of rows) ≡ vars rows
latches_rows rows = map_threes _ _ rows

pub latches_many : (rows : List ℕ) → length (latches_of rows) ≡ length rows / 3
latches_many rows = length_threes _ rows

pub gates_many : (rows : List ℕ) → length (gates_of rows) ≡ length rows / 3
gates_many rows = length_threes _ rows

-- ---- where a variable is not listed
pub index_out : (vs : List ℕ) (v : ℕ) → listed vs v ≡ false → index vs v ≡ length vs
unfolding listed index
index_out [] v e = refl
index_out (u ∷ us) v e =
    test (eqb u v)
    (λ q. clash refl (rw (q, listed) at e))
    (λ q. rw (q, index) (ap suc (index_out us v (rw (q, listed) at e))))

pub listed_index : (vs : List ℕ) (v : ℕ) → listed vs v ≡ ltb (index vs v) (length vs)
listed_index vs v =
    test (listed vs v)
    (λ e. e ∙ sym (lt-ltb (index vs v) (length vs) (index_lt vs v e)))
    (λ e. e ∙ sym (le-ltb (index vs v) (length vs) (omega (arith, index_out vs v e))))

-- a variable is listed in rows if its index is below their number
pub listed_rows : (rows : List Row) (v : ℕ) → listed (vars (flattened rows)) v ≡ ltb (index (vars (flattened rows)) v) (length rows)
listed_rows rows v =
    let many : length (vars (flattened rows)) ≡ length rows = omega (arith, length_threes (λ a b c. a / 2) (flattened rows), flat_length rows) in
    listed_index (vars (flattened rows)) v ∙ ap (ltb (index (vars (flattened rows)) v)) many

-- the first row of a variable is found by its index
index_rows : (v : ℕ) (rows : List Row) → position_or_len (has_var v) rows ≡ index (vars (flattened rows)) v
unfolding index threes
index_rows v [] = refl
index_rows v (row ∷ rows) =
    test (eqb (row.literal / 2) v)
    (λ e. rw (e, index))
    (λ e. rw (e, index) (omega (arith, index_rows v rows)))

module _ (rows : List Row) (v : ℕ) where
  pub found_some : (k : ℕ) → position (has_var v) rows ≡ Some k
      → (listed (vars (flattened rows)) v ≡ true) × (k ≡ index (vars (flattened rows)) v) × (k < length rows)
  found_some k e =
      test (ltb (index (vars (flattened rows)) v) (length rows))
      (λ t.
      let q : Some (index (vars (flattened rows)) v) ≡ Some k = sym (rw (index_rows v rows, t)) ∙ e in
      let same : index (vars (flattened rows)) v ≡ k = cc in
      (listed_rows rows v ∙ t, sym same, omega (arith, ltb-true _ _ t)))
      (λ t. let q : None ≡ Some k = sym (rw (index_rows v rows, t)) ∙ e in cc)

  pub found_none : position (has_var v) rows ≡ None → listed (vars (flattened rows)) v ≡ false
  found_none e =
      test (ltb (index (vars (flattened rows)) v) (length rows))
      (λ t. let q : Some (index (vars (flattened rows)) v) ≡ None = sym (rw (index_rows v rows, t)) ∙ e in cc)
      (λ t. listed_rows rows v ∙ t)

  pub found_any : is_some (position (has_var v) rows) ≡ listed (vars (flattened rows)) v
  found_any = rw (index_rows v rows, listed_rows rows v) (pick (ltb (index (vars (flattened rows)) v) (length rows)))
    where
      pick : (t : Bool) → is_some (cond t (Some (index (vars (flattened rows)) v)) None) ≡ t
      pick true = refl
      pick false = refl

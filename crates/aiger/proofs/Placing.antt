-- Where a variable stands, by the index of its row: a latch's position, a wire's behind the latches, or nowhere; and a literal of it in a clause.
-- Assumes nothing.
use Prim.Native.Nat.{ℕ, zero, suc, ◌+◌, ◌-◌, ◌≤◌, ◌<◌}
use mathlib.Core.Bool.{true, false}
use mathlib.Core.List.{List}
use mathlib.Core.Path.{◌≡◌, refl, sym, ap, fun_ext, ◌∙◌}
use native.Mathlib.Omega.{arith}
use borrow.Author.Tests.{ltb-true, ltb-false, lt-ltb, le-ltb}
use lib.Dec.{ltb}
use lib.ListN.{length, length-map}
use Rattle.std.specs.Prelude.{Some, None}
use Rattle.std.specs.List.{position}
use Rattle.base.proofs.Tests.{test, clash}
use Rattle.masks.proofs.Somewhere.{or_fails}
use Rattle.ic3.specs.Demands.{listed}
use Rattle.circuit.specs.Circuit.{Circuit, Latch, latch_vars, index}
use Rattle.circuit.specs.Refusals.{wires, defined}
use Rattle.circuit.specs.Import.{Place, here, wire, nowhere, place_of, clause, with_place, mark}
use Rattle.circuit.proofs.Lists.{index_lt, index_left, index_right, listed_append}
use Rattle.circuit.proofs.Import.{place_cases}
use Rattle.masks.specs.declared.Mask.{Mask}
use Rattle.system.specs.declared.Clause.{Clause}
use Rattle.aiger.specs.Text.{vars}
use Rattle.aiger.specs.Inner.{flattened, has_var, place_at, place_in, place_by}
use Rattle.aiger.specs.declared.table.Row.{Row}
use Rattle.aiger.proofs.Threes.{found_some, found_none}

pub place_here : (latches k : ℕ) → k < latches → place_at latches k ≡ here k
unfolding place_at
place_here latches k h = rw (lt-ltb k latches h, place_at)

pub place_wire : (latches k : ℕ) → latches ≤ k → place_at latches k ≡ wire (k - latches)
unfolding place_at
place_wire latches k h = rw (le-ltb k latches h, place_at)

latches_length : (c : Circuit) → length (latch_vars c) ≡ length c.latches
latches_length c = length-map c.latches (λ (l : Latch). l.var)

-- a variable that has a row
pub place_found : (c : Circuit) (v : ℕ) → listed (defined c) v ≡ true → place_at (length c.latches) (index (defined c) v) ≡ place_of c v
place_found c v e =
    place_cases c (λ p. place_at (length c.latches) (index (defined c) v) ≡ p) v
    (λ l. rw (index_left (latch_vars c) (wires c) v l)
    (place_here (length c.latches) (index (latch_vars c) v) (omega (arith, index_lt (latch_vars c) v l, latches_length c))))
    (λ l w. rw (index_right (latch_vars c) (wires c) v l)
    (place_wire (length c.latches) (length (latch_vars c) + index (wires c) v) (omega (arith, latches_length c))
    ∙ ap wire (omega (arith, latches_length c))))
    (λ l w. clash e (listed_append (latch_vars c) (wires c) v ∙ (or_fails (listed (latch_vars c) v) (listed (wires c) v)).1 (l, w)))

-- one that has none
pub place_none : (c : Circuit) (v : ℕ) → listed (defined c) v ≡ false → place_of c v ≡ nowhere
place_none c v e =
    let p = (or_fails (listed (latch_vars c) v) (listed (wires c) v)).0 (sym (listed_append (latch_vars c) (wires c) v) ∙ e) in
    place_cases c (λ q. q ≡ nowhere) v (λ l. clash l p.0) (λ l w. clash w p.1) (λ l w. refl)

-- rows of all variables that a circuit defines say where each stands
pub place_by_lem : (c : Circuit) (rows : List ℕ) (latches : ℕ) → vars rows ≡ defined c → length c.latches ≡ latches → place_by rows latches ≡ place_of c
unfolding place_in
place_by_lem c rows latches e l =
    rw (e, ← l)
    (fun_ext (λ v. test (listed (defined c) v)
    (λ q. rw (q, place_in) (place_found c v q))
    (λ q. rw (q, place_in) (sym (place_none c v q)))))

-- ---- a literal more in a clause
module _ (rows : List Row) (latches v : ℕ) (m : Clause) where
  abbrev place : Place
  place = place_by (flattened rows) latches v

  -- the variable has a row
  module _ {k : ℕ} (found : position (has_var v) rows ≡ Some k) where
    row_place : place ≡ place_at latches k
    unfolding place_in
    row_place = let f = found_some rows v k found in rw (f.0, ← f.1, place_in)

    pub plain_row : (sign : ℕ) (ones : Mask) → sign ≡ 0 → ones ≡ with_place (place_at latches k) m.ones
        → clause ones m.zeros ≡ mark place sign m
    unfolding mark
    plain_row sign ones e o = rw (e, row_place, o)

    pub inverted_row : (sign : ℕ) (zeros : Mask) → (sign ≡ 0 → ⊥) → zeros ≡ with_place (place_at latches k) m.zeros
        → clause m.ones zeros ≡ mark place sign m
    unfolding mark
    inverted_row zero zeros f z = absurd (f refl)
    inverted_row (suc r) zeros f z =
        rw (row_place, z)
        (test (ltb k latches)
        (λ e. rw (place_here latches k (ltb-true k latches e)))
        (λ e. rw (place_wire latches k (ltb-false k latches e))))

  -- it has none
  module _ (none : position (has_var v) rows ≡ None) where
    row_none : place ≡ nowhere
    unfolding place_in
    row_none = rw (found_none rows v none, place_in)

    pub plain_none : (sign : ℕ) → sign ≡ 0 → m ≡ mark place sign m
    unfolding mark with_place
    plain_none sign e = rw (e, row_none)

    pub inverted_none : (sign : ℕ) (ones zeros : Mask) → (sign ≡ 0 → ⊥) → ones ≡ with_place (here 0) m.ones
        → zeros ≡ with_place (here 0) m.zeros → clause ones zeros ≡ mark place sign m
    unfolding mark
    inverted_none zero ones zeros f o z = absurd (f refl)
    inverted_none (suc r) ones zeros f o z = rw (row_none, o, z)

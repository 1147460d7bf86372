-- Sentences of circuits as theorems about the definitions: the values are the one assignment that a reader thinks of, a setting of the wires is
-- theirs exactly if it makes the gate clauses true, and the lists have the lengths that counts give. Assumes nothing.
use Prim.Native.Nat.{ℕ, suc, ◌+◌, ◌*◌, ◌%◌, ◌^◌, ◌≤◌, ◌<◌}
use mathlib.Core.Path.{◌≡◌, refl, sym, ap, ◌∙◌}
use mathlib.Core.Logic.{◌↔◌}
use mathlib.Core.Bool.{Bool, true, false}
use mathlib.Core.List.{List, [], ◌∷◌, ◌++◌, Memᴰ}
use mathlib.Core.Option.{Option, none, some}
use native.Mathlib.Nat.{mod-lt}
use native.Mathlib.Omega.{arith}
use borrow.Author.Tests.{eqb-true, eqb-false}
use lib.Dec.{eqb}
use lib.ListN.{length, get_or, length-append, length-map, get_or-append}
use lib.Pow.{pow_pos}
use Rattle.base.proofs.Tests.{test, clash}
use Rattle.masks.specs.Bit.{bit}
use Rattle.masks.proofs.Bits.{bit_le, bits_below}
use Rattle.masks.proofs.Halves.{bit_mod}
use Rattle.masks.proofs.Somewhere.{or_fails}
use Rattle.ic3.specs.Demands.{listed, Distinct}
use Rattle.system.specs.declared.Clause.{Clause}
use Rattle.circuit.specs.Circuit.{Circuit, Latch, Gate, First, low, high, either, first, latch_vars, outs, literal, signed, and_of, every, any, index, gate_of, given, values, watched}
use Rattle.circuit.specs.Refusals.{wires, defined, Accepted}
use Rattle.circuit.specs.Import.{Place, here, nowhere, place_of, empty, with_place, mark, marks, clause_of, start_clauses, latch_clauses, gate_clauses, constraint_clauses, flat, shared, imported}
use Rattle.circuit.proofs.Lists.{index_lt, index_at, index_of, listed_at, listed_append, distinct_right, distinct_left, distinct_apart}
use Rattle.circuit.proofs.Values.{gate_found, gate_none, gate_unlisted, gate_of_lem, through, value_unique}
use Rattle.circuit.proofs.Clauses.{says, at_place, read, clause_says}
use Rattle.circuit.proofs.Parts.{gates_say}
use Rattle.circuit.proofs.Import.{wires_length, place_cases, within, gates_distinct, wire_none, values_solve, setting, setting_lt, setting_values, values_setting, given_latch, given_input, given_none, free}

-- An assignment of the circuit's variables as a reader thinks of it: no depth, no order of gates.
pub record Assignment (c : Circuit) (s i : ℕ) (a : ℕ → Bool) : Type 0 where
  pub latch : (k : ℕ) → k < length c.latches → a (get_or (latch_vars c) k 0) ≡ eqb (bit s k) 1
  pub input : (k : ℕ) → k < length c.inputs → a (get_or c.inputs k 0) ≡ eqb (bit i k) 1
  pub gate : (g : Gate) → Memᴰ g c.gates → a g.out ≡ and_of a g
  pub other : (v : ℕ) → listed (defined c) v ≡ false → a v ≡ false

module _ (c : Circuit) (A : Accepted c) where
  latches_length : length (latch_vars c) ≡ length c.latches
  latches_length = length-map c.latches (λ (l : Latch). l.var)

  apart : (v : ℕ) → listed (latch_vars c) v ≡ true → listed (wires c) v ≡ false
  apart = distinct_apart (latch_vars c) (wires c) A.once

  wires_distinct : Distinct (wires c)
  wires_distinct = distinct_right (latch_vars c) (wires c) A.once

  latches_distinct : Distinct (latch_vars c)
  latches_distinct = distinct_left (latch_vars c) (wires c) A.once

  -- an input is no latch and no gate
  input_free : (v : ℕ) → listed c.inputs v ≡ true → (listed (latch_vars c) v ≡ false) × (listed (outs c.gates) v ≡ false)
  input_free v e = (
    test (listed (latch_vars c) v)
        (λ y. clash (listed_append c.inputs (outs c.gates) v ∙ rw e) (apart v y))
        (λ y. y),
    distinct_apart c.inputs (outs c.gates) wires_distinct v e,
  )

  module _ (s i : ℕ) where
    -- The values are such an assignment,
    pub values_assign : Assignment c s i (values c s i)
    values_assign =
        record {
          latch = λ k h.
              let v : ℕ = get_or (latch_vars c) k 0 in
              let l : k < length (latch_vars c) = omega (arith, latches_length) in
              let e = listed_at (latch_vars c) k l in
              unwired v (wire_none c A v (apart v e)).1
              ∙ given_latch c s i v e
              ∙ ap (λ (j : ℕ). eqb (bit s j) 1) (index_of (latch_vars c) latches_distinct k l);
          input = λ k h.
              let v : ℕ = get_or c.inputs k 0 in
              let e = listed_at c.inputs k h in
              let n = input_free v e in
              unwired v (gate_none c.gates v n.1)
              ∙ given_input c s i v n.0 e
              ∙ ap (λ (j : ℕ). eqb (bit i j) 1) (index_of c.inputs (distinct_left c.inputs (outs c.gates) wires_distinct) k h);
          gate = λ g m.
              values_solve c A s i g.out
              ∙ ap (through (given c s i) (values c s i) g.out) (gate_of_lem c.gates (gates_distinct c A) g m);
          other = λ v e.
              let p = (or_fails (listed (latch_vars c) v) (listed (wires c) v)).0 (sym (listed_append (latch_vars c) (wires c) v) ∙ e) in
              let n = wire_none c A v p.1 in
              unwired v n.1 ∙ given_none c s i v p.0 n.0;
        }
      where
        unwired : (v : ℕ) → gate_of c.gates v ≡ none → values c s i v ≡ given c s i v
        unwired = free c A s i (values c s i) (values_solve c A s i)

    -- and the only one.
    assign_free : (a : ℕ → Bool) → Assignment c s i a → (v : ℕ) → listed (outs c.gates) v ≡ false → a v ≡ given c s i v
    assign_free a B v n =
        test (listed (latch_vars c) v)
        (λ e. sym (ap a (index_at (latch_vars c) v e))
        ∙ B.latch (index (latch_vars c) v) (omega (arith, index_lt (latch_vars c) v e, latches_length))
        ∙ sym (given_latch c s i v e))
        (λ e. test (listed c.inputs v)
        (λ d. sym (ap a (index_at c.inputs v d)) ∙ B.input (index c.inputs v) (index_lt c.inputs v d) ∙ sym (given_input c s i v e d))
        (λ d. B.other v
        (listed_append (latch_vars c) (wires c) v
        ∙ (or_fails (listed (latch_vars c) v) (listed (wires c) v)).1
        (e, listed_append c.inputs (outs c.gates) v ∙ (or_fails (listed c.inputs v) (listed (outs c.gates) v)).1 (d, n)))
        ∙ sym (given_none c s i v e d)))

    pub values_only : (a : ℕ → Bool) → Assignment c s i a → a ≡ values c s i
    unfolding values
    values_only a B = value_unique c.gates A.loops (given c s i) a (λ v. go v (gate_of c.gates v) refl)
      where
        go : (v : ℕ) (o : Option Gate) → gate_of c.gates v ≡ o → a v ≡ through (given c s i) a v o
        go v none q = assign_free a B v (gate_unlisted c.gates v q)
        go v (some g) q = let r = gate_found c.gates v g q in rw (← r.1) (B.gate g r.0)

  -- ---- The heart: of the settings with these inputs exactly one makes all gate clauses true, and it gives each wire its variable's value.
  eqb_bit : (x y k : ℕ) → eqb (bit x k) 1 ≡ eqb (bit y k) 1 → bit x k ≡ bit y k
  eqb_bit x y k e =
      test (eqb (bit x k) 1)
      (λ p. omega (arith, eqb-true (bit x k) 1 p, eqb-true (bit y k) 1 (sym e ∙ p)))
      (λ p. omega (arith, eqb-false (bit x k) 1 p, eqb-false (bit y k) 1 (sym e ∙ p), bit_le x k, bit_le y k))

  -- a wire's value is its bit
  read_wire : (s x k : ℕ) → k < length (wires c) → read c s x (get_or (wires c) k 0) ≡ eqb (bit x k) 1
  unfolding read at_place
  read_wire s x k h =
      let v : ℕ = get_or (wires c) k 0 in
      let e = listed_at (wires c) k h in
      place_cases c (λ p. at_place s x p ≡ eqb (bit x k) 1) v
      (λ y. clash e (apart v y))
      (λ y z. ap (λ (j : ℕ). eqb (bit x j) 1) (index_of (wires c) wires_distinct k h))
      (λ y z. clash e z)

  abbrev w : ℕ
  w = length c.inputs + length c.gates

  -- two settings that give the same values are the same
  same_setting : (s x y : ℕ) → x < 2 ^ w → y < 2 ^ w → read c s x ≡ read c s y → x ≡ y
  same_setting s x y p q e =
      bits_below w x y p q (λ k l.
      let h : k < length (wires c) = omega (arith, wires_length c) in
      eqb_bit x y k (sym (read_wire s x k h) ∙ ap (λ (f : ℕ → Bool). f (get_or (wires c) k 0)) e ∙ read_wire s y k h))

  -- the setting of the values: each wire has its variable's value,
  pub heart_value : (s i k : ℕ) → k < length (wires c) → eqb (bit (setting c A (values c s i)) k) 1 ≡ values c s i (get_or (wires c) k 0)
  heart_value s i k h = sym (read_wire s (setting c A (values c s i)) k h) ∙ ap (λ (f : ℕ → Bool). f (get_or (wires c) k 0)) (values_setting c A s i).0

  -- and the inputs are these inputs
  heart_inputs : (s i : ℕ) → i < 2 ^ length c.inputs → setting c A (values c s i) % 2 ^ length c.inputs ≡ i
  heart_inputs s i h =
      let x : ℕ = setting c A (values c s i) in
      bits_below (length c.inputs) (x % 2 ^ length c.inputs) i (mod-lt x (pow_pos (length c.inputs))) h (λ k l.
      bit_mod (length c.inputs) k x l
      ∙ eqb_bit x i k
      (heart_value s i k (omega (arith, wires_length c))
      ∙ ap (values c s i) (get_or-append c.inputs (outs c.gates) 0 k l)
      ∙ (values_assign s i).input k l))

  pub heart : (s i x : ℕ) → i < 2 ^ length c.inputs → x < 2 ^ w
      → ((x % 2 ^ length c.inputs ≡ i) × (every (says s x) (gate_clauses (place_of c) c.gates) ≡ true)) ↔ (x ≡ setting c A (values c s i))
  heart s i x h l = (
    λ p. same_setting s x (setting c A (values c s i)) l (setting_lt c A (values c s i))
        (setting_values c A s x (sym (gates_say c (within c A) s x c.gates) ∙ p.1)
        ∙ ap (values c s) p.0
        ∙ sym (values_setting c A s i).0),
    λ e. rw e (
      heart_inputs s i h,
      gates_say c (within c A) s (setting c A (values c s i)) c.gates ∙ rw (values_setting c A s i).0 (values_setting c A s i).1,
    ),
  )

-- ---- the lists
-- "literal 0 is dropped, literal 1 makes the clause always true": refusal 20 leaves variable 0 undefined
module _ (c : Circuit) (z : listed (defined c) 0 ≡ false) where
  nowhere_zero : place_of c 0 ≡ nowhere
  nowhere_zero =
      let p = (or_fails (listed (latch_vars c) 0) (listed (wires c) 0)).0 (sym (listed_append (latch_vars c) (wires c) 0) ∙ z) in
      place_cases c (λ y. y ≡ nowhere) 0 (λ e. clash e p.0) (λ e d. clash d p.1) (λ e d. refl)

  pub literal_zero : (ls : List ℕ) → clause_of (place_of c) (0 ∷ ls) ≡ clause_of (place_of c) ls
  unfolding marks mark with_place
  literal_zero ls = rw nowhere_zero

  pub literal_one : Accepted c → (ls : List ℕ) (s x : ℕ) → says s x (clause_of (place_of c) (1 ∷ ls)) ≡ true
  unfolding any literal signed read at_place
  literal_one A ls s x = clause_says c (within c A) s x (1 ∷ ls) ∙ rw nowhere_zero

-- "start one clause a latch" (none for "either"), "step two a latch and three a gate, bad one and three a gate", one more a constraint
unfoldable pub fixed : List Latch → ℕ
fixed [] = 0
fixed (l ∷ ls) = elim (first l) [ low ↦ suc (fixed ls) | high ↦ suc (fixed ls) | either ↦ fixed ls ]

-- at most one start clause a latch
pub fixed_le : (ls : List Latch) → fixed ls ≤ length ls
unfolding fixed
fixed_le [] = omega arith
fixed_le (l ∷ ls) = go (first l) (fixed_le ls)
  where
    go : (f : First) → fixed ls ≤ length ls
        → (elim f as (λ z. ℕ) [ low ↦ suc (fixed ls) | high ↦ suc (fixed ls) | either ↦ fixed ls ]) ≤ suc (length ls)
    go low h = omega arith
    go high h = omega arith
    go either h = omega arith

pub flat_length : (ms : List Clause) → length (flat ms) ≡ 4 * length ms
unfolding flat
flat_length [] = refl
flat_length (m ∷ ms) = omega (arith, flat_length ms)

pub start_length : (k : ℕ) (ls : List Latch) → length (start_clauses k ls) ≡ fixed ls
unfolding start_clauses fixed
start_length k [] = refl
start_length k (l ∷ ls) = go (first l) (start_length (suc k) ls)
  where
    go : (f : First) → length (start_clauses (suc k) ls) ≡ fixed ls
        → length {A = Clause} (elim f as (λ z. List Clause) [
          | low ↦ mark (here k) 1 empty ∷ start_clauses (suc k) ls
          | high ↦ mark (here k) 0 empty ∷ start_clauses (suc k) ls
          | either ↦ start_clauses (suc k) ls
        ])
        ≡ (elim f as (λ z. ℕ) [ low ↦ suc (fixed ls) | high ↦ suc (fixed ls) | either ↦ fixed ls ])
    go low e = ap suc e
    go high e = ap suc e
    go either e = e

pub latch_length : (place : ℕ → Place) (k : ℕ) (ls : List Latch) → length (latch_clauses place k ls) ≡ 2 * length ls
unfolding latch_clauses
latch_length place k [] = refl
latch_length place k (l ∷ ls) = omega (arith, latch_length place (suc k) ls)

gate_length : (place : ℕ → Place) (gs : List Gate) → length (gate_clauses place gs) ≡ 3 * length gs
unfolding gate_clauses
gate_length place [] = refl
gate_length place (g ∷ gs) = omega (arith, gate_length place gs)

constraint_length : (place : ℕ → Place) (ls : List ℕ) → length (constraint_clauses place ls) ≡ length ls
unfolding constraint_clauses
constraint_length place [] = refl
constraint_length place (l ∷ ls) = ap suc (constraint_length place ls)

shared_length : (c : Circuit) → length (shared c) ≡ 3 * length c.gates + length c.constraints
shared_length c =
    omega (
      arith,
      length-append (gate_clauses (place_of c) c.gates) (constraint_clauses (place_of c) c.constraints),
      gate_length (place_of c) c.gates,
      constraint_length (place_of c) c.constraints,
    )

-- masks in each list
pub lengths : (c : Circuit)
    → (length (imported c).start ≡ 4 * fixed c.latches)
    × (length (imported c).step ≡ 4 * (2 * length c.latches + (3 * length c.gates + length c.constraints)))
    × (length (imported c).bad ≡ 4 * (1 + (3 * length c.gates + length c.constraints)))
unfolding imported
lengths c = (
  omega (arith, flat_length (start_clauses 0 c.latches), start_length 0 c.latches),
  omega (
    arith,
    flat_length (latch_clauses (place_of c) 0 c.latches ++ shared c),
    length-append (latch_clauses (place_of c) 0 c.latches) (shared c),
    latch_length (place_of c) 0 c.latches,
    shared_length c,
  ),
  omega (arith, flat_length (clause_of (place_of c) (watched c) ∷ shared c), shared_length c),
)

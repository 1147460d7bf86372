-- The imported system's own refusals: 1 and 3 are never given, 2 exactly if the step list would have over 4,096 clauses, which only constraints can
-- bring about. A clause stays within the declared bits and wires with each literal that is added to it. Assumes nothing.
use Prim.Native.Nat.{ℕ, zero, suc, ◌+◌, ◌*◌, ◌/◌, ◌%◌, ◌^◌, ◌≤◌, ◌<◌}
use mathlib.Core.Path.{◌≡◌, refl, ap, ◌∙◌}
use mathlib.Core.Logic.{◌⊎◌, inl, inr, ⊎_elim}
use mathlib.Core.Bool.{Bool, true, false, ◌||◌}
use mathlib.Core.List.{List, [], ◌∷◌, ◌++◌}
use native.Mathlib.Nat.{mod-lt}
use native.Mathlib.Omega.{arith}
use borrow.Author.Tests.{eq-eqb, ne_eqb, le-ltb, ltb-false, lt-leb}
use lib.Dec.{ltb, leb}
use lib.ListN.{length, length-map}
use lib.Pow.{pow_pos}
use Rattle.base.specs.Refusals.{◌if◌, ◌else◌, most_clauses}
use Rattle.base.proofs.Tests.{test, lt_or_ge}
use Rattle.masks.specs.Bit.{bit}
use Rattle.masks.specs.declared.Mask.{Mask}
use Rattle.masks.proofs.Bits.{bit_of_zero, bit_past}
use Rattle.masks.proofs.Halves.{bit_mod, bit_div}
use Rattle.masks.proofs.Operations.{join}
use Rattle.masks.proofs.OneBit.{pow_other}
use Rattle.masks.proofs.Order.{width_bits}
use Rattle.masks.proofs.Somewhere.{or_fails}
use Rattle.ic3.specs.Demands.{listed}
use Rattle.system.specs.System.{wrong_size, wrong_count, wrong_counts, wrong_mask, wrong_clause, wrong_bit, wrong_bits, refusal_of}
use Rattle.system.specs.declared.Clause.{Clause}
use Rattle.system.proofs.Sentences.{list_uses}
use Rattle.circuit.specs.Circuit.{Circuit, Latch, Gate, First, low, high, either, first, latch_vars, index, watched}
use Rattle.circuit.specs.Refusals.{Accepted}
use Rattle.circuit.specs.Import.{Place, here, wire, nowhere, place_of, empty, with_place, mark, marks, clause_of, flip, start_clauses, latch_clauses, gate_clauses, constraint_clauses, flat, shared, imported}
use Rattle.circuit.proofs.Lists.{index_lt}
use Rattle.circuit.proofs.Import.{place_cases, wire_lt}
use Rattle.circuit.proofs.Sentences.{fixed, lengths}

-- a position that a mask may use for the pair: below l, or a later one below h
abbrev Open : ℕ → ℕ → ℕ → Type 0
Open l h k = (k < l) ⊎ ((32 ≤ k) × (k < 32 + h))

module _ (l h w : ℕ) (l32 : l ≤ 32) where
  -- a mask that uses no other, and of the wires only those below w
  record Proper (m : Mask) : Type 0 where
    between : (i : ℕ) → l ≤ i → i < 32 → bit m.pair i ≡ 0
    above : (i : ℕ) → 32 + h ≤ i → bit m.pair i ≡ 0
    wires : (i : ℕ) → w ≤ i → bit m.wires i ≡ 0

  abbrev Both : Clause → Type 0
  Both m = Proper m.ones × Proper m.zeros

  abbrev Room : Place → Type 0
  Room (here k) = Open l h k
  Room (wire k) = k < w
  Room nowhere = Unit {0}

  -- a position more
  place_proper : (p : Place) → Room p → (m : Mask) → Proper m → Proper (with_place p m)
  unfolding with_place
  place_proper (here k) o m P =
      record {
        between = λ i a b.
            let n : i ≡ k → ⊥ = λ q. ⊎_elim (λ y. omega arith) (λ y. omega arith) o in
            omega (arith, join m.pair (2 ^ k) i, pow_other k i n, P.between i a b);
        above = λ i a.
            let n : i ≡ k → ⊥ = λ q. ⊎_elim (λ y. omega arith) (λ y. omega arith) o in
            omega (arith, join m.pair (2 ^ k) i, pow_other k i n, P.above i a);
        wires = P.wires;
      }
  place_proper (wire k) o m P =
      record {
        between = P.between;
        above = P.above;
        wires = λ i a. omega (arith, join m.wires (2 ^ k) i, pow_other k i (λ q. omega arith), P.wires i a);
      }
  place_proper nowhere o m P = P

  mark_proper : (p : Place) → Room p → 1 ≤ l → (r : ℕ) (m : Clause) → Both m → Both (mark p r m)
  unfolding mark
  mark_proper (here k) o s zero m P = (place_proper (here k) o m.ones P.0, P.1)
  mark_proper (here k) o s (suc r) m P = (P.0, place_proper (here k) o m.zeros P.1)
  mark_proper (wire k) o s zero m P = (place_proper (wire k) o m.ones P.0, P.1)
  mark_proper (wire k) o s (suc r) m P = (P.0, place_proper (wire k) o m.zeros P.1)
  mark_proper nowhere o s zero m P = (place_proper nowhere tt m.ones P.0, P.1)
  mark_proper nowhere o s (suc r) m P =
      let first : Open l h 0 = inl (omega arith) in
      (place_proper (here 0) first m.ones P.0, place_proper (here 0) first m.zeros P.1)

  none_proper : Proper (record { pair = 0; wires = 0 })
  none_proper = record { between = λ i a b. bit_of_zero i; above = λ i a. bit_of_zero i; wires = λ i a. bit_of_zero i }

  empty_proper : Both empty
  unfolding empty
  empty_proper = (none_proper, none_proper)

  -- the masks as the refusal compares them
  pair_right : (m : Mask) → Proper m → wrong_mask l h m.pair ≡ false
  unfolding wrong_mask
  pair_right m P =
      let x : ℕ = m.pair in
      (or_fails (leb (2 ^ l) (x % 2 ^ 32)) (leb (2 ^ h) (x / 2 ^ 32))).1 (
        lt-leb (2 ^ l) (x % 2 ^ 32) ((width_bits l (x % 2 ^ 32)).1 (λ i a.
            ⊎_elim (λ b. bit_mod 32 i x b ∙ P.between i a b) (bit_past 32 (x % 2 ^ 32) i (mod-lt x (pow_pos 32))) (lt_or_ge i 32))),
        lt-leb (2 ^ h) (x / 2 ^ 32) ((width_bits h (x / 2 ^ 32)).1 (λ i a. bit_div 32 i x ∙ P.above (32 + i) (omega arith))),
      )

  wires_right : (m : Mask) → Proper m → leb (2 ^ w) m.wires ≡ false
  wires_right m P = lt-leb (2 ^ w) m.wires ((width_bits w m.wires).1 P.wires)

  clause_right : (m : Clause) → Both m → wrong_clause l h w m.ones.pair m.zeros.pair m.ones.wires m.zeros.wires ≡ false
  unfolding wrong_clause
  clause_right m P =
      rw (pair_right m.ones P.0, pair_right m.zeros P.1, wires_right m.ones P.0, wires_right m.zeros P.1)

  All : List Clause → Type 0
  All [] = Unit {0}
  All (m ∷ ms) = Both m × All ms

  flat_right : (ms : List Clause) → All ms → wrong_bit l h w (flat ms) ≡ false
  unfolding All flat wrong_bit
  flat_right [] P = refl
  flat_right (m ∷ ms) P =
      (list_uses l h w m.ones.pair m.zeros.pair m.ones.wires m.zeros.wires (flat ms)).1
      (clause_right m P.0, flat_right ms P.1)

  all_append : (a b : List Clause) → All a → All b → All (a ++ b)
  unfolding All
  all_append [] b P Q = Q
  all_append (m ∷ ms) b P Q = (P.0, all_append ms b P.1 Q)

  -- ---- the clauses of a circuit with l latches and at most w wires
  module _ (c : Circuit) (s : 1 ≤ l) (R : (v : ℕ) → Room (place_of c v)) where
    marks_proper : (m : Clause) (ls : List ℕ) → Both m → Both (marks (place_of c) m ls)
    unfolding marks
    marks_proper m [] P = P
    marks_proper m (x ∷ ls) P = marks_proper (mark (place_of c (x / 2)) (x % 2) m) ls (mark_proper (place_of c (x / 2)) (R (x / 2)) s (x % 2) m P)

    clause_proper : (ls : List ℕ) → Both (clause_of (place_of c) ls)
    clause_proper ls = marks_proper empty ls empty_proper

    gates_proper : (gs : List Gate) → All (gate_clauses (place_of c) gs)
    unfolding All gate_clauses
    gates_proper [] = tt
    gates_proper (g ∷ gs) = (clause_proper _, (clause_proper _, (clause_proper _, gates_proper gs)))

    constraints_proper : (ls : List ℕ) → All (constraint_clauses (place_of c) ls)
    unfolding All constraint_clauses
    constraints_proper [] = tt
    constraints_proper (x ∷ ls) = (clause_proper _, constraints_proper ls)

    shared_proper : All (shared c)
    shared_proper =
        all_append (gate_clauses (place_of c) c.gates) (constraint_clauses (place_of c) c.constraints)
        (gates_proper c.gates) (constraints_proper c.constraints)

    latches_proper : (k : ℕ) (ls : List Latch) → k + length ls ≤ h → All (latch_clauses (place_of c) k ls)
    unfolding All latch_clauses
    latches_proper k [] e = tt
    latches_proper k (x ∷ ls) e =
        let o : Open l h (32 + k) = inr (omega arith, omega arith) in (
          mark_proper (here (32 + k)) o s 0 (clause_of (place_of c) (flip x.next ∷ [])) (clause_proper _),
          (mark_proper (here (32 + k)) o s 1 (clause_of (place_of c) (x.next ∷ [])) (clause_proper _), latches_proper (suc k) ls (omega arith)),
        )

  starts_proper : 1 ≤ l → (k : ℕ) (ls : List Latch) → k + length ls ≤ l → All (start_clauses k ls)
  unfolding All start_clauses
  starts_proper s k [] e = tt
  starts_proper s k (x ∷ ls) e = go (first x) (starts_proper s (suc k) ls (omega arith))
    where
      go : (f : First) → All (start_clauses (suc k) ls)
          → All (elim f as (λ z. List Clause) [
            | low ↦ mark (here k) 1 empty ∷ start_clauses (suc k) ls
            | high ↦ mark (here k) 0 empty ∷ start_clauses (suc k) ls
            | either ↦ start_clauses (suc k) ls
          ])
      go low P = (mark_proper (here k) (inl (omega arith)) s 1 empty empty_proper, P)
      go high P = (mark_proper (here k) (inl (omega arith)) s 0 empty empty_proper, P)
      go either P = P

-- ---- the imported system
fixed_le : (ls : List Latch) → fixed ls ≤ length ls
unfolding fixed
fixed_le [] = omega arith
fixed_le (l ∷ ls) = go (first l) (fixed_le ls)
  where
    go : (f : First) → fixed ls ≤ length ls
        → (elim f as (λ z. ℕ) [ low ↦ suc (fixed ls) | high ↦ suc (fixed ls) | either ↦ fixed ls ]) ≤ suc (length ls)
    go low p = omega arith
    go high p = omega arith
    go either p = omega arith

-- a list of four masks a clause has a right count exactly if its clauses are few enough
count_four : (l : List ℕ) (k : ℕ) → length l ≡ 4 * k → wrong_count l ≡ ltb most_clauses k
unfolding wrong_count
count_four l k e =
    let q : length l / 4 ≡ k = omega arith in
    rw (eq-eqb (length l % 4) 0 (omega arith), q)

module _ (c : Circuit) (A : Accepted c) where
  abbrev n : ℕ
  n = length c.latches

  abbrev w : ℕ
  w = length c.inputs + length c.gates

  room : (h : ℕ) (v : ℕ) → Room n h w A.latches (place_of c v)
  room h v =
      place_cases c (Room n h w A.latches) v
      (λ e. inl (latch_in v e))
      (λ e d. wire_lt c A v d)
      (λ e d. tt)
    where
      latch_in : (v : ℕ) → listed (latch_vars c) v ≡ true → index (latch_vars c) v < n
      latch_in v e = omega (arith, index_lt (latch_vars c) v e, length-map c.latches (λ (l : Latch). l.var))

  size_right : wrong_size n w ≡ false
  unfolding wrong_size
  size_right = rw (ne_eqb n 0 (λ q. omega (arith, A.some_latch)), le-ltb 32 n A.latches, le-ltb 64 w A.wires)

  abbrev steps : ℕ
  steps = 2 * length c.latches + (3 * length c.gates + length c.constraints)

  abbrev bads : ℕ
  bads = 1 + (3 * length c.gates + length c.constraints)

  counts : wrong_counts (imported c).start (imported c).step (imported c).bad ≡ ltb most_clauses steps
  counts =
      rw (
        count_four (imported c).start (fixed c.latches) (lengths c).0,
        le-ltb most_clauses (fixed c.latches) (omega (arith, fixed_le c.latches, A.latches)),
        count_four (imported c).step steps (lengths c).1,
        count_four (imported c).bad bads (lengths c).2,
      )
      (test (ltb most_clauses steps) (λ e. rw e) (λ e. rw (e, le-ltb most_clauses bads (omega (arith, ltb-false most_clauses steps e, A.some_latch)))))

  bits : wrong_bits n w (imported c).start (imported c).step (imported c).bad ≡ false
  unfolding imported All
  bits =
      let s : 1 ≤ n = A.some_latch in
      (or_fails (wrong_bit n 0 0 (imported c).start) (wrong_bit n n w (imported c).step || wrong_bit n 0 w (imported c).bad)).1 (
        flat_right n 0 0 A.latches (start_clauses 0 c.latches) (starts_proper n 0 0 A.latches s 0 c.latches (omega arith)),
        (or_fails (wrong_bit n n w (imported c).step) (wrong_bit n 0 w (imported c).bad)).1 (
          flat_right n n w A.latches (latch_clauses (place_of c) 0 c.latches ++ shared c)
              (all_append n n w A.latches (latch_clauses (place_of c) 0 c.latches) (shared c)
              (latches_proper n n w A.latches c s (room n) 0 c.latches (omega arith))
              (shared_proper n n w A.latches c s (room n))),
          flat_right n 0 w A.latches (clause_of (place_of c) (watched c) ∷ shared c)
              (clause_proper n 0 w A.latches c s (room 0) (watched c), shared_proper n 0 w A.latches c s (room 0)),
        ),
      )

  -- "then the system's own": only 2 is possible, and only by constraints
  pub own_refusal : refusal_of (imported c) ≡ 2 if ltb most_clauses steps
  unfolding refusal_of imported
  own_refusal = rw (size_right, counts, bits) (go (ltb most_clauses steps))
    where
      go : (t : Bool) → (2 if t) else 0 ≡ 2 if t
      go true = refl
      go false = refl

  -- without constraints it is never given
  pub own_none : c.constraints ≡ [] → refusal_of (imported c) ≡ 0
  own_none e =
      let none : length c.constraints ≡ 0 = rw e in
      own_refusal ∙ ap (λ (t : Bool). 2 if t) (le-ltb most_clauses steps (omega (arith, A.latches, A.wires)))

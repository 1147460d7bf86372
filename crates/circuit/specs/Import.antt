-- The system of a circuit: latches are state bits in file order, inputs and then gates are wires in file order.
use Rattle.std.specs.Prelude.{ℕ, zero, suc, ◌+◌, ◌*◌, ◌-◌, ◌/◌, ◌%◌, ◌^◌, true, false, ◌||◌, List, [], ◌∷◌, ◌++◌, ltb, length}
use Rattle.std.specs.Int.Bits.{bit_or}
use Rattle.base.specs.Refusals.{◌if◌, ◌else◌}
use Rattle.masks.specs.declared.Mask.{Mask}
use Rattle.ic3.specs.Demands.{listed}
use Rattle.system.specs.System.{System, system_of, refusal_of}
use Rattle.system.specs.declared.Clause.{Clause}
use Rattle.circuit.specs.Circuit.{Circuit, Latch, Gate, low, high, either, first, latch_vars, index, watched}
use Rattle.circuit.specs.Refusals.{wires, circuit_refusal}

-- where a variable's value stands in a setting: at a position of the pair, at one of the wires, or nowhere
pub data Place : Type 0 where
  here : ℕ → Place
  wire : ℕ → Place
  nowhere : Place

unfoldable pub place_of : Circuit → ℕ → Place
place_of c v =
    elim (listed (latch_vars c) v) [
      | true ↦ here (index (latch_vars c) v)
      | false ↦ elim (listed (wires c) v) [ true ↦ wire (index (wires c) v) | false ↦ nowhere ]
    ]

abbrev pub mask_of : ℕ → ℕ → Mask
mask_of pair wires = record { pair = pair; wires = wires }

abbrev pub clause : Mask → Mask → Clause
clause ones zeros = record { ones = ones; zeros = zeros }

unfoldable pub empty : Clause
empty = clause (mask_of 0 0) (mask_of 0 0)

-- a position more in a mask
unfoldable pub with_place : Place → Mask → Mask
with_place (here k) m = mask_of (bit_or m.pair (2 ^ k)) m.wires
with_place (wire k) m = mask_of m.pair (bit_or m.wires (2 ^ k))
with_place nowhere m = m

-- A literal more in a clause: its place, and 0 if wanted 1. A variable that stands nowhere is false: literal 0 is dropped, literal 1 makes the
-- clause always true.
unfoldable pub mark : Place → ℕ → Clause → Clause
mark p zero m = clause (with_place p m.ones) m.zeros
mark (here k) (suc r) m = clause m.ones (with_place (here k) m.zeros)
mark (wire k) (suc r) m = clause m.ones (with_place (wire k) m.zeros)
mark nowhere (suc r) m = clause (with_place (here 0) m.ones) (with_place (here 0) m.zeros)

-- these literals more in a clause, one after the other, where `place` says where each variable stands
unfoldable pub marks : (ℕ → Place) → Clause → List ℕ → Clause
marks place m [] = m
marks place m (l ∷ ls) = marks place (mark (place (l / 2)) (l % 2) m) ls

-- the clause of these literals
abbrev pub clause_of : (ℕ → Place) → List ℕ → Clause
clause_of place ls = marks place empty ls

-- the inverted literal
unfoldable pub flip : ℕ → ℕ
flip l = elim (l % 2) [ zero ↦ l + 1 | suc r ↦ l - 1 ]

-- start: one clause a latch, none for "either"; k is the first latch's position
unfoldable pub start_clauses : ℕ → List Latch → List Clause
start_clauses k [] = []
start_clauses k (l ∷ ls) =
    elim (first l) [
      | low ↦ mark (here k) 1 empty ∷ start_clauses (suc k) ls
      | high ↦ mark (here k) 0 empty ∷ start_clauses (suc k) ls
      | either ↦ start_clauses (suc k) ls
    ]

-- step: two clauses a latch, the later bit equals the next literal
unfoldable pub latch_clauses : (ℕ → Place) → ℕ → List Latch → List Clause
latch_clauses place k [] = []
latch_clauses place k (l ∷ ls) =
    mark (here (32 + k)) 0 (clause_of place (flip l.next ∷ []))
    ∷ (mark (here (32 + k)) 1 (clause_of place (l.next ∷ [])) ∷ latch_clauses place (suc k) ls)

-- three clauses a gate
unfoldable pub gate_clauses : (ℕ → Place) → List Gate → List Clause
gate_clauses place [] = []
gate_clauses place (g ∷ gs) =
    clause_of place ((2 * g.out + 1) ∷ (g.left ∷ []))
    ∷ (clause_of place ((2 * g.out + 1) ∷ (g.right ∷ []))
    ∷ (clause_of place ((2 * g.out) ∷ (flip g.left ∷ (flip g.right ∷ []))) ∷ gate_clauses place gs))

-- one clause a constraint
unfoldable pub constraint_clauses : (ℕ → Place) → List ℕ → List Clause
constraint_clauses place [] = []
constraint_clauses place (l ∷ ls) = clause_of place (l ∷ []) ∷ constraint_clauses place ls

-- the masks of the clauses, one after the other
unfoldable pub flat : List Clause → List ℕ
flat [] = []
flat (m ∷ ms) = m.ones.pair ∷ (m.zeros.pair ∷ (m.ones.wires ∷ (m.zeros.wires ∷ flat ms)))

abbrev pub shared : Circuit → List Clause
shared c = gate_clauses (place_of c) c.gates ++ constraint_clauses (place_of c) c.constraints

-- THE SYSTEM of a circuit
unfoldable pub imported : Circuit → System
imported c =
    system_of
    (length c.latches)
    (length c.inputs + length c.gates)
    (flat (start_clauses 0 c.latches))
    (flat (latch_clauses (place_of c) 0 c.latches ++ shared c))
    (flat (clause_of (place_of c) (watched c) ∷ shared c))

-- Refusals of an import from 21 on, M from the header and a, b and d the lengths of the lent stores: the circuit's; 32 exactly if a store is shorter
-- than its list; then the system's own.
unfoldable pub import_refusal : ℕ → Circuit → ℕ → ℕ → ℕ → ℕ
import_refusal m c a b d =
    circuit_refusal m c
    else 32 if ltb a (length (imported c).start) || (ltb b (length (imported c).step) || ltb d (length (imported c).bad))
    else refusal_of (imported c)

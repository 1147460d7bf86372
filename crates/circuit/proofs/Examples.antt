-- Circuits worked out: states, steps and masks that a simulation outside the prover gave are those of the definitions, by computing. Assumes nothing.
use Prim.Native.Nat.{ℕ, zero, suc}
use mathlib.Core.Path.{◌≡◌, refl}
use mathlib.Core.Bool.{Bool, true, false}
use mathlib.Core.List.{List, [], ◌∷◌, ◌++◌}
use native.Mathlib.Omega.{arith}
use Rattle.masks.specs.Bit.{bit, somewhere}
use Rattle.ic3.specs.Demands.{listed}
use Rattle.system.specs.System.{system_of}
use Rattle.circuit.specs.Circuit.{Circuit, Latch, Gate, first, every, any, index, signed, literal, and_of, gate_of, among, given, value, values, starts, number, next_state, constrained, watched, meaning}
use Rattle.circuit.specs.Runs.{Runs}
use Rattle.circuit.specs.Loops.{settled, loop_free}
use Rattle.circuit.specs.Refusals.{wrong_start, right_starts, twice, known, nothing_watched, circuit_refusal}
use Rattle.circuit.specs.Import.{place_of, empty, with_place, mark, marks, flip, start_clauses, latch_clauses, gate_clauses, constraint_clauses, flat, imported}

-- a circuit of the first edition; what is defined is given by its variable, all else by its literal
abbrev latch : ℕ → ℕ → Latch
latch var next = record { var = var; next = next; start = 0 }

-- a latch of the newer edition
abbrev from : ℕ → ℕ → ℕ → Latch
from var next start = record { var = var; next = next; start = start }

abbrev gate : ℕ → ℕ → ℕ → Gate
gate out left right = record { out = out; left = left; right = right }

abbrev circuit : List ℕ → List Latch → List ℕ → List Gate → Circuit
circuit inputs latches outputs gates =
    record { inputs = inputs; latches = latches; gates = gates; outputs = outputs; bads = []; constraints = [] }

-- the numbers below k that pass the test, the greatest first
those : ℕ → (ℕ → Bool) → List ℕ
those zero p = []
those (suc k) p = elim (p k) [ true ↦ k ∷ those k p | false ↦ those k p ]

-- ---- Two latches count the steps in which the input is 1; the output is 1 where both are. Variables 6 and 9 are "exclusive or" of three gates.
abbrev counter : Circuit
counter =
    circuit (1 ∷ []) (latch 2 12 ∷ (latch 3 18 ∷ [])) (20 ∷ [])
    (gate 4 4 2 ∷ (gate 5 5 3 ∷ (gate 6 9 11 ∷ (gate 7 6 8 ∷ (gate 8 7 9 ∷ (gate 9 15 17 ∷ (gate 10 4 6 ∷ [])))))))

counter_refusal : circuit_refusal 10 counter ≡ 0
unfolding circuit_refusal any wrong_start twice known nothing_watched loop_free settled gate_of every listed
counter_refusal = refl

counter_start : those 4 (meaning counter).start ≡ 0 ∷ []
unfolding those meaning starts first bit
counter_start = refl

-- it stays, or goes on by one, from 3 to 0
counter_step :
    (those 4 ((meaning counter).step 0) ≡ 1 ∷ (0 ∷ []))
    × (those 4 ((meaning counter).step 1) ≡ 2 ∷ (1 ∷ []))
    × (those 4 ((meaning counter).step 2) ≡ 3 ∷ (2 ∷ []))
    × (those 4 ((meaning counter).step 3) ≡ 3 ∷ (0 ∷ []))
unfolding those meaning somewhere next_state number constrained every literal signed values value given among and_of gate_of listed index bit
counter_step = (refl, refl, refl, refl)

counter_bad : those 4 (meaning counter).bad ≡ 3 ∷ []
unfolding those meaning somewhere constrained every any literal signed values value given among and_of gate_of listed index bit watched
counter_bad = refl

-- ---- A flip-flop with enable (variable 1) and reset (variable 2), whose gates stand before those that they use. Its masks, a clause a line.
abbrev toggle : Circuit
toggle = circuit (1 ∷ (2 ∷ [])) (latch 3 8 ∷ []) (6 ∷ (7 ∷ [])) (gate 4 4 10 ∷ (gate 5 13 15 ∷ (gate 6 2 6 ∷ (gate 7 3 7 ∷ []))))

toggle_refusal : circuit_refusal 7 toggle ≡ 0
unfolding circuit_refusal any wrong_start twice known nothing_watched loop_free settled gate_of every listed
toggle_refusal = refl

abbrev gate_masks : List ℕ
gate_masks =
    0 ∷ 0 ∷ 2 ∷ 4
    ∷ 0 ∷ 0 ∷ 8 ∷ 4
    ∷ 0 ∷ 0 ∷ 4 ∷ 10
    ∷ 0 ∷ 0 ∷ 0 ∷ 24
    ∷ 0 ∷ 0 ∷ 0 ∷ 40
    ∷ 0 ∷ 0 ∷ 56 ∷ 0
    ∷ 0 ∷ 0 ∷ 1 ∷ 16
    ∷ 1 ∷ 0 ∷ 0 ∷ 16
    ∷ 0 ∷ 1 ∷ 16 ∷ 1
    ∷ 0 ∷ 0 ∷ 0 ∷ 33
    ∷ 0 ∷ 1 ∷ 0 ∷ 32
    ∷ 1 ∷ 0 ∷ 33 ∷ 0 ∷ []

toggle_imported : imported toggle
    ≡ system_of 1 6 (0 ∷ 1 ∷ 0 ∷ 0 ∷ []) ((4294967296 ∷ 0 ∷ 0 ∷ 4 ∷ 0 ∷ 4294967296 ∷ 4 ∷ 0 ∷ []) ++ gate_masks) ((1 ∷ 1 ∷ 0 ∷ 0 ∷ []) ++ gate_masks)
unfolding imported flat start_clauses first latch_clauses gate_clauses constraint_clauses marks mark with_place empty place_of flip listed index watched
toggle_imported = refl

-- ---- The newer edition. Latches 3, 4 and 5 start at 0, at 1 and at either; 3 takes input 1, 4 takes 3, and 5 falls to 0 where input 2 is 1, which
-- the constraint forbids. The output (latch 4) does not count beside the bad-state lines: gate 7 asks for latch 4 and input 2, gate 8 for latch 3
-- without 5.
abbrev mixed : Circuit
mixed =
    record {
      inputs = 1 ∷ (2 ∷ []);
      latches = from 3 2 0 ∷ (from 4 6 1 ∷ (from 5 12 10 ∷ []));
      gates = gate 6 10 5 ∷ (gate 7 8 4 ∷ (gate 8 6 11 ∷ []));
      outputs = 8 ∷ [];
      bads = 14 ∷ (16 ∷ []);
      constraints = 5 ∷ [];
    }

-- the latch's own literal is no wrong start value
mixed_refusal : circuit_refusal 8 mixed ≡ 0
unfolding circuit_refusal any wrong_start twice known nothing_watched loop_free settled gate_of every listed
mixed_refusal = refl

mixed_start : those 8 (meaning mixed).start ≡ 6 ∷ (2 ∷ [])
unfolding those meaning starts first bit
mixed_start = refl

mixed_step :
    (those 8 ((meaning mixed).step 0) ≡ 1 ∷ (0 ∷ []))
    × (those 8 ((meaning mixed).step 1) ≡ 3 ∷ (2 ∷ []))
    × (those 8 ((meaning mixed).step 2) ≡ 1 ∷ (0 ∷ []))
    × (those 8 ((meaning mixed).step 3) ≡ 3 ∷ (2 ∷ []))
    × (those 8 ((meaning mixed).step 4) ≡ 5 ∷ (4 ∷ []))
    × (those 8 ((meaning mixed).step 5) ≡ 7 ∷ (6 ∷ []))
    × (those 8 ((meaning mixed).step 6) ≡ 5 ∷ (4 ∷ []))
    × (those 8 ((meaning mixed).step 7) ≡ 7 ∷ (6 ∷ []))
unfolding those meaning somewhere next_state number constrained every literal signed values value given among and_of gate_of listed index bit
mixed_step = (refl, refl, refl, refl, refl, refl, refl, refl)

mixed_bad : those 8 (meaning mixed).bad ≡ 3 ∷ (1 ∷ [])
unfolding those meaning somewhere constrained every any literal signed values value given among and_of gate_of listed index bit watched
mixed_bad = refl

-- with input 1, and then without
mixed_run : Runs mixed (2 ∷ (1 ∷ []))
unfolding starts first next_state number constrained every any literal signed values value given among and_of gate_of listed index bit watched
mixed_run = (
  omega arith,
  refl,
  (
    (1, record { inputs = omega arith; holds = refl }, refl),
    (0, record { inputs = omega arith; holds = refl }, refl),
  ),
)

-- three clauses a gate, and one for the constraint
abbrev mixed_masks : List ℕ
mixed_masks =
    4 ∷ 0 ∷ 0 ∷ 4
    ∷ 0 ∷ 0 ∷ 0 ∷ 6
    ∷ 0 ∷ 4 ∷ 6 ∷ 0
    ∷ 2 ∷ 0 ∷ 0 ∷ 8
    ∷ 0 ∷ 0 ∷ 2 ∷ 8
    ∷ 0 ∷ 2 ∷ 8 ∷ 2
    ∷ 1 ∷ 0 ∷ 0 ∷ 16
    ∷ 0 ∷ 4 ∷ 0 ∷ 16
    ∷ 4 ∷ 1 ∷ 16 ∷ 0
    ∷ 0 ∷ 0 ∷ 0 ∷ 2 ∷ []

mixed_imported : imported mixed
    ≡ system_of 3 5
    (0 ∷ 1 ∷ 0 ∷ 0
    ∷ 2 ∷ 0 ∷ 0 ∷ 0 ∷ [])
    ((4294967296 ∷ 0 ∷ 0 ∷ 1
    ∷ 0 ∷ 4294967296 ∷ 1 ∷ 0
    ∷ 8589934592 ∷ 1 ∷ 0 ∷ 0
    ∷ 1 ∷ 8589934592 ∷ 0 ∷ 0
    ∷ 17179869184 ∷ 0 ∷ 0 ∷ 4
    ∷ 0 ∷ 17179869184 ∷ 4 ∷ 0 ∷ []) ++ mixed_masks)
    ((0 ∷ 0 ∷ 24 ∷ 0 ∷ []) ++ mixed_masks)
unfolding imported flat start_clauses first latch_clauses gate_clauses constraint_clauses marks mark with_place empty place_of flip listed index watched
mixed_imported = refl

-- ---- A constraint that excludes everything, literal 0, beside a bad-state line that is always 1: a start state, no step and no bad state.
abbrev shut : Circuit
shut = record { inputs = []; latches = from 1 2 1 ∷ []; gates = []; outputs = []; bads = 1 ∷ []; constraints = 0 ∷ [] }

-- a bad-state line is enough
shut_refusal : circuit_refusal 1 shut ≡ 0
unfolding circuit_refusal any wrong_start twice known nothing_watched loop_free settled gate_of every listed
shut_refusal = refl

shut_start : those 2 (meaning shut).start ≡ 1 ∷ []
unfolding those meaning starts first bit
shut_start = refl

shut_step : (those 2 ((meaning shut).step 0) ≡ []) × (those 2 ((meaning shut).step 1) ≡ [])
unfolding those meaning somewhere next_state number constrained every literal signed values value given among and_of gate_of listed index bit
shut_step = (refl, refl)

shut_bad : those 2 (meaning shut).bad ≡ []
unfolding those meaning somewhere constrained every any literal signed values value given among and_of gate_of listed index bit watched
shut_bad = refl

shut_imported : imported shut
    ≡ system_of 1 0
    (1 ∷ 0 ∷ 0 ∷ 0 ∷ [])
    (4294967296 ∷ 1 ∷ 0 ∷ 0
    ∷ 1 ∷ 4294967296 ∷ 0 ∷ 0
    ∷ 0 ∷ 0 ∷ 0 ∷ 0 ∷ [])
    (1 ∷ 1 ∷ 0 ∷ 0
    ∷ 0 ∷ 0 ∷ 0 ∷ 0 ∷ [])
unfolding imported flat start_clauses first latch_clauses gate_clauses constraint_clauses marks mark with_place empty place_of flip listed index watched
shut_imported = refl

-- ---- refused
-- the start value of latch 1 is its literal inverted, or another latch's literal
other_starts :
    (circuit_refusal 2 (circuit [] (from 1 2 3 ∷ (from 2 4 4 ∷ [])) (2 ∷ []) []) ≡ 28)
    × (circuit_refusal 2 (circuit [] (from 1 2 4 ∷ (from 2 4 4 ∷ [])) (2 ∷ []) []) ≡ 28)
unfolding circuit_refusal any wrong_start
other_starts = (refl, refl)

-- k latches, all of them variable 1
copies : ℕ → List Latch
copies zero = []
copies (suc k) = latch 1 2 ∷ copies k

-- too many latches, the last with a wrong start value: 28 before 22, and behind 21
abbrev crowd : Circuit
crowd = circuit [] (copies 32 ++ (from 1 2 3 ∷ [])) (2 ∷ []) []

crowd_refusal : (circuit_refusal 33 crowd ≡ 28) × (circuit_refusal 32 crowd ≡ 21) × (right_starts crowd.latches ≡ 32)
unfolding circuit_refusal any wrong_start right_starts copies
crowd_refusal = (refl, refl, refl)

-- no latch
half_adder : circuit_refusal 7 (circuit (1 ∷ (2 ∷ [])) [] (6 ∷ (12 ∷ [])) (gate 3 13 15 ∷ (gate 6 2 4 ∷ (gate 7 3 5 ∷ [])))) ≡ 22
unfolding circuit_refusal any wrong_start
half_adder = refl

-- variable 2 is used and not defined
not_defined : circuit_refusal 9 (circuit [] (latch 1 4 ∷ []) (2 ∷ []) []) ≡ 24
unfolding circuit_refusal any wrong_start twice known every listed
not_defined = refl

-- gates 2 and 3 use one another; a latch between them would be no loop
loop : circuit_refusal 3 (circuit [] (latch 1 2 ∷ []) (2 ∷ []) (gate 2 6 2 ∷ (gate 3 5 2 ∷ []))) ≡ 25
unfolding circuit_refusal any wrong_start twice known loop_free settled gate_of every listed
loop = refl

-- The main theorem: the system of a circuit that is not refused has exactly the circuit's start states, steps and bad states. A setting of the wires
-- that makes all gate clauses true is an assignment that solves the gates, so it is the circuit's values under the inputs in it; and the values under
-- given inputs make such a setting. Assumes nothing.
use Prim.Native.Nat.{ℕ, ◌+◌, ◌%◌, ◌^◌, ◌<◌}
use mathlib.Core.Path.{◌≡◌, refl, sym, ap, ap₂, fun_ext, ◌∙◌}
use mathlib.Core.Bool.{Bool, true, false, ◌&&◌, beq}
use mathlib.Core.List.{List, ◌∷◌, ◌++◌, map}
use mathlib.Core.Option.{Option, none, some}
use native.Mathlib.Nat.{mod-lt, lt_of_lt_of_le}
use native.Mathlib.Omega.{arith}
use lib.Dec.{eqb}
use lib.ListN.{length, length-append, length-map, get_or-map}
use lib.Pow.{pow_pos, pow_mono}
use Rattle.base.proofs.Tests.{test, clash}
use Rattle.masks.specs.Bit.{bit, somewhere}
use Rattle.masks.proofs.Halves.{bit_mod}
use Rattle.masks.proofs.Somewhere.{somewhere_false, somewhere_same, or_fails}
use Rattle.ic3.specs.Demands.{listed, Distinct}
use Rattle.system.specs.System.{list_true, some_true, pair, model}
use Rattle.system.proofs.Sentences.{pair_bits}
use Rattle.circuit.specs.Circuit.{Circuit, Latch, Gate, latch_vars, outs, literal, and_of, every, any, index, gate_of, among, given, values, number, next_state, constrained, watched, meaning}
use Rattle.circuit.specs.Refusals.{wires, Accepted}
use Rattle.circuit.specs.Import.{Place, here, wire, nowhere, place_of, clause_of, start_clauses, latch_clauses, gate_clauses, constraint_clauses, flat, shared, imported}
use Rattle.circuit.proofs.Lists.{same_test, every_append, every_mem, index_lt, index_at, index_left, listed_append, distinct_right, distinct_apart, number_lt, number_bit}
use Rattle.circuit.proofs.Values.{among_in, among_out, gate_found, gate_none, gate_unlisted, gate_of_lem, through, Solves, value_solves, value_unique}
use Rattle.circuit.proofs.Clauses.{says, at_place, read, Within, clause_says, flat_says}
use Rattle.circuit.proofs.Parts.{right, gates_say, constraints_say, latches_say, starts_say, agrees_number}

pub wires_length : (c : Circuit) → length (wires c) ≡ length c.inputs + length c.gates
wires_length c = length-append c.inputs (outs c.gates) ∙ ap (λ y. length c.inputs + y) (length-map c.gates (λ (g : Gate). g.out))

-- the number of input settings, and of wire settings
abbrev pub input_settings : Circuit → ℕ
input_settings c = 2 ^ length c.inputs

abbrev pub wire_settings : Circuit → ℕ
wire_settings c = 2 ^ (length c.inputs + length c.gates)

-- how a proof goes by a variable's place
pub place_cases : (c : Circuit) (P : Place → Type 0) (v : ℕ)
    → (listed (latch_vars c) v ≡ true → P (here (index (latch_vars c) v)))
    → (listed (latch_vars c) v ≡ false → listed (wires c) v ≡ true → P (wire (index (wires c) v)))
    → (listed (latch_vars c) v ≡ false → listed (wires c) v ≡ false → P nowhere)
    → P (place_of c v)
unfolding place_of
place_cases c P v f g h = go (listed (latch_vars c) v) (listed (wires c) v) refl refl
  where
    go : (p q : Bool) → listed (latch_vars c) v ≡ p → listed (wires c) v ≡ q
        → P (elim p as (λ z. Place) [
          | true ↦ here (index (latch_vars c) v)
          | false ↦ elim q as (λ z. Place) [ true ↦ wire (index (wires c) v) | false ↦ nowhere ]
        ])
    go true q e d = f e
    go false true e d = g e d
    go false false e d = h e d

-- the given values, by place
module _ (c : Circuit) (s i v : ℕ) where
  pub given_latch : listed (latch_vars c) v ≡ true → given c s i v ≡ eqb (bit s (index (latch_vars c) v)) 1
  unfolding given
  given_latch e = among_in (latch_vars c) s (among c.inputs i false v) v e

  pub given_input : listed (latch_vars c) v ≡ false → listed c.inputs v ≡ true → given c s i v ≡ eqb (bit i (index c.inputs v)) 1
  unfolding given
  given_input e d = among_out (latch_vars c) s (among c.inputs i false v) v e ∙ among_in c.inputs i false v d

  pub given_none : listed (latch_vars c) v ≡ false → listed c.inputs v ≡ false → given c s i v ≡ false
  unfolding given
  given_none e d = among_out (latch_vars c) s (among c.inputs i false v) v e ∙ among_out c.inputs i false v d

and_swap : (p q r : Bool) → (p && (q && r)) ≡ (q && (p && r))
and_swap true true r = refl
and_swap true false r = refl
and_swap false true r = refl
and_swap false false r = refl

beq_eq : (a b : Bool) → beq a b ≡ true → a ≡ b
beq_eq true true e = refl
beq_eq true false e = sym e
beq_eq false true e = e
beq_eq false false e = refl

eq_beq : (a : Bool) → beq a a ≡ true
eq_beq true = refl
eq_beq false = refl

module _ (c : Circuit) (A : Accepted c) where
  pub latch_lt : (v : ℕ) → listed (latch_vars c) v ≡ true → index (latch_vars c) v < 32
  latch_lt v e = omega (arith, index_lt (latch_vars c) v e, length-map c.latches (λ (l : Latch). l.var), A.latches)

  pub wire_lt : (v : ℕ) → listed (wires c) v ≡ true → index (wires c) v < length c.inputs + length c.gates
  wire_lt v e = rw (← wires_length c) (index_lt (wires c) v e)

  pub within : (v : ℕ) → Within (place_of c v)
  within v =
      place_cases c Within v
      (λ e. omega (arith, latch_lt v e))
      (λ e d. omega (arith, wire_lt v d, A.wires))
      (λ e d. tt)

  -- later bits are read by no variable
  read_pair : (s t x : ℕ) → s < 2 ^ 32 → read c (pair s t) x ≡ read c s x
  unfolding read at_place
  read_pair s t x h =
      fun_ext (λ v. place_cases c (λ p. at_place (pair s t) x p ≡ at_place s x p) v
      (λ e. ap (λ (y : ℕ). eqb y 1) (pair_bits s t (index (latch_vars c) v) h (latch_lt v e)).0)
      (λ e d. refl)
      (λ e d. refl))

  pub gates_distinct : Distinct (outs c.gates)
  gates_distinct = distinct_right c.inputs (outs c.gates) (distinct_right (latch_vars c) (wires c) A.once)

  -- a variable that is no wire is no gate's
  pub wire_none : (v : ℕ) → listed (wires c) v ≡ false → (listed c.inputs v ≡ false) × (gate_of c.gates v ≡ none)
  wire_none v e =
      let p = (or_fails (listed c.inputs v) (listed (outs c.gates) v)).0 (sym (listed_append c.inputs (outs c.gates) v) ∙ e) in
      (p.0, gate_none c.gates v p.1)

  -- an input's bit, among the wires
  input_bit : (x v : ℕ) → listed c.inputs v ≡ true → bit x (index (wires c) v) ≡ bit (x % input_settings c) (index c.inputs v)
  input_bit x v e =
      rw (index_left c.inputs (outs c.gates) v e)
      (sym (bit_mod (length c.inputs) (index c.inputs v) x (index_lt c.inputs v e)))

  wire_input : (v : ℕ) → listed (wires c) v ≡ true → listed (outs c.gates) v ≡ false → listed c.inputs v ≡ true
  wire_input v d n =
      test (listed c.inputs v) (λ y. y)
      (λ y. clash d
      (listed_append c.inputs (outs c.gates) v ∙ (or_fails (listed c.inputs v) (listed (outs c.gates) v)).1 (y, n)))

  -- ---- A setting that makes the gate clauses true is a solution.
  setting_free : (s x v : ℕ) → listed (outs c.gates) v ≡ false → read c s x v ≡ given c s (x % input_settings c) v
  unfolding read at_place
  setting_free s x v n =
      let i : ℕ = x % input_settings c in
      place_cases c (λ p. at_place s x p ≡ given c s i v) v
      (λ e. sym (given_latch c s i v e))
      (λ e d. let y = wire_input v d n in ap (λ (z : ℕ). eqb z 1) (input_bit x v y) ∙ sym (given_input c s i v e y))
      (λ e d. sym (given_none c s i v e (wire_none v d).0))

  setting_solves : (s x : ℕ) → every (right (read c s x)) c.gates ≡ true
      → Solves c.gates (given c s (x % input_settings c)) (read c s x)
  unfolding right
  setting_solves s x e v = go (gate_of c.gates v) refl
    where
      go : (o : Option Gate) → gate_of c.gates v ≡ o → read c s x v ≡ through (given c s (x % input_settings c)) (read c s x) v o
      go none q = setting_free s x v (gate_unlisted c.gates v q)
      go (some g) q =
          let r = gate_found c.gates v g q in
          rw (← r.1)
          (beq_eq (read c s x g.out) (and_of (read c s x) g)
          ((every_mem (λ (h : Gate). beq (read c s x h.out) (and_of (read c s x) h)) c.gates).0 e g r.0))

  -- So it is the circuit's values under the inputs in it.
  pub setting_values : (s x : ℕ) → every (right (read c s x)) c.gates ≡ true → read c s x ≡ values c s (x % input_settings c)
  unfolding values
  setting_values s x e =
      value_unique c.gates A.loops (given c s (x % input_settings c)) (read c s x) (setting_solves s x e)

  -- ---- The values make a setting: each wire has its variable's value.
  unfoldable pub setting : (ℕ → Bool) → ℕ
  setting a = number (map a (wires c))

  pub setting_lt : (a : ℕ → Bool) → setting a < wire_settings c
  unfolding setting
  setting_lt a = rw (← wires_length c, ← length-map (wires c) a) (number_lt (map a (wires c)))

  setting_bit : (a : ℕ → Bool) (v : ℕ) → listed (wires c) v ≡ true → eqb (bit (setting a) (index (wires c) v)) 1 ≡ a v
  unfolding setting
  setting_bit a v e =
      number_bit (map a (wires c)) (index (wires c) v) (a 0) (rw (length-map (wires c) a) (index_lt (wires c) v e))
      ∙ get_or-map a (wires c) (index (wires c) v) 0
      ∙ ap a (index_at (wires c) v e)

  module _ (s i : ℕ) (a : ℕ → Bool) (S : Solves c.gates (given c s i) a) where
    pub free : (v : ℕ) → gate_of c.gates v ≡ none → a v ≡ given c s i v
    free v e = S v ∙ rw e

    read_setting : read c s (setting a) ≡ a
    unfolding read at_place
    read_setting =
        fun_ext (λ v. place_cases c (λ p. at_place s (setting a) p ≡ a v) v
        (λ e. sym (free v (wire_none v (distinct_apart (latch_vars c) (wires c) A.once v e)).1 ∙ given_latch c s i v e))
        (λ e d. setting_bit a v d)
        (λ e d. sym (free v (wire_none v d).1 ∙ given_none c s i v e (wire_none v d).0)))

    solution_right : every (right a) c.gates ≡ true
    unfolding right
    solution_right =
        (every_mem (λ (g : Gate). beq (a g.out) (and_of a g)) c.gates).1
        (λ g m. rw (S g.out ∙ ap (through (given c s i) a g.out) (gate_of_lem c.gates gates_distinct g m)) (eq_beq (and_of a g)))

  pub values_solve : (s i : ℕ) → Solves c.gates (given c s i) (values c s i)
  unfolding values
  values_solve s i = value_solves c.gates A.loops (given c s i)

  pub values_setting : (s i : ℕ) → (read c s (setting (values c s i)) ≡ values c s i) × (every (right (values c s i)) c.gates ≡ true)
  values_setting s i = (read_setting s i (values c s i) (values_solve s i), solution_right s i (values c s i) (values_solve s i))

  -- ---- Some setting of the wires exactly if some inputs: whatever is asked of the values besides.
  module _ (s : ℕ) (P : (ℕ → Bool) → Bool) where
    -- what the clauses ask of a setting, and what is asked of inputs
    abbrev of_wires : ℕ → Bool
    of_wires x = every (right (read c s x)) c.gates && P (read c s x)

    abbrev of_inputs : ℕ → Bool
    of_inputs i = P (values c s i)

    -- no setting will do: not the one of the values either
    no_inputs : somewhere (wire_settings c) of_wires ≡ false → (i : ℕ) → of_inputs i ≡ false
    no_inputs e i =
        rw ((values_setting s i).0, (values_setting s i).1) at
        ((somewhere_false (wire_settings c) of_wires).0 e (setting (values c s i)) (setting_lt (values c s i)))

    -- no inputs will do: not those of a setting either
    no_wires : somewhere (input_settings c) of_inputs ≡ false → (x : ℕ) → of_wires x ≡ false
    no_wires e x =
        test (every (right (read c s x)) c.gates)
        (λ q. rw q
        (ap P (setting_values s x q)
        ∙ (somewhere_false (input_settings c) of_inputs).0 e (x % input_settings c) (mod-lt x (pow_pos (length c.inputs)))))
        (λ q. rw q)

    wires_inputs : somewhere (wire_settings c) of_wires ≡ somewhere (input_settings c) of_inputs
    wires_inputs =
        same_test (somewhere (wire_settings c) of_wires) (somewhere (input_settings c) of_inputs)
        (λ e. (somewhere_false (input_settings c) of_inputs).1 (λ i l. no_inputs e i))
        (λ e. (somewhere_false (wire_settings c) of_wires).1 (λ x l. no_wires e x))

  -- ---- the lists
  shared_says : (s x : ℕ) → every (says s x) (shared c) ≡ (every (right (read c s x)) c.gates && constrained c (read c s x))
  unfolding constrained
  shared_says s x =
      every_append (says s x) (gate_clauses (place_of c) c.gates) (constraint_clauses (place_of c) c.constraints)
      ∙ ap₂ (λ (p q : Bool). p && q) (gates_say c within s x c.gates) (constraints_say c within s x c.constraints)

  step_list : List ℕ
  step_list = flat (latch_clauses (place_of c) 0 c.latches ++ shared c)

  bad_list : List ℕ
  bad_list = flat (clause_of (place_of c) (watched c) ∷ shared c)

  -- the latch clauses say that t is the next state
  next_says : (s t x : ℕ) → s < 2 ^ 32 → t < 2 ^ length c.latches
      → every (says (pair s t) x) (latch_clauses (place_of c) 0 c.latches) ≡ eqb t (next_state c (read c (pair s t) x))
  unfolding next_state
  next_says s t x h l =
      let f : Latch → Bool = λ (y : Latch). literal (read c (pair s t) x) y.next in
      latches_say c within (pair s t) x t 0 c.latches (λ j k. (pair_bits s t j h k).1) (omega (arith, A.latches))
      ∙ agrees_number t (map f c.latches) (rw (length-map c.latches f) l)

  step_says : (s t x : ℕ) → s < 2 ^ 32 → t < 2 ^ length c.latches
      → list_true step_list (pair s t) x ≡ of_wires s (λ a. eqb t (next_state c a) && constrained c a) x
  unfolding step_list
  step_says s t x h l =
      flat_says (pair s t) x (latch_clauses (place_of c) 0 c.latches ++ shared c)
      ∙ every_append (says (pair s t) x) (latch_clauses (place_of c) 0 c.latches) (shared c)
      ∙ ap₂ (λ (p q : Bool). p && q) (next_says s t x h l) (shared_says (pair s t) x)
      ∙ rw (read_pair s t x h)
      (and_swap (eqb t (next_state c (read c s x))) (every (right (read c s x)) c.gates) (constrained c (read c s x)))

  bad_says : (s x : ℕ) → list_true bad_list s x ≡ of_wires s (λ a. any (literal a) (watched c) && constrained c a) x
  unfolding bad_list every
  bad_says s x =
      flat_says s x (clause_of (place_of c) (watched c) ∷ shared c)
      ∙ ap₂ (λ (p q : Bool). p && q) (clause_says c within s x (watched c)) (shared_says s x)
      ∙ and_swap (any (literal (read c s x)) (watched c)) (every (right (read c s x)) c.gates) (constrained c (read c s x))

  -- ---- "The imported system must have the circuit's own start states, steps and bad states."
  pub same_size : (model (imported c)).size ≡ (meaning c).size
  unfolding model imported meaning
  same_size = refl

  pub same_start : (s : ℕ) → (model (imported c)).start s ≡ (meaning c).start s
  unfolding model imported meaning
  same_start s = flat_says s 0 (start_clauses 0 c.latches) ∙ starts_say s 0 0 c.latches (omega (arith, A.latches))

  pub same_step : (s t : ℕ) → s < (meaning c).size → t < (meaning c).size → (model (imported c)).step s t ≡ (meaning c).step s t
  unfolding model some_true imported meaning step_list
  same_step s t h l =
      let P : (ℕ → Bool) → Bool = λ a. eqb t (next_state c a) && constrained c a in
      somewhere_same (wire_settings c) (list_true step_list (pair s t)) (of_wires s P)
      (λ x k. step_says s t x (lt_of_lt_of_le h (pow_mono A.latches)) l)
      ∙ wires_inputs s P

  pub same_bad : (s : ℕ) → (model (imported c)).bad s ≡ (meaning c).bad s
  unfolding model some_true imported meaning bad_list
  same_bad s =
      let P : (ℕ → Bool) → Bool = λ a. any (literal a) (watched c) && constrained c a in
      somewhere_same (wire_settings c) (list_true bad_list s) (of_wires s P) (λ x k. bad_says s x) ∙ wires_inputs s P

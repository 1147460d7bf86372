-- What was read, judged: the rows are the circuit's variables in their order, so the tests that are made on rows are the circuit's, and the lists
-- that are entered are its system's. Assumes nothing.
use Prim.Native.Nat.{ℕ, zero, suc, ◌+◌, ◌*◌, ◌≤◌}
use mathlib.Core.Bool.{Bool, true, false, not, ◌&&◌, ◌||◌}
use mathlib.Core.List.{List, ◌++◌, map, append_assoc}
use mathlib.Core.Path.{◌≡◌, refl, sym, ap, ap₂, ◌∙◌}
use native.Mathlib.Omega.{arith}
use borrow.Author.Tests.{ltb-false}
use lib.Dec.{eqb, ltb}
use lib.ListN.{length, take, drop, length-append, length-drop, take-append-drop}
use lib.Seq.{length-take-le, take_at, drop_at, drop-drop}
use Rattle.base.specs.Refusals.{◌if◌, ◌else◌, most_clauses}
use Rattle.base.proofs.Refusals.{else_none, if_none}
use Rattle.masks.proofs.Somewhere.{or_fails}
use Rattle.ic3.specs.Demands.{listed, Distinct}
use Rattle.circuit.specs.Circuit.{Latch, Gate, latch_vars, outs, every}
use Rattle.circuit.specs.Loops.{loop_free}
use Rattle.circuit.specs.Refusals.{wires, defined, used, twice, known, nothing_watched, circuit_refusal}
use Rattle.circuit.specs.Import.{import_refusal}
use Rattle.circuit.proofs.Lists.{every_append, listed_append, distinct_right}
use Rattle.circuit.proofs.Sentences.{fixed_le}
use Rattle.circuit.proofs.Main.{starting, stepping, watching, import_counts}
use Rattle.circuit.proofs.Refusals.{twice_distinct}
use Rattle.aiger.specs.Text.{firsts, vars, latches_of, gates_of, circuit_of}
use Rattle.aiger.specs.declared.table.Row.{Row}
use Rattle.aiger.specs.Inner.{flattened, known_in, start_list, LoopFree, Sized, too_few, Held, circuit_in}
use Rattle.aiger.specs.Inner.{wrong_rows, shared_count, short, last_refusal}
use Rattle.aiger.specs.declared.read.Header.{Header}
use Rattle.aiger.specs.declared.read.Reading.{Reading}
use Rattle.aiger.proofs.Threes.{flat_length, flat_drop, flat_take, threes_append, outs_rows, latches_rows, latches_many}
use Rattle.aiger.proofs.Entering.{starts_many}
use Rattle.aiger.proofs.Heading.{header_tests, header_limits, counted_latches, counted_inputs, counted_gates, counted_singles}
use Rattle.aiger.proofs.Knowing.{starts_known, gates_known}

-- ---- the last refusals
-- the list of start has one clause a latch at most
pub starts_most : (latches : List ℕ) → length latches ≤ 96 → length (start_list latches) ≤ 128
starts_most latches h = omega (arith, starts_many latches, fixed_le (latches_of latches), latches_many latches)

-- the last refusals, by their tests
pub last_by : (h : Header) (latches : List ℕ) (a b d : ℕ) {x y z : Bool} → (eqb h.outputs 0 && eqb h.bads 0) ≡ x
    → short h (length (start_list latches)) a b d ≡ y → ltb most_clauses (2 * h.latches + shared_count h) ≡ z
    → last_refusal h latches a b d ≡ (26 if x else 32 if y else 2 if z)
unfolding last_refusal
last_by h latches a b d p q r = rw (p, q, r)

-- ---- what is held
module _ {text : List ℕ} {r : Reading} {rows : List Row} (h : Held text r rows) where
  abbrev H : Header
  H = r.header

  abbrev literals : List ℕ
  literals = firsts h.singles

  pub held_latches : length (circuit_in h).latches ≡ H.latches
  held_latches = counted_latches h.counted

  pub held_inputs : length (circuit_in h).inputs ≡ H.inputs
  held_inputs = counted_inputs h.counted

  pub held_gates : length (circuit_in h).gates ≡ H.gates
  held_gates = counted_gates h.counted

  -- the parts of the rows
  pub latch_rows : take (3 * H.latches) (flattened rows) ≡ h.latches
  latch_rows = rw h.content (take_at h.latches (h.inputs ++ h.gates) (3 * H.latches) h.counted.many_latches)

  pub gate_rows : drop (3 * (H.latches + H.inputs)) (flattened rows) ≡ h.gates
  gate_rows =
      rw (h.content, ← append_assoc h.latches h.inputs h.gates)
      (drop_at (h.latches ++ h.inputs) h.gates (3 * (H.latches + H.inputs))
      (omega (arith, length-append h.latches h.inputs, h.counted.many_latches, h.counted.many_inputs)))

  -- the rows are all variables that are defined, in the order of their places
  pub held_vars : vars (flattened rows) ≡ defined (circuit_in h)
  unfolding circuit_of
  held_vars =
      rw h.content
      (threes_append _ h.latches (h.inputs ++ h.gates) H.latches h.counted.many_latches
      ∙ ap₂ (λ (a b : List ℕ). a ++ b) (sym (latches_rows h.latches))
      (threes_append _ h.inputs h.gates H.inputs h.counted.many_inputs
      ∙ ap (λ (b : List ℕ). vars h.inputs ++ b) (sym (outs_rows h.gates))))

  pub held_sized : Sized H rows
  held_sized =
      record {
        limits = header_limits H h.header;
        many =
            omega (
              arith,
              flat_length rows,
              ap length h.content,
              length-append h.latches (h.inputs ++ h.gates),
              length-append h.inputs h.gates,
              h.counted.many_latches,
              h.counted.many_inputs,
              h.counted.many_gates,
            );
      }

  -- ---- the literals that stand alone
  held_outputs : length (circuit_in h).outputs ≡ H.outputs
  unfolding circuit_of
  held_outputs = length-take-le H.outputs literals (omega (arith, counted_singles h.counted))

  pub held_bads : length (circuit_in h).bads ≡ H.bads
  unfolding circuit_of
  held_bads =
      length-take-le H.bads (drop H.outputs literals) (omega (arith, counted_singles h.counted, length-drop H.outputs literals))

  pub held_constraints : length (circuit_in h).constraints ≡ H.constraints
  unfolding circuit_of
  held_constraints = length-drop (H.outputs + H.bads) literals ∙ omega (arith, counted_singles h.counted)

  -- all of them, one behind the other
  held_literals : literals ≡ (circuit_in h).outputs ++ ((circuit_in h).bads ++ (circuit_in h).constraints)
  unfolding circuit_of
  held_literals =
      sym (ap (λ (l : List ℕ). take H.outputs literals ++ (take H.bads (drop H.outputs literals) ++ l)) (sym rest)
      ∙ (ap (λ (l : List ℕ). take H.outputs literals ++ l) (take-append-drop H.bads (drop H.outputs literals))
      ∙ take-append-drop H.outputs literals))
    where
      rest : drop H.bads (drop H.outputs literals) ≡ drop (H.outputs + H.bads) literals
      rest = drop-drop H.bads H.outputs literals

  -- ---- refusal 24
  pub held_24 : (twice (defined (circuit_in h)) || not (every (known (circuit_in h)) (used (circuit_in h))))
      ≡ (wrong_rows (flattened rows) H.latches (H.latches + H.inputs) || not (every (known_in (vars (flattened rows))) literals))
  unfolding wrong_rows known known_in circuit_of every
  held_24 =
      let vs = defined (circuit_in h) in
      let ls = map (λ (l : Latch). l.next) (latches_of h.latches) in
      let a = map (λ (g : Gate). g.left) (gates_of h.gates) in
      let b = map (λ (g : Gate). g.right) (gates_of h.gates) in
      let o = (circuit_in h).outputs ++ ((circuit_in h).bads ++ (circuit_in h).constraints) in
      let p = known_in vs in
      let own : (v : ℕ) → listed (vars h.latches) v ≡ true → listed vs v ≡ true =
      λ v e. listed_append (latch_vars (circuit_in h)) (wires (circuit_in h)) v
      ∙ ap (λ (t : Bool). t || listed (wires (circuit_in h)) v) (ap (λ (us : List ℕ). listed us v) (latches_rows h.latches) ∙ e) in
      rw (held_vars, latch_rows, gate_rows, starts_known vs h.latches own h.right, gates_known vs h.gates)
      (ap (λ (x : Bool). twice vs || not x)
      (every_append p ls (a ++ (b ++ o))
      ∙ ap (λ (x : Bool). every p ls && x) (every_append p a (b ++ o)
      ∙ ap (λ (x : Bool). every p a && x) (every_append p b o)))
      ∙ (sort (twice vs) (every p ls) (every p a) (every p b) (every p o)
      ∙ ap (λ (l : List ℕ). (twice vs || (not (every p ls) || not (every p a && every p b))) || not (every p l)) (sym held_literals)))
    where
      sort : (t n l r o : Bool) → (t || not (n && (l && (r && o)))) ≡ ((t || (not n || not (l && r))) || not o)
      sort true n l r o = refl
      sort false false l r o = refl
      sort false true false r o = refl
      sort false true true false o = refl
      sort false true true true o = refl

  -- ---- the refusals from 24 on, as they are found
  pub held_refusal : circuit_refusal H.m (circuit_in h)
      ≡ 24 if (wrong_rows (flattened rows) H.latches (H.latches + H.inputs) || not (every (known_in (vars (flattened rows))) literals))
      else 25 if not (loop_free (gates_of h.gates))
      else 26 if eqb H.outputs 0 && eqb H.bads 0
  unfolding circuit_refusal nothing_watched too_few circuit_of
  held_refusal =
      let t = header_tests H h.header in
      let c = circuit_in h in
      let e₁ : ltb H.m (length c.inputs + length c.latches + length c.gates) ≡ false =
      rw (held_inputs, held_latches, held_gates) h.enough in
      let e₂ : (eqb (length c.latches) 0 || ltb 32 (length c.latches)) ≡ false = rw held_latches t.0 in
      let e₃ : ltb 64 (length c.inputs + length c.gates) ≡ false = rw (held_inputs, held_gates) t.1 in
      let e₅ : nothing_watched c ≡ (eqb H.outputs 0 && eqb H.bads 0) = rw (held_outputs, held_bads) in
      past (not (loop_free (gates_of h.gates))) e₁ h.right e₂ e₃ held_24 e₅
    where
      past : {a s b c d d' : Bool} (f : Bool) {g g' : Bool} → a ≡ false → s ≡ false → b ≡ false → c ≡ false → d ≡ d' → g ≡ g'
          → (21 if a else 28 if s else 22 if b else 23 if c else 24 if d else 25 if f else 26 if g) ≡ (24 if d' else 25 if f else 26 if g')
      past f e₁ e₂ e₃ e₄ e₅ e₆ = rw (e₁, e₂, e₃, e₄, e₅, e₆)

  -- the lengths of the lists, by the header's counts
  held_stepping : stepping (circuit_in h) ≡ 2 * H.latches + shared_count H
  held_stepping = rw (held_latches, held_gates, held_constraints)

  pub held_short : (a b d : ℕ)
      → (ltb a (4 * starting (circuit_in h)) || (ltb b (4 * stepping (circuit_in h)) || ltb d (4 * watching (circuit_in h))))
      ≡ short H (length (start_list h.latches)) a b d
  unfolding short circuit_of
  held_short a b d = rw (held_stepping, held_gates, held_constraints, starts_many h.latches)

  -- the refusal of the import
  pub held_number : (a b d : ℕ) → import_refusal H.m (circuit_in h) a b d
      ≡ 24 if (wrong_rows (flattened rows) H.latches (H.latches + H.inputs) || not (every (known_in (vars (flattened rows))) literals))
      else 25 if not (loop_free (gates_of h.gates))
      else last_refusal H h.latches a b d
  unfolding import_refusal last_refusal
  held_number a b d =
      first (circuit_refusal H.m (circuit_in h)) refl
      ∙ (ap (λ (x : ℕ). x else behind) held_refusal
      ∙ last (wrong_rows (flattened rows) H.latches (H.latches + H.inputs) || not (every (known_in (vars (flattened rows))) literals)) (not (loop_free (gates_of h.gates)))
      (eqb H.outputs 0 && eqb H.bads 0) _)
    where
      behind : ℕ
      behind = 32 if short H (length (start_list h.latches)) a b d else 2 if ltb most_clauses (2 * H.latches + shared_count H)

      first : (x : ℕ) → circuit_refusal H.m (circuit_in h) ≡ x
          → import_refusal H.m (circuit_in h) a b d ≡ circuit_refusal H.m (circuit_in h) else behind
      first zero e = import_counts H.m (circuit_in h) a b d e ∙ rw (e, held_short a b d, held_stepping)
      first (suc k) e = rw (e, import_refusal)

      last : (p q r : Bool) (x : ℕ) → ((24 if p else 25 if q else 26 if r) else x) ≡ (24 if p else 25 if q else 26 if r else x)
      last true q r x = refl
      last false true r x = refl
      last false false true x = refl
      last false false false x = refl

  -- each number by the tests that were made
  module _ (a b d : ℕ) where
    abbrev K : Bool
    K = every (known_in (vars (flattened rows))) literals

    abbrev number : ℕ
    number = import_refusal H.m (circuit_in h) a b d

    pub number_24 : (wrong_rows (flattened rows) H.latches (H.latches + H.inputs) || not K) ≡ true → number ≡ 24
    number_24 e = held_number a b d ∙ rw e

    module _ (e : (wrong_rows (flattened rows) H.latches (H.latches + H.inputs) || not K) ≡ false) where
      pub number_25 : loop_free (gates_of h.gates) ≡ false → number ≡ 25
      number_25 f = held_number a b d ∙ rw (e, f)

      pub number_last : loop_free (gates_of h.gates) ≡ true → number ≡ last_refusal H h.latches a b d
      number_last f = held_number a b d ∙ rw (e, f)

  -- where none of the last is given: each store has room, and there are no more constraints than clauses
  module _ (a b d : ℕ) (e : last_refusal H h.latches a b d ≡ 0) where
    last_tests : (short H (length (start_list h.latches)) a b d ≡ false) × (ltb most_clauses (2 * H.latches + shared_count H) ≡ false)
    unfolding last_refusal
    last_tests =
        let p = else_none (26 if eqb H.outputs 0 && eqb H.bads 0) _ e in
        let q = else_none (32 if short H (length (start_list h.latches)) a b d) _ p.1 in
        (if_none 31 _ q.0, if_none 1 _ q.1)

    pub last_room : short H (length (start_list h.latches)) a b d ≡ false
    last_room = last_tests.0

    pub last_few : H.constraints ≤ 4096
    last_few = omega (arith, ltb-false most_clauses (2 * H.latches + shared_count H) last_tests.1)

  -- a number that was found for the rows
  module _ (a b d number : ℕ) (found : number ≡ last_refusal H (flattened (take H.latches rows)) a b d) where
    abbrev last : ℕ
    last = last_refusal H h.latches a b d

    pub last_found : number ≡ last
    last_found = found ∙ ap (λ (ls : List ℕ). last_refusal H ls a b d) (flat_take H.latches rows ∙ latch_rows)

    pub last_none : number ≡ 0 → last ≡ 0
    last_none e = sym last_found ∙ e

    -- the last refusals are none of a start value
    pub last_other : number ≡ 28 → ⊥
    unfolding last_refusal
    last_other e =
        pick (eqb H.outputs 0 && eqb H.bads 0) (short H (length (start_list h.latches)) a b d)
        (ltb most_clauses (2 * H.latches + shared_count H)) (sym last_found ∙ e)
      where
        pick : (x y z : Bool) → (26 if x else 32 if y else 2 if z) ≡ 28 → ⊥
        pick true y z f = omega arith
        pick false true z f = omega arith
        pick false false true f = omega arith
        pick false false false f = omega arith

  -- no gate's variable is defined twice where no row's is
  pub held_loops : wrong_rows (flattened rows) H.latches (H.latches + H.inputs) ≡ false → (found : Bool)
      → LoopFree (flattened (drop (H.latches + H.inputs) rows)) found
      → found ≡ loop_free (gates_of h.gates)
  unfolding wrong_rows circuit_of
  held_loops e found f =
      let t = ((or_fails (twice (vars (flattened rows))) _).0 e).0 in
      let d : Distinct (defined (circuit_in h)) = rw (← held_vars) ((twice_distinct (vars (flattened rows))).0 t) in
      let g = distinct_right (c_inputs) (outs (circuit_in h).gates) (distinct_right (latch_vars (circuit_in h)) (wires (circuit_in h)) d) in
      (rw (flat_drop (H.latches + H.inputs) rows, gate_rows) at f) (rw (← outs_rows h.gates) g)
    where
      c_inputs : List ℕ
      c_inputs = (circuit_in h).inputs

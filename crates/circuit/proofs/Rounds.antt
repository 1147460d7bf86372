-- The masks of rounds are the test for refusal 25: after k rounds a gate's bit says whether k settle it. Assumes nothing.
use Prim.Native.Nat.{ℕ, zero, suc, ◌-◌, ◌/◌, ◌^◌, ◌<◌}
use mathlib.Core.Path.{◌≡◌, refl, sym, ap, fun_ext, ◌∙◌}
use mathlib.Core.Logic.{◌↔◌}
use mathlib.Core.Bool.{Bool, true, false, ◌&&◌}
use mathlib.Core.List.{List, [], ◌∷◌, map}
use mathlib.Core.Option.{none, some}
use native.Mathlib.Omega.{arith}
use borrow.Author.Tests.{eqb-true, eq-eqb, ne_eqb}
use lib.Dec.{eqb}
use lib.ListN.{length, get_or, length-map, get_or-map}
use lib.Pow.{pow_pos}
use Rattle.masks.specs.Bit.{bit}
use Rattle.masks.proofs.Bits.{bit_of_zero, bits_below}
use Rattle.masks.proofs.Operations.{full}
use Rattle.ic3.specs.Demands.{listed, Distinct}
use Rattle.base.proofs.Tests.{test, clash}
use Rattle.circuit.specs.Circuit.{Gate, outs, gate_of, index, among}
use Rattle.circuit.specs.Loops.{settled, loop_free, round, rounds}
use Rattle.circuit.proofs.Lists.{index_lt, index_of, listed_at, number_lt, number_bit, every_mem}
use Rattle.circuit.proofs.Values.{among_in, among_out, gate_none, gate_listed, all_settled}

-- the gate of a listed variable stands at the variable's position
gate_index : (gs : List Gate) (v : ℕ) (d : Gate) → listed (outs gs) v ≡ true → gate_of gs v ≡ some (get_or gs (index (outs gs) v) d)
unfolding gate_of listed index
gate_index [] v d e = clash e refl
gate_index (g ∷ gs) v d e =
    test (eqb g.out v)
    (λ q. rw (q, gate_of) (rw (q, index)))
    (λ q. rw (q, gate_of) (rw (q, index) (gate_index gs v d (rw (q, listed) at e))))

module _ (gs : List Gate) where
  -- both operands settled, by k
  operands : (ℕ → Bool) → Gate → Bool
  operands f g = f (g.left / 2) && f (g.right / 2)

  settled_none : (k v : ℕ) → gate_of gs v ≡ none → settled gs k v ≡ true
  unfolding settled
  settled_none zero v e = rw (e, settled)
  settled_none (suc k) v e = rw (e, settled)

  settled_some : (k v : ℕ) (g : Gate) → gate_of gs v ≡ some g → settled gs (suc k) v ≡ operands (settled gs k) g
  unfolding settled operands
  settled_some k v g e = rw (e, settled)

  settled_first : (v : ℕ) (g : Gate) → gate_of gs v ≡ some g → settled gs zero v ≡ false
  unfolding settled
  settled_first v g e = rw (e, settled)

  some_gate : Gate
  some_gate = record { out = 0; left = 0; right = 0 }

  -- a gate's bit after a round
  round_bit : (m v : ℕ) → listed (outs gs) v ≡ true
      → eqb (bit (round gs m) (index (outs gs) v)) 1 ≡ operands (among (outs gs) m true) (get_or gs (index (outs gs) v) some_gate)
  unfolding round operands
  round_bit m v e =
      let f : Gate → Bool = operands (among (outs gs) m true) in
      number_bit (map f gs) (index (outs gs) v) (f some_gate)
      (omega (arith, length-map gs f, length-map gs (λ (g : Gate). g.out), index_lt (outs gs) v e))
      ∙ get_or-map f gs (index (outs gs) v) some_gate

  pub rounds_settle : (k v : ℕ) → among (outs gs) (rounds gs k) true v ≡ settled gs k v
  unfolding rounds
  rounds_settle zero v =
      test (listed (outs gs) v)
      (λ e. among_in (outs gs) 0 true v e
      ∙ ne_eqb (bit 0 (index (outs gs) v)) 1 (λ q. omega (arith, bit_of_zero (index (outs gs) v)))
      ∙ sym (settled_first v (get_or gs (index (outs gs) v) some_gate) (gate_index gs v some_gate e)))
      (λ e. among_out (outs gs) 0 true v e ∙ sym (settled_none zero v (gate_none gs v e)))
  rounds_settle (suc k) v =
      test (listed (outs gs) v)
      (λ e. let g : Gate = get_or gs (index (outs gs) v) some_gate in
      among_in (outs gs) (round gs (rounds gs k)) true v e
      ∙ round_bit (rounds gs k) v e
      ∙ ap (λ (f : ℕ → Bool). operands f g) (fun_ext (rounds_settle k))
      ∙ sym (settled_some k v g (gate_index gs v some_gate e)))
      (λ e. among_out (outs gs) (round gs (rounds gs k)) true v e ∙ sym (settled_none (suc k) v (gate_none gs v e)))

  pub rounds_lt : (k : ℕ) → rounds gs k < 2 ^ length gs
  unfolding rounds round
  rounds_lt zero = pow_pos (length gs)
  rounds_lt (suc k) =
      let f : Gate → Bool = λ (g : Gate). among (outs gs) (rounds gs k) true (g.left / 2) && among (outs gs) (rounds gs k) true (g.right / 2) in
      rw (← length-map gs f) (number_lt (map f gs))

  -- refusal 25 is not given exactly if as many rounds as gates settle all
  pub loop_rounds : Distinct (outs gs) → (loop_free gs ≡ true) ↔ (rounds gs (length gs) ≡ 2 ^ length gs - 1)
  unfolding loop_free
  loop_rounds d = (
    λ t. bits_below (length gs) (rounds gs (length gs)) (2 ^ length gs - 1) (rounds_lt (length gs)) (omega (arith, pow_pos (length gs))) (λ j l.
        let v : ℕ = get_or (outs gs) j 0 in
        let h : j < length (outs gs) = omega (arith, length-map gs (λ (g : Gate). g.out)) in
        let e = among_in (outs gs) (rounds gs (length gs)) true v (listed_at (outs gs) j h) in
        rw (← index_of (outs gs) d j h)
        (eqb-true (bit (rounds gs (length gs)) (index (outs gs) v)) 1 (sym e ∙ rounds_settle (length gs) v ∙ all_settled gs t v)
        ∙ sym (full (length gs) (index (outs gs) v) (omega (arith, index_of (outs gs) d j h))))),
    λ e. (every_mem (λ (g : Gate). settled gs (length gs) g.out) gs).1 (λ g m.
        let n = gate_listed gs g m in
        let l : index (outs gs) g.out < length gs = omega (arith, index_lt (outs gs) g.out n, length-map gs (λ (g : Gate). g.out)) in
        sym (rounds_settle (length gs) g.out)
        ∙ among_in (outs gs) (rounds gs (length gs)) true g.out n
        ∙ rw e (eq-eqb (bit (2 ^ length gs - 1) (index (outs gs) g.out)) 1 (full (length gs) (index (outs gs) g.out) l))),
  )

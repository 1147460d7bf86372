-- A round over the rows of gates, from the lowest bit up: what is gathered, and a power of two times what the rows from row k on give, is the
-- round's mask. And the rounds: as many as rows reach the mask of all gates exactly where no gate depends on itself. Assumes nothing.
use Prim.Native.Nat.{ℕ, ◌+◌, ◌-◌, ◌*◌, ◌/◌, ◌^◌, ◌≤◌, ◌<◌}
use mathlib.Core.Path.{◌≡◌, sym, ap, ◌∙◌}
use mathlib.Core.Bool.{Bool, true, false, ◌&&◌}
use mathlib.Core.List.{List, map}
use native.Mathlib.Nat.{mul-add, mul_assoc, mul-one, mul-zero, pow-suc}
use native.Mathlib.Numerals.{add-one}
use native.Mathlib.Omega.{arith}
use borrow.Author.Tests.{eq-eqb, ne_eqb}
use lib.Dec.{eqb}
use lib.ListN.{length, drop}
use Rattle.base.proofs.Tests.{test, clash}
use Rattle.ic3.specs.Demands.{Distinct}
use Rattle.circuit.specs.Circuit.{Gate, among, number}
use Rattle.circuit.specs.Loops.{loop_free, round, rounds}
use Rattle.circuit.proofs.Rounds.{loop_rounds}
use Rattle.aiger.specs.Text.{vars, gates_of}
use Rattle.aiger.specs.Inner.{flattened, gate_of}
use Rattle.aiger.specs.declared.table.Row.{Row}
use Rattle.aiger.proofs.Threes.{flat_length, threes_next, threes_end, gates_many, outs_rows}
use Rattle.aiger.proofs.Finding.{both_pass, gate_at}

-- ---- the bit at k
abbrev pub bit_at : ℕ → Bool → ℕ
bit_at k b = elim b as (λ x. ℕ) [ true ↦ 2 ^ k | false ↦ 0 ]

bit_most : (k : ℕ) (b : Bool) → bit_at k b ≤ 2 ^ k
bit_most k true = omega arith
bit_most k false = omega arith

-- it stands before all above it
bit_first : (k : ℕ) (b : Bool) (n : ℕ) → 2 ^ k * ((elim b as (λ x. ℕ) [ true ↦ 1 | false ↦ 0 ]) + 2 * n) ≡ bit_at k b + 2 ^ (k + 1) * n
bit_first k true n = mul-add (2 ^ k) 1 (2 * n) ∙ rw (add-one k, pow-suc 2 k, mul_assoc (2 ^ k) 2 n, mul-one (2 ^ k))
bit_first k false n = mul-add (2 ^ k) 0 (2 * n) ∙ rw (add-one k, pow-suc 2 k, mul_assoc (2 ^ k) 2 n, mul-zero (2 ^ k))

-- ---- a round
module _ (rows : List Row) (m : ℕ) where
  -- a literal's variable is no gate's or in the mask; both of a gate are
  abbrev pub settled_literal : ℕ → Bool
  settled_literal l = among (vars (flattened rows)) m true (l / 2)

  abbrev pub settled_by : Gate → Bool
  settled_by g = both_pass settled_literal g

  -- what the rows from k on give
  abbrev pub given : ℕ → ℕ
  given k = number (map settled_by (gates_of (flattened (drop k rows))))

  round_given : round (gates_of (flattened rows)) m ≡ given 0
  unfolding round
  round_given =
      ap
      (λ (vs : List ℕ). number (map (λ (g : Gate). among vs m true (g.left / 2) && among vs m true (g.right / 2)) (gates_of (flattened rows))))
      (outs_rows (flattened rows))

  -- a turn of the round: next gathers the bits below k
  pub record Gathers (next k : ℕ) : Type 0 where
    pub within : k ≤ length rows
    pub low : next < 2 ^ k
    pub says : round (gates_of (flattened rows)) m ≡ next + 2 ^ k * given k

  pub gathers_none : Gathers 0 0
  gathers_none = record { within = omega arith; low = omega arith; says = round_given ∙ omega arith }

  module _ {next k : ℕ} (g : Gathers next k) where
    module _ (h : k < length rows) (b : Bool) (e : settled_by (gate_at rows k) ≡ b) where
      given_next : 2 ^ k * given k ≡ bit_at k b + 2 ^ (k + 1) * given (k + 1)
      unfolding number
      given_next = rw (threes_next gate_of rows k h, e) (bit_first k b (given (k + 1)))

      pub gathers_next : (r : ℕ) → r ≡ next + bit_at k b → Gathers r (k + 1)
      gathers_next r q =
          record {
            within = omega arith;
            low = rw (add-one k) (omega (arith, pow-suc 2 k, bit_most k b));
            says = g.says ∙ omega (arith, given_next);
          }

    -- where no row is left all is gathered
    module _ (h : length rows ≤ k) where
      given_end : given k ≡ 0
      unfolding number
      given_end = rw (threes_end gate_of rows k h)

      pub gathers_all : next ≡ round (gates_of (flattened rows)) m
      gathers_all = sym (g.says ∙ rw given_end (omega (arith, mul-zero (2 ^ k))))

-- ---- all rounds
-- where no variable has two rows, the test for a gate that depends on itself
pub loop_decided : (rows : List Row) (mask full : ℕ) → mask ≡ rounds (gates_of (flattened rows)) (length rows) → full ≡ 2 ^ length rows - 1
    → Distinct (vars (flattened rows)) → eqb mask full ≡ loop_free (gates_of (flattened rows))
loop_decided rows mask full e f d =
    let gates = gates_of (flattened rows) in
    let size : length gates ≡ length rows = omega (arith, gates_many (flattened rows), flat_length rows) in
    let law = rw size at (loop_rounds gates (rw outs_rows d)) in
    test (loop_free gates)
    (λ t. eq-eqb mask full (e ∙ law.0 t ∙ sym f) ∙ sym t)
    (λ t. ne_eqb mask full (λ q. clash (law.1 (sym e ∙ q ∙ f)) t) ∙ sym t)

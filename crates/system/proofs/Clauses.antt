-- A clause by masks: it is false of a pair exactly if no bit of `ones` is 1 in the pair and every bit of `zeros` is. At each of the 64 positions the
-- two literals fail exactly if the bits of the two masks and of the pair meet two linear conditions; `omega` turns these into the equations of
-- masks, position by position. Assumes nothing.
use mathlib.Core.Path.{◌≡◌, refl, sym}
use mathlib.Core.Logic.{◌↔◌}
use mathlib.Core.Bool.{Bool, true, false, not, true≢false}
use Prim.Native.Nat.{ℕ, zero, suc, ◌+◌, ◌^◌, ◌≤◌, ◌<◌}
use native.Mathlib.Nat.{lt_of_le_of_lt}
use native.Mathlib.Omega.{arith}
use borrow.Author.Tests.{eqb-true, eqb-false, eq-eqb, ne_eqb, not-false}
use lib.Bits.{bit_and, and_le_l}
use lib.Dec.{eqb}
use lib.Pow.{pow_pos}
use Rattle.masks.specs.Bit.{bit}
use Rattle.masks.proofs.Bits.{bit_le, bit_of_zero, at_bit, bits_below}
use Rattle.masks.proofs.Operations.{meet}
use Rattle.masks.proofs.Somewhere.{somewhere_false}
use Rattle.system.specs.System.{literal_true, clause_true}

-- the literals at one position, o and z the masks' bits and v the pair's
literal_by_bits : (o z v : ℕ) → o ≤ 1 → z ≤ 1 → v ≤ 1
    → ((elim v as (λ x. Bool) [ zero ↦ eqb z 1 | suc b ↦ eqb o 1 ]) ≡ false) ↔ ((o + v ≤ 1) × (z ≤ v))
literal_by_bits o z zero p q r = (λ e. omega (arith, eqb-false z 1 e), λ l. ne_eqb z 1 (omega arith))
literal_by_bits o z (suc v) p q r = (λ e. omega (arith, eqb-false o 1 e), λ l. ne_eqb o 1 (omega arith))

-- both literals at a position fail
literal_false : (ones zeros w i : ℕ)
    → (literal_true ones zeros w i ≡ false) ↔ ((bit ones i + bit w i ≤ 1) × (bit zeros i ≤ bit w i))
unfolding literal_true
literal_false ones zeros w i =
    literal_by_bits (bit ones i) (bit zeros i) (bit w i) (bit_le ones i) (bit_le zeros i) (bit_le w i)

-- each literal of the clause fails
pub clause_literals : (ones zeros w : ℕ)
    → (clause_true ones zeros w ≡ false) ↔ ((i : ℕ) → i < 64 → (bit ones i + bit w i ≤ 1) × (bit zeros i ≤ bit w i))
unfolding clause_true
clause_literals ones zeros w = (
  λ e i l. (literal_false ones zeros w i).0 ((somewhere_false 64 (literal_true ones zeros w)).0 e i l),
  λ h. (somewhere_false 64 (literal_true ones zeros w)).1 (λ i l. (literal_false ones zeros w i).1 (h i l)),
)

-- two tests that fail together are the same
same_test : (a b : Bool) → (a ≡ false → b ≡ false) → (b ≡ false → a ≡ false) → a ≡ b
same_test true true f g = refl
same_test true false f g = g refl
same_test false true f g = sym (f refl)
same_test false false f g = refl

module _ (ones zeros w : ℕ) (p : ones < 2 ^ 64) (q : zeros < 2 ^ 64) where
  -- the clause is false
  pub clause_false : (clause_true ones zeros w ≡ false) ↔ ((bit_and ones w ≡ 0) × (bit_and zeros w ≡ zeros))
  clause_false = (
    λ e. let h = (clause_literals ones zeros w).0 e in (
      bits_below 64 (bit_and ones w) 0 (lt_of_le_of_lt (and_le_l ones w) p) (pow_pos 64)
          (λ i l. omega (arith, meet ones w i, (h i l).0, bit_of_zero i)),
      bits_below 64 (bit_and zeros w) zeros (lt_of_le_of_lt (and_le_l zeros w) q) q
          (λ i l. omega (arith, meet zeros w i, (h i l).1)),
    ),
    λ e. (clause_literals ones zeros w).1 (λ i l. (
      omega (arith, meet ones w i, at_bit i e.0, bit_of_zero i),
      omega (arith, meet zeros w i, at_bit i e.1),
    )),
  )

  -- a wanted 1 is there
  pub clause_by_ones : (bit_and ones w ≡ 0 → ⊥) → true ≡ clause_true ones zeros w
  clause_by_ones f =
      same_test true (clause_true ones zeros w) (λ e. absurd (true≢false e)) (λ e. absurd (f (clause_false.0 e).0))

  -- no wanted 1 is there: the zeros decide
  pub clause_by_zeros : bit_and ones w ≡ 0 → not (eqb (bit_and zeros w) zeros) ≡ clause_true ones zeros w
  clause_by_zeros e =
      same_test (not (eqb (bit_and zeros w) zeros)) (clause_true ones zeros w)
      (λ f. clause_false.1 (e, eqb-true _ _ (not-false _ f)))
      (λ f. rw (eq-eqb (bit_and zeros w) zeros (clause_false.0 f).1))

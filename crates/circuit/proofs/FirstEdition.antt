-- Circuits of the first edition: every latch starts at 0, and there are no bad-state lines and no constraints. Then all of a start state's bits are
-- 0, and an empty list asks nothing of the values: a step leads to the next state under some inputs, and a state is bad if some inputs make an output
-- 1. Assumes nothing.
use Prim.Native.Nat.{ℕ, zero, suc, ◌^◌, ◌<◌}
use mathlib.Core.Path.{◌≡◌, refl, sym, ap, ◌∙◌}
use mathlib.Core.Logic.{◌↔◌}
use mathlib.Core.Bool.{Bool, true, ◌&&◌, and-true}
use mathlib.Core.List.{List, [], ◌∷◌}
use native.Mathlib.Omega.{arith}
use borrow.Author.Tests.{eqb-true, eqb-false}
use lib.Dec.{eqb}
use lib.ListN.{length, get_or}
use lib.Pow.{pow_pos}
use Rattle.base.proofs.Tests.{test}
use Rattle.masks.specs.Bit.{bit, somewhere}
use Rattle.masks.proofs.Bits.{bit_of_zero, bits_below}
use Rattle.masks.proofs.Somewhere.{somewhere_same}
use Rattle.circuit.specs.Circuit.{Circuit, Latch, First, low, high, either, first, literal, every, any, values, next_state, constrained, watched, meaning}
use Rattle.circuit.proofs.Sentences.{fixed}
use Rattle.circuit.proofs.Starts.{firsts, start_bits}

abbrev pub AllLow : List Latch → Type 0
AllLow [] = Unit {0}
AllLow (l ∷ ls) = (l.start ≡ 0) × AllLow ls

pub record FirstEdition (c : Circuit) : Type 0 where
  pub low : AllLow c.latches
  pub no_bads : c.bads ≡ []
  pub no_constraints : c.constraints ≡ []

-- ---- start states
first_low : (l : Latch) → l.start ≡ 0 → first l ≡ low
unfolding first
first_low l z = ap (λ (n : ℕ). elim n as (λ y. First) [ zero ↦ low | suc r ↦ elim r as (λ y. First) [ zero ↦ high | suc q ↦ either ] ]) z

-- a start clause for each latch
pub fixed_low : (ls : List Latch) → AllLow ls → fixed ls ≡ length ls
unfolding fixed
fixed_low [] z = refl
fixed_low (l ∷ ls) z = rw (first_low l z.0, fixed) (ap suc (fixed_low ls z.1))

first_at : (ls : List Latch) → AllLow ls → (k : ℕ) → k < length ls → get_or (firsts ls) k either ≡ low
first_at [] z k h = absurd (omega arith)
first_at (l ∷ ls) z zero h = first_low l z.0
first_at (l ∷ ls) z (suc k) h = first_at ls z.1 k (omega arith)

module _ (c : Circuit) (F : FirstEdition c) where
  -- "Latches are state bits in file order and start at 0."
  pub first_start : (s : ℕ) → ((meaning c).start s ≡ true) ↔ ((k : ℕ) → k < length c.latches → bit s k ≡ 0)
  first_start s = (
    λ e k h. rw (first_at c.latches F.low k h) at ((start_bits c s).0 e k h),
    λ f. (start_bits c s).1 (λ k h. rw (first_at c.latches F.low k h) (f k h)),
  )

  -- one start state, 0
  pub first_zero : (s : ℕ) → s < 2 ^ length c.latches → (meaning c).start s ≡ eqb s 0
  first_zero s h =
      test (eqb s 0)
      (λ e. rw (e, eqb-true s 0 e) ((first_start 0).1 (λ k l. bit_of_zero k)))
      (λ e. rw e (test ((meaning c).start s)
      (λ q. absurd (eqb-false s 0 e
      (bits_below (length c.latches) s 0 h (pow_pos (length c.latches)) (λ k l. (first_start s).0 q k l ∙ sym (bit_of_zero k)))))
      (λ q. q)))

  -- ---- steps and bad states
  -- nothing is asked of the values
  unasked : (a : ℕ → Bool) (b : Bool) → (b && constrained c a) ≡ b
  unfolding constrained every
  unasked a b = rw F.no_constraints (and-true b)

  pub first_step : (s t : ℕ) → (meaning c).step s t ≡ somewhere (2 ^ length c.inputs) (λ i. eqb t (next_state c (values c s i)))
  unfolding meaning
  first_step s t =
      somewhere_same (2 ^ length c.inputs)
      (λ i. eqb t (next_state c (values c s i)) && constrained c (values c s i)) (λ i. eqb t (next_state c (values c s i)))
      (λ i h. unasked (values c s i) (eqb t (next_state c (values c s i))))

  outputs_watched : watched c ≡ c.outputs
  unfolding watched
  outputs_watched = rw (F.no_bads, watched)

  -- "A state is bad if any output can be 1."
  pub first_bad : (s : ℕ) → (meaning c).bad s ≡ somewhere (2 ^ length c.inputs) (λ i. any (literal (values c s i)) c.outputs)
  unfolding meaning
  first_bad s =
      somewhere_same (2 ^ length c.inputs)
      (λ i. any (literal (values c s i)) (watched c) && constrained c (values c s i)) (λ i. any (literal (values c s i)) c.outputs)
      (λ i h. unasked (values c s i) (any (literal (values c s i)) (watched c)) ∙ ap (any (literal (values c s i))) outputs_watched)

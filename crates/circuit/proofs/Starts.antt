-- Start values: a start state has, bit by bit, what the latches say, and every circuit has one, the state with bit k at 1 where latch k starts at 1.
-- Constraints ask nothing of start states. Assumes nothing.
use Prim.Native.Nat.{ℕ, zero, suc, ◌+◌, ◌<◌}
use mathlib.Core.Path.{◌≡◌, refl, ◌∙◌}
use mathlib.Core.Logic.{◌↔◌}
use mathlib.Core.Bool.{Bool, true, false}
use mathlib.Core.List.{List, [], ◌∷◌, map}
use native.Mathlib.Nat.{zero-add}
use native.Mathlib.Omega.{arith}
use borrow.Author.Tests.{eqb-true, eqb-false, eq-eqb}
use lib.Dec.{eqb}
use lib.ListN.{length, get_or, length-map, get_or-map}
use Rattle.base.proofs.Tests.{both}
use Rattle.masks.specs.Bit.{bit}
use Rattle.masks.proofs.Bits.{bit_le}
use Rattle.ic3.specs.Demands.{HasStart}
use Rattle.circuit.specs.Circuit.{Circuit, Latch, First, low, high, either, first, starts, number, meaning}
use Rattle.circuit.proofs.Lists.{number_lt, number_bit}

-- the bit b is as a start value says
abbrev pub Fits : First → ℕ → Type 0
Fits low b = b ≡ 0
Fits high b = b ≡ 1
Fits either b = Unit {0}

-- the start values in file order; behind them nothing is said
abbrev pub firsts : List Latch → List First
firsts ls = map first ls

-- from bit k on, s is as these start values say
abbrev FitsFrom : ℕ → List First → ℕ → Type 0
FitsFrom k fs s = (j : ℕ) → j < length fs → Fits (get_or fs j either) (bit s (k + j))

-- what `starts` tests of a bit
abbrev fits : First → ℕ → Bool
fits f b = elim f as (λ z. Bool) [ low ↦ eqb b 0 | high ↦ eqb b 1 | either ↦ true ]

fits_right : (f : First) (b : ℕ) → (fits f b ≡ true) ↔ Fits f b
fits_right low b = (eqb-true b 0, eq-eqb b 0)
fits_right high b = (eqb-true b 1, eq-eqb b 1)
fits_right either b = (λ e. tt, λ e. refl)

fits_cons : (k : ℕ) (f : First) (fs : List First) (s : ℕ) → FitsFrom k (f ∷ fs) s ↔ (Fits f (bit s k) × FitsFrom (suc k) fs s)
fits_cons k f fs s = (
  λ g. (
    let q : k + 0 ≡ k = omega arith in rw q at (g 0 (omega arith)),
    λ j h. let q : suc k + j ≡ k + suc j = omega arith in rw q (g (suc j) (omega arith)),
  ),
  back,
)
  where
    back : Fits f (bit s k) × FitsFrom (suc k) fs s → FitsFrom k (f ∷ fs) s
    back p zero h = let q : k + 0 ≡ k = omega arith in rw q p.0
    back p (suc j) h = let q : suc k + j ≡ k + suc j = omega arith in rw (← q) (p.1 j (omega arith))

starts_fit : (k : ℕ) (ls : List Latch) (s : ℕ) → (starts k ls s ≡ true) ↔ FitsFrom k (firsts ls) s
unfolding starts
starts_fit k [] s = (λ e j h. absurd (omega arith), λ f. refl)
starts_fit k (l ∷ ls) s =
    let one = fits_right (first l) (bit s k) in
    let all = fits_cons k (first l) (firsts ls) s in (
      λ e. let p = both (fits (first l) (bit s k)) (starts (suc k) ls s) e in all.1 (one.0 p.0, (starts_fit (suc k) ls s).0 p.1),
      λ g. let p = all.0 g in rw (one.1 p.0, (starts_fit (suc k) ls s).1 p.1),
    )

abbrev is_high : First → Bool
is_high low = false
is_high high = true
is_high either = false

high_fits : (f : First) (x k : ℕ) → eqb (bit x k) 1 ≡ is_high f → Fits f (bit x k)
high_fits low x k e = omega (arith, eqb-false (bit x k) 1 e, bit_le x k)
high_fits high x k e = eqb-true (bit x k) 1 e
high_fits either x k e = tt

module _ (c : Circuit) where
  -- a start state is one whose bits are as the latches say
  pub start_bits : (s : ℕ)
      → ((meaning c).start s ≡ true) ↔ ((k : ℕ) → k < length c.latches → Fits (get_or (firsts c.latches) k either) (bit s k))
  unfolding meaning
  start_bits s =
      let r = starts_fit 0 c.latches s in
      let n : length (firsts c.latches) ≡ length c.latches = length-map c.latches first in (
        λ e k h. rw zero-add at (r.0 e k (omega (arith, n))),
        λ f. r.1 (λ j h. rw zero-add (f j (omega (arith, n)))),
      )

  abbrev bits : List Bool
  bits = map is_high (firsts c.latches)

  bits_length : length bits ≡ length c.latches
  bits_length = length-map (firsts c.latches) is_high ∙ length-map c.latches first

  -- every circuit has a start state
  pub has_start : HasStart (meaning c)
  unfolding meaning
  has_start =
      record {
        state = number bits;
        inside = rw (← bits_length) (number_lt bits);
        starts = (start_bits (number bits)).1 (λ k h.
            high_fits (get_or (firsts c.latches) k either) (number bits) k
            (number_bit bits k false (omega (arith, bits_length)) ∙ get_or-map is_high (firsts c.latches) k either));
      }

-- Systems as they were before there were wires: two masks a clause. What they meant and when they were refused, word for word, and the same system with no
-- wires.
use Rattle.std.specs.Prelude.{ℕ, ◌/◌, ◌%◌, ◌^◌, Bool, true, false, ◌&&◌, ◌||◌, List, [], ◌∷◌, eqb, ltb, length}
use Rattle.base.specs.Refusals.{◌if◌, ◌else◌, most_clauses}
use Rattle.ic3.specs.Model.{Model}
use Rattle.system.specs.System.{System, clause_true, pair}

-- A list is flat, two 64-bit masks a clause: bits wanted 1, then bits wanted 0.
pub record Plain : Type 0 where
  pub n : ℕ
  pub start : List ℕ
  pub step : List ℕ
  pub bad : List ℕ

-- A list is a conjunction of clauses. An empty list is true everywhere; a mask without its second says nothing.
unfoldable pub plain_true : List ℕ → ℕ → Bool
plain_true [] w = true
plain_true (ones ∷ []) w = true
plain_true (ones ∷ (zeros ∷ rest)) w = elim (clause_true ones zeros w) [ true ↦ plain_true rest w | false ↦ false ]

-- a state is a number below 2^n
unfoldable pub plain_model : Plain → Model
plain_model y =
    record {
      size = 2 ^ y.n;
      start = plain_true y.start;
      step = λ s t. plain_true y.step (pair s t);
      bad = plain_true y.bad;
    }

-- refusal 1: n is 0 or above 32
unfoldable pub plain_wrong_size : ℕ → Bool
plain_wrong_size n = eqb n 0 || ltb 32 n

-- refusal 2: a list with an odd count of masks, or over 4,096 clauses
unfoldable pub plain_wrong_count : List ℕ → Bool
plain_wrong_count l = eqb (length l % 2) 1 || ltb most_clauses (length l / 2)

abbrev pub plain_wrong_counts : List ℕ → List ℕ → List ℕ → Bool
plain_wrong_counts start step bad = plain_wrong_count start || (plain_wrong_count step || plain_wrong_count bad)

-- refusal 3: a clause uses a bit not below `low`, or a later bit not below `high`; start and bad use the low half only
unfoldable pub plain_wrong_bit : ℕ → ℕ → List ℕ → Bool
plain_wrong_bit low high [] = false
plain_wrong_bit low high (x ∷ xs) =
    elim (ltb (x % 2 ^ 32) (2 ^ low) && ltb (x / 2 ^ 32) (2 ^ high)) [ true ↦ plain_wrong_bit low high xs | false ↦ true ]

abbrev pub plain_wrong_bits : ℕ → List ℕ → List ℕ → List ℕ → Bool
plain_wrong_bits n start step bad = plain_wrong_bit n 0 start || (plain_wrong_bit n n step || plain_wrong_bit n 0 bad)

-- the refusals in their order, each tested over all three lists before the next; 0 if there is none
unfoldable pub plain_refusal : Plain → ℕ
plain_refusal y =
    1 if plain_wrong_size y.n
    else 2 if plain_wrong_counts y.start y.step y.bad
    else 3 if plain_wrong_bits y.n y.start y.step y.bad

-- ---- the same system with no wires: two zero masks behind each pair of masks
unfoldable pub widened_list : List ℕ → List ℕ
widened_list [] = []
widened_list (ones ∷ []) = ones ∷ []
widened_list (ones ∷ (zeros ∷ rest)) = ones ∷ (zeros ∷ (0 ∷ (0 ∷ widened_list rest)))

unfoldable pub widened : Plain → System
widened y = record { n = y.n; w = 0; start = widened_list y.start; step = widened_list y.step; bad = widened_list y.bad }

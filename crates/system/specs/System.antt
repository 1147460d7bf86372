-- Systems of the scope: what they are, what they mean, and refusals 1 to 3.
use Rattle.std.specs.Prelude.{ℕ, zero, suc, ◌+◌, ◌*◌, ◌/◌, ◌%◌, ◌^◌, Bool, true, false, not, ◌||◌, List, [], ◌∷◌, eqb, ltb, leb, length}
use Rattle.base.specs.Refusals.{◌if◌, ◌else◌, most_clauses}
use Rattle.masks.specs.Bit.{bit, somewhere}
use Rattle.ic3.specs.Model.{Model}

-- A system has n state bits and w wires; three lists describe it: start (I), step (T) and bad (B). A list is flat, four 64-bit masks a clause: bits
-- wanted 1, bits wanted 0, wires wanted 1, wires wanted 0.
pub record System : Type 0 where
  pub n : ℕ
  pub w : ℕ
  pub start : List ℕ
  pub step : List ℕ
  pub bad : List ℕ

abbrev pub system_of : ℕ → ℕ → List ℕ → List ℕ → List ℕ → System
system_of n w start step bad = record { n = n; w = w; start = start; step = step; bad = bad }

-- the literals of two masks at position i: one of them is true of the word w
unfoldable pub literal_true : ℕ → ℕ → ℕ → ℕ → Bool
literal_true ones zeros w i = elim (bit w i) [ zero ↦ eqb (bit zeros i) 1 | suc b ↦ eqb (bit ones i) 1 ]

-- Two masks are a disjunction of literals. With a bit in both masks it is always true, with both masks zero it is false.
unfoldable pub clause_true : ℕ → ℕ → ℕ → Bool
clause_true ones zeros w = somewhere 64 (literal_true ones zeros w)

-- A clause is two masks for the pair s or two masks for the wires x.
unfoldable pub four_true : ℕ → ℕ → ℕ → ℕ → ℕ → ℕ → Bool
four_true ones zeros wire_ones wire_zeros s x = clause_true ones zeros s || clause_true wire_ones wire_zeros x

-- A list is a conjunction of clauses. An empty list is true everywhere; fewer than four masks at its end say nothing.
unfoldable pub list_true : List ℕ → ℕ → ℕ → Bool
list_true [] s x = true
list_true (a ∷ []) s x = true
list_true (a ∷ (b ∷ [])) s x = true
list_true (a ∷ (b ∷ (c ∷ []))) s x = true
list_true (a ∷ (b ∷ (c ∷ (d ∷ rest)))) s x = elim (four_true a b c d s x) [ true ↦ list_true rest s x | false ↦ false ]

-- some setting of w wires makes the list true of the pair s
unfoldable pub some_true : ℕ → List ℕ → ℕ → Bool
some_true w l s = somewhere (2 ^ w) (list_true l s)

-- positions 0 to 31 are the state's bits, 32 to 63 the same bits one step later
unfoldable pub pair : ℕ → ℕ → ℕ
pair s t = s + 2 ^ 32 * t

-- A state is a number below 2^n. A step exists if some setting of the wires makes T true, a state is bad if some setting makes B true. I has no wires.
unfoldable pub model : System → Model
model y =
    record {
      size = 2 ^ y.n;
      start = λ s. list_true y.start s 0;
      step = λ s t. some_true y.w y.step (pair s t);
      bad = some_true y.w y.bad;
    }

-- refusal 1: n is 0 or above 32, or w is above 64
unfoldable pub wrong_size : ℕ → ℕ → Bool
wrong_size n w = eqb n 0 || (ltb 32 n || ltb 64 w)

-- refusal 2: a list with a count of masks that is no multiple of four, or over 4,096 clauses
unfoldable pub wrong_count : List ℕ → Bool
wrong_count l = not (eqb (length l % 4) 0) || ltb most_clauses (length l / 4)

abbrev pub wrong_counts : List ℕ → List ℕ → List ℕ → Bool
wrong_counts start step bad = wrong_count start || (wrong_count step || wrong_count bad)

-- refusal 3: a clause uses a bit not below `low`, a later bit not below `high`, or a wire not below `wires`
unfoldable pub wrong_mask : ℕ → ℕ → ℕ → Bool
wrong_mask low high x = leb (2 ^ low) (x % 2 ^ 32) || leb (2 ^ high) (x / 2 ^ 32)

unfoldable pub wrong_clause : ℕ → ℕ → ℕ → ℕ → ℕ → ℕ → ℕ → Bool
wrong_clause low high wires a b c d = wrong_mask low high a || (wrong_mask low high b || (leb (2 ^ wires) c || leb (2 ^ wires) d))

unfoldable pub wrong_bit : ℕ → ℕ → ℕ → List ℕ → Bool
wrong_bit low high wires [] = false
wrong_bit low high wires (a ∷ []) = false
wrong_bit low high wires (a ∷ (b ∷ [])) = false
wrong_bit low high wires (a ∷ (b ∷ (c ∷ []))) = false
wrong_bit low high wires (a ∷ (b ∷ (c ∷ (d ∷ rest)))) =
    elim (wrong_clause low high wires a b c d) [ true ↦ true | false ↦ wrong_bit low high wires rest ]

-- start uses no later bit and no wire, bad no later bit
abbrev pub wrong_bits : ℕ → ℕ → List ℕ → List ℕ → List ℕ → Bool
wrong_bits n w start step bad = wrong_bit n 0 0 start || (wrong_bit n n w step || wrong_bit n 0 w bad)

-- the refusals in their order, each tested over all three lists before the next; 0 if there is none
unfoldable pub refusal_of : System → ℕ
refusal_of y =
    1 if wrong_size y.n y.w
    else 2 if wrong_counts y.start y.step y.bad
    else 3 if wrong_bits y.n y.w y.start y.step y.bad

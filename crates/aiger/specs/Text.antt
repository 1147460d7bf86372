-- AIGER, ASCII: what a text says. The header `aag M I L O A`, then I lines of inputs, L of latches, O of outputs and A of gates. In the newer edition up
-- to four more counts, B C J F, of which any tail may be absent; a latch line may end with a start value; and behind the outputs stand B bad-state
-- lines and C constraints. What stands behind the last gate is not read.
use Rattle.std.specs.Prelude.{ℕ, zero, suc, ◌+◌, ◌*◌, ◌/◌, ◌%◌, Bool, true, false, not, ◌&&◌, ◌||◌, List, [], ◌∷◌, ◌++◌, eqb, leb, length, get_or, take, drop}
use Rattle.std.proofs.Math.Option.{Option, none, some}
use Rattle.text.specs.Lines.{lines}
use Rattle.circuit.specs.Circuit.{Circuit, Latch, Gate, every}
use Rattle.aiger.specs.Numbers.{numbers}
use Rattle.aiger.specs.declared.part.Form.{Form}
use Rattle.aiger.specs.declared.read.Header.{Header}

-- ---- the editions: whether it is the newer one
abbrev pub first_edition : Bool
first_edition = false

abbrev pub newer_edition : Bool
newer_edition = true

-- ---- a line behind the header
-- a literal that defines a variable is even and not 0
unfoldable pub defining : ℕ → Bool
defining l = eqb (l % 2) 0 && not (eqb l 0)

-- how many literals it has, whether a start value, any number, may stand behind them, whether the first defines a variable, and the largest literal,
-- 2M + 1
unfoldable pub fits : Form → List ℕ → Bool
fits f xs =
    (eqb (length xs) f.width || (f.starts && eqb (length xs) (f.width + 1)))
    && ((not f.defines || defining (get_or xs 0 0)) && every (λ x. leb x f.most) (take f.width xs))

-- three numbers of every line, 0 where it has fewer
abbrev pub three : List ℕ → List ℕ
three xs = get_or xs 0 0 ∷ (get_or xs 1 0 ∷ (get_or xs 2 0 ∷ []))

unfoldable pub row_of : Form → List ℕ → Option (List ℕ)
row_of f line = elim (numbers line) [ none ↦ none | some xs ↦ elim (fits f xs) [ true ↦ some (three xs) | false ↦ none ] ]

-- ---- so many lines of one form, from line k on: their rows one after the other, and what follows them; or the first line that is missing or wrong
pub data Part : Type 0 where
  broken : ℕ → Part
  whole : List ℕ → ℕ → List (List ℕ) → Part

unfoldable pub with_row : List ℕ → Part → Part
with_row row (broken k) = broken k
with_row row (whole rows k ls) = whole (row ++ rows) k ls

unfoldable pub part : Form → ℕ → ℕ → List (List ℕ) → Part
part f zero k ls = whole [] k ls
part f (suc n) k [] = broken k
part f (suc n) k (l ∷ ls) = elim (row_of f l) [ none ↦ broken k | some row ↦ with_row row (part f n (suc k) ls) ]

-- ---- what the rows say: of a latch its literal, the next one and the start value, of a gate its literal and two more
unfoldable pub threes : {A : Type 0} → (ℕ → ℕ → ℕ → A) → List ℕ → List A
threes f [] = []
threes f (a ∷ []) = []
threes f (a ∷ (b ∷ [])) = []
threes f (a ∷ (b ∷ (c ∷ rows))) = f a b c ∷ threes f rows

abbrev pub firsts : List ℕ → List ℕ
firsts rows = threes (λ a b c. a) rows

abbrev pub vars : List ℕ → List ℕ
vars rows = threes (λ a b c. a / 2) rows

abbrev pub latches_of : List ℕ → List Latch
latches_of rows = threes (λ a b c. record { var = a / 2; next = b; start = c }) rows

abbrev pub gates_of : List ℕ → List Gate
gates_of rows = threes (λ a b c. record { out = a / 2; left = b; right = c }) rows

-- lines of one literal: outputs, bad-state lines, constraints, one behind the other
unfoldable pub circuit_of : Header → List ℕ → List ℕ → List ℕ → List ℕ → Circuit
circuit_of h inputs latches singles gates =
    record {
      inputs = vars inputs;
      latches = latches_of latches;
      gates = gates_of gates;
      outputs = take h.outputs (firsts singles);
      bads = take h.bads (drop h.outputs (firsts singles));
      constraints = drop (h.outputs + h.bads) (firsts singles);
    }

-- ---- the header
unfoldable pub begins : List ℕ → List ℕ → Bool
begins [] l = true
begins (x ∷ xs) [] = false
begins (x ∷ xs) (y ∷ ys) = eqb x y && begins xs ys

-- `aag` and a blank
abbrev pub magic : List ℕ
magic = 97 ∷ (97 ∷ (103 ∷ (32 ∷ [])))

-- five counts, in the newer edition up to nine
unfoldable pub most_counts : Bool → ℕ
most_counts newer = elim newer [ true ↦ 9 | false ↦ 5 ]

-- a count that is absent is 0
abbrev pub header_by : Bool → List ℕ → Header
header_by newer xs =
    record {
      newer = newer;
      m = get_or xs 0 0;
      inputs = get_or xs 1 0;
      latches = get_or xs 2 0;
      outputs = get_or xs 3 0;
      gates = get_or xs 4 0;
      bads = get_or xs 5 0;
      constraints = get_or xs 6 0;
      justice = get_or xs 7 0;
      fairness = get_or xs 8 0;
    }

unfoldable pub header_from : Bool → List ℕ → Option Header
header_from newer xs = elim (leb 5 (length xs) && leb (length xs) (most_counts newer)) [ true ↦ some (header_by newer xs) | false ↦ none ]

unfoldable pub header_of : Bool → List ℕ → Option Header
header_of newer line =
    elim (begins magic line) [ true ↦ elim (numbers (drop 4 line)) [ none ↦ none | some xs ↦ header_from newer xs ] | false ↦ none ]

-- ---- what a text says: M and a circuit, or what is wrong with its form, as the refusal and its line: 20 with the first line that is missing or wrong,
-- or 27
pub data Told : Type 0 where
  malformed : ℕ → ℕ → Told
  told : ℕ → Circuit → Told

unfoldable pub behind : Part → (List ℕ → ℕ → List (List ℕ) → Told) → Told
behind (broken k) next = malformed 20 k
behind (whole rows k ls) next = next rows k ls

-- a line of so many literals, the first of which defines; one of a latch; and one of a literal
abbrev pub defines : Header → ℕ → Form
defines h width = record { width = width; starts = false; defines = true; most = 2 * h.m + 1 }

abbrev pub latch_form : Header → Form
latch_form h = record { width = 2; starts = h.newer; defines = true; most = 2 * h.m + 1 }

abbrev pub uses : Header → Form
uses h = record { width = 1; starts = false; defines = false; most = 2 * h.m + 1 }

-- how many lines of one literal there are
abbrev pub singles_of : Header → ℕ
singles_of h = h.outputs + h.bads + h.constraints

unfoldable pub parts_of : Header → List (List ℕ) → Told
parts_of h ls =
    behind (part (defines h 1) h.inputs 2 ls) (λ inputs k ls.
    behind (part (latch_form h) h.latches k ls) (λ latches k ls.
    behind (part (uses h) (singles_of h) k ls) (λ singles k ls.
    behind (part (defines h 3) h.gates k ls) (λ gates k ls. told h.m (circuit_of h inputs latches singles gates)))))

-- 27: a count of justice or fairness that is not 0, before all other lines
unfoldable pub asks_justice : Header → Bool
asks_justice h = not (eqb h.justice 0 && eqb h.fairness 0)

unfoldable pub behind_header : Header → List (List ℕ) → Told
behind_header h ls = elim (asks_justice h) [ true ↦ malformed 27 1 | false ↦ parts_of h ls ]

unfoldable pub lines_tell : Bool → List (List ℕ) → Told
lines_tell newer [] = malformed 20 1
lines_tell newer (l ∷ ls) = elim (header_of newer l) [ none ↦ malformed 20 1 | some h ↦ behind_header h ls ]

-- THE READING
unfoldable pub tells : Bool → List ℕ → Told
tells newer text = lines_tell newer (lines text)

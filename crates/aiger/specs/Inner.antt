-- What the private functions require and ensure, with a name for each fact. Nothing here has to be believed: no public promise mentions it.
use Rattle.std.specs.Prelude.{ℕ, ◌+◌, ◌-◌, ◌*◌, ◌/◌, ◌^◌, ◌≤◌, ◌<◌, Bool, true, false, not, ◌||◌, ◌&&◌, List, [], ◌∷◌, ◌++◌, ◌≡◌, eqb, ltb, leb, length, take, drop, replicate, Option, Some, None, Result, Ok, Err}
use Rattle.std.proofs.Math.Option.{none, some}
use Rattle.base.specs.Refusals.{◌if◌, ◌else◌, most_clauses}
use Rattle.base.specs.Numbers.{number_of}
use Rattle.base.specs.declared.Fault.{Fault}
use Rattle.base.specs.declared.Refusal.{Refusal}
use Rattle.base.specs.declared.Refusal.TheVariants as refusal
use Rattle.stores.specs.Lists.{Lists}
use Rattle.stores.specs.Over.{over}
use Rattle.text.specs.Lines.{lines, line_length}
use Rattle.text.specs.Writing.{laid, Writes}
use Rattle.ic3.specs.Demands.{listed, Distinct}
use Rattle.system.specs.declared.Clause.{Clause}
use Rattle.circuit.specs.Circuit.{Circuit, Latch, Gate, every, any, index}
use Rattle.circuit.specs.Loops.{loop_free}
use Rattle.circuit.specs.Refusals.{twice, wrong_start, right_starts}
use Rattle.circuit.specs.Import.{Place, imported, here, wire, nowhere, empty, marks, start_clauses, latch_clauses, gate_clauses, constraint_clauses, flat, import_refusal}
use Rattle.aiger.specs.Numbers.{numbers}
use Rattle.aiger.specs.Text.{three, row_of, Part, broken, whole, part, firsts, vars, latches_of, gates_of, circuit_of, header_of}
use Rattle.aiger.specs.Text.{latch_form, uses, singles_of, Told, malformed, told}
use Rattle.aiger.specs.Promise as promise
use Rattle.aiger.specs.Promise.{report_of, entered}
use Rattle.aiger.specs.declared.Imported.{Imported}
use Rattle.aiger.specs.declared.part.Form.{Form}
use Rattle.aiger.specs.declared.table.Rows.{Rows}
use Rattle.aiger.specs.declared.table.Row.{Row}
use Rattle.aiger.specs.declared.table.Singles.{Singles}
use Rattle.aiger.specs.declared.part.Line.{Line}
use Rattle.aiger.specs.declared.part.Lines.{Lines}
use Rattle.aiger.specs.declared.read.Edition.{Edition}
use Rattle.aiger.specs.declared.read.Edition.TheVariants.{First, Newer}
use Rattle.aiger.specs.declared.read.Header.{Header}
use Rattle.aiger.specs.declared.read.Reading.{Reading}
use Rattle.aiger.specs.declared.again.Watched.{Watched}
use Rattle.aiger.specs.declared.again.Seen.{Seen}

-- ---- numbers
-- a line's numbers, r of them, lie in front of the store
pub record Found (line before : List ℕ) (r : ℕ) (after : List ℕ) : Type 0 where
  pub xs : List ℕ
  pub says : numbers line ≡ some xs
  pub count : length xs ≡ r
  pub fits : r ≤ length before
  pub content : after ≡ laid 0 xs before

pub record Numbered (line before : List ℕ) (r : Option ℕ) (after : List ℕ) : Type 0 where
  pub same : length after ≡ length before
  pub found : (count : ℕ) → r ≡ Some count → Found line before count after
  pub lacks : r ≡ None → (xs : List ℕ) → numbers line ≡ some xs → length before < length xs

-- ---- lines
abbrev pub row_list : Row → List ℕ
row_list row = row.literal ∷ (row.second ∷ (row.third ∷ []))

abbrev pub no_row : Row
no_row = record { literal = 0; second = 0; third = 0 }

-- rows one behind the other
abbrev pub flattened : List Row → List ℕ
flattened [] = []
flattened (row ∷ rows) = row.literal ∷ (row.second ∷ (row.third ∷ flattened rows))

-- a row at this index, as far as the store reaches
pub record PutsRow (at : ℕ) (row : Row) (before after : List Row) : Type 0 where
  pub same : length after ≡ length before
  pub content : flattened after ≡ laid (3 * at) (row_list row) (flattened before)

-- the line that begins at this index
pub record ReadsLine (text : List ℕ) (at : ℕ) (line : Line) : Type 0 where
  pub within : line.end ≤ length text
  pub ends : line.end ≡ at + line_length (drop at text)
  pub found : List ℕ
  pub row : row_list line.row ≡ three found
  pub numbered : Numbered (take (line.end - at) (drop at text)) (replicate 3 0) line.count found

-- a line has one to three literals, and a start value only where it has fewer
pub record Fine (form : Form) : Type 0 where
  pub some_number : 1 ≤ form.width
  pub width : form.width ≤ 3
  pub start : form.starts ≡ true → form.width ≤ 2

unfoldable pub count_fits : Form → ℕ → Bool
count_fits f count = eqb count f.width || (f.starts && eqb count (f.width + 1))

-- a line that was read has a row of the form, or none
pub record TakesLine (form : Form) (line : Line) (r : Bool) : Type 0 where
  pub right : r ≡ true → (bytes found : List ℕ) → row_list line.row ≡ three found → Numbered bytes (replicate 3 0) line.count found
      → row_of form bytes ≡ some (row_list line.row)
  pub wrong : r ≡ false → (bytes found : List ℕ) → row_list line.row ≡ three found → Numbered bytes (replicate 3 0) line.count found
      → row_of form bytes ≡ none

-- ---- parts
-- no sum is too large
pub record Begins (text : List ℕ) (from : ℕ) (l : Lines) : Type 0 where
  pub fine : Fine l.form
  pub within : from ≤ length text
  pub rows : l.row + l.count < 2 ^ 62
  pub lines : l.first + l.count < 2 ^ 62

abbrev pub part_from : List ℕ → Lines → ℕ → Part
part_from text l from = part l.form l.count l.first (lines (drop from text))

-- all were read: their rows, where they were written, and where the next part begins
pub record Read (text : List ℕ) (l : Lines) (from : ℕ) (before : List Row) (end : ℕ) (after : List Row) : Type 0 where
  pub rows : List ℕ
  pub says : part_from text l from ≡ whole rows (l.first + l.count) (lines (drop end text))
  pub content : flattened after ≡ laid (3 * l.row) rows (flattened before)
  pub within : end ≤ length text

pub record Takes (text : List ℕ) (l : Lines) (from : ℕ) (before : List Row) (r : Result ℕ Fault) (after : List Row) : Type 0 where
  pub same : length after ≡ length before
  pub wrong : (f : Fault) → r ≡ Err f → (f.refusal ≡ refusal.Form) × (part_from text l from ≡ broken f.line)
  pub right : (end : ℕ) → r ≡ Ok end → Read text l from before end after

-- ---- the text
abbrev pub newer_in : Edition → Bool
newer_in First = false
newer_in Newer = true

pub record Small (h : Header) : Type 0 where
  pub m : h.m < 2 ^ 32
  pub inputs : h.inputs < 2 ^ 32
  pub latches : h.latches < 2 ^ 32
  pub outputs : h.outputs < 2 ^ 32
  pub gates : h.gates < 2 ^ 32
  pub bads : h.bads < 2 ^ 32
  pub constraints : h.constraints < 2 ^ 32

abbrev pub HeadOf : Bool → List ℕ → Option Header → Type 0
HeadOf newer line (Some h) = (header_of newer line ≡ some h) × Small h
HeadOf newer line None = header_of newer line ≡ none

-- a line that is missing or wrong
abbrev pub wrong_form : ℕ → Fault
wrong_form line = record { refusal = refusal.Form; line = line }

-- the most rows
abbrev pub most_rows : ℕ
most_rows = 96

-- the latches of these rows start at 0
abbrev pub Low : List ℕ → Type 0
Low latches = every (λ (l : Latch). eqb l.start 0) (latches_of latches) ≡ true

-- so many lines of one form are read again from their place: their rows, and what stands behind them
pub record Again (text : List ℕ) (form : Form) (at count : ℕ) (rows : List ℕ) (others : List (List ℕ)) : Type 0 where
  pub within : at ≤ length text
  pub from : ℕ
  pub line : ℕ
  pub says : part form count from (lines (drop at text)) ≡ whole rows line others

abbrev pub ReadAgain : List ℕ → Form → ℕ → ℕ → List ℕ → Type 0
ReadAgain text form at count rows = (others : List (List ℕ)) × Again text form at count rows others

-- the rows of the parts: how many there are, and which are read again
pub record Counted (text : List ℕ) (r : Reading) (inputs latches singles gates : List ℕ) : Type 0 where
  pub small : Small r.header
  pub many_inputs : length inputs ≡ 3 * r.header.inputs
  pub many_latches : length latches ≡ 3 * r.header.latches
  pub many_singles : length singles ≡ 3 * singles_of r.header
  pub many_gates : length gates ≡ 3 * r.header.gates
  pub latches_again : ReadAgain text (latch_form r.header) r.latches r.header.latches latches
  pub singles_again : ReadAgain text (uses r.header) r.singles (singles_of r.header) singles

-- the form is right: what was read, and where it was written
pub record Kept (text : List ℕ) (what : Told) (before : List ℕ) (r : Reading) (after : List ℕ) : Type 0 where
  pub inputs : List ℕ
  pub latches : List ℕ
  pub singles : List ℕ
  pub gates : List ℕ
  pub says : what ≡ told r.header.m (circuit_of r.header inputs latches singles gates)
  pub counted : Counted text r inputs latches singles gates
  pub content :
      after ≡ laid (3 * r.header.latches + 3 * r.header.inputs) gates (laid 0 latches (laid (3 * r.header.latches) inputs before))

pub record ReadAs (text : List ℕ) (what : Told) (before : List Row) (r : Result Reading Fault) (after : List Row) : Type 0 where
  pub same : length after ≡ length before
  pub wrong : (f : Fault) → r ≡ Err f → what ≡ malformed (number_of f.refusal) f.line
  pub right : (q : Reading) → r ≡ Ok q → Kept text what (flattened before) q (flattened after)

-- ---- variables
-- whether a row is a variable's
abbrev pub has_var : ℕ → Row → Bool
has_var v row = eqb (row.literal / 2) v

unfoldable pub known_in : List ℕ → ℕ → Bool
known_in vs l = eqb (l / 2) 0 || listed vs (l / 2)

-- the second and third number of each row are known
abbrev pub all_known : List ℕ → List ℕ → Bool
all_known vs rows = every (λ (g : Gate). known_in vs g.left && known_in vs g.right) (gates_of rows)

abbrev pub line_known : List ℕ → Row → Bool
line_known vs row = known_in vs row.second && known_in vs row.third

-- where no variable is defined twice, the test for refusal 25
abbrev pub LoopFree : List ℕ → Bool → Type 0
LoopFree gates r = Distinct (vars gates) → r ≡ loop_free (gates_of gates)

-- ---- clauses
-- the place of the row with index k, where the first rows are latches
unfoldable pub place_at : ℕ → ℕ → Place
place_at latches k = elim (ltb k latches) [ true ↦ here k | false ↦ wire (k - latches) ]

abbrev pub starting_at : ℕ → Latch
starting_at start = record { var = 0; next = 0; start = start }

abbrev pub latch_of : ℕ → Latch
latch_of next = record { var = 0; next = next; start = 0 }

abbrev pub gate_of : ℕ → ℕ → ℕ → Gate
gate_of out left right = record { out = out / 2; left = left; right = right }

-- where a variable stands, by its row
unfoldable pub place_in : List ℕ → ℕ → ℕ → Place
place_in vs latches v = elim (listed vs v) [ true ↦ place_at latches (index vs v) | false ↦ nowhere ]

abbrev pub place_by : List ℕ → ℕ → ℕ → Place
place_by rows latches = place_in (vars rows) latches

abbrev pub placed : Rows → ℕ → Place
placed rows = place_by (flattened rows.all.now) rows.latch_count

-- the numbers of latches and of gates
abbrev pub latch_rows : Rows → List ℕ
latch_rows rows = flattened (take rows.latch_count rows.all.now)

abbrev pub gate_rows : Rows → List ℕ
gate_rows rows = flattened (drop rows.first_gate rows.all.now)

-- whether a latch's start value is not "either"
abbrev pub is_fixed : Row → Bool
is_fixed row = leb row.third 1

-- the three lists, by rows
unfoldable pub start_list : List ℕ → List ℕ
start_list latches = flat (start_clauses 0 (latches_of latches))

unfoldable pub step_list : List ℕ → List ℕ → List ℕ → List ℕ → List ℕ
step_list rows latches gates constraints =
    (flat (latch_clauses (place_by rows (length latches / 3)) 0 (latches_of latches))
    ++ flat (gate_clauses (place_by rows (length latches / 3)) (gates_of gates)))
    ++ flat (constraint_clauses (place_by rows (length latches / 3)) constraints)

unfoldable pub bad_list : List ℕ → ℕ → List ℕ → List ℕ → Clause → List ℕ
bad_list rows latches gates constraints watched =
    (flat (watched ∷ []) ++ flat (gate_clauses (place_by rows latches) (gates_of gates))) ++ flat (constraint_clauses (place_by rows latches) constraints)

-- a list in front of its store, if there is room for it, and zeros behind it
pub record Entered (list before : List ℕ) (r : ℕ) (after : List ℕ) : Type 0 where
  pub end : r ≡ length list
  pub content : length list ≤ length before → after ≡ over list before

-- ---- lines read again
-- what is said of rows of latches, and of literals that stand alone, wherever they can be read
pub record RightStarts (text : List ℕ) (at count : ℕ) (r : Option ℕ) : Type 0 where
  pub few : (k : ℕ) → r ≡ Some k → k < count
  pub right : r ≡ None → (h : Header) (latches : List ℕ) → ReadAgain text (latch_form h) at count latches
      → any wrong_start (latches_of latches) ≡ false
  pub wrong : (k : ℕ) → r ≡ Some k → (h : Header) (latches : List ℕ) → ReadAgain text (latch_form h) at count latches
      → (any wrong_start (latches_of latches) ≡ true) × (k ≡ right_starts (latches_of latches))

pub record Watches (text : List ℕ) (at count : ℕ) (rows : List ℕ) (latches : ℕ) (r : Option Watched) : Type 0 where
  pub within : (q : Watched) → r ≡ Some q → q.at ≤ length text
  pub unknown : r ≡ None → (h : Header) (singles : List ℕ) (others : List (List ℕ)) → Again text (uses h) at count singles others
      → every (known_in (vars rows)) (firsts singles) ≡ false
  pub says : (q : Watched) → r ≡ Some q → (h : Header) (singles : List ℕ) (others : List (List ℕ))
      → Again text (uses h) at count singles others
      → (every (known_in (vars rows)) (firsts singles) ≡ true)
      × (q.clause ≡ marks (place_by rows latches) empty (firsts singles))
      × (others ≡ lines (drop q.at text))

-- the literals of which one is to be 1, and the constraints
unfoldable pub watched_of : Header → List ℕ → List ℕ
watched_of h literals = elim (eqb h.bads 0) [ true ↦ take h.outputs literals | false ↦ take h.bads (drop h.outputs literals) ]

abbrev pub constraints_of : Header → List ℕ → List ℕ
constraints_of h literals = drop (h.outputs + h.bads) literals

-- these constraints are read again
pub record Constraints (text : List ℕ) (at count : ℕ) (literals : List ℕ) : Type 0 where
  pub header : Header
  pub rows : List ℕ
  pub again : ReadAgain text (uses header) at count rows
  pub literals_are : literals ≡ firsts rows

pub record Sees (text : List ℕ) (h : Header) (at : ℕ) (rows : List ℕ) (latches : ℕ) (r : Option Seen) : Type 0 where
  pub within : (q : Seen) → r ≡ Some q → q.constraints ≤ length text
  pub unknown : r ≡ None → (singles : List ℕ) → ReadAgain text (uses h) at (singles_of h) singles
      → every (known_in (vars rows)) (firsts singles) ≡ false
  pub says : (q : Seen) → r ≡ Some q → (singles : List ℕ) → ReadAgain text (uses h) at (singles_of h) singles
      → (every (known_in (vars rows)) (firsts singles) ≡ true)
      × (q.watched ≡ marks (place_by rows latches) empty (watched_of h (firsts singles)))
      × Constraints text q.constraints h.constraints (constraints_of h (firsts singles))

pub record PutsConstraints (c : Singles) (place : ℕ → Place) (from : ℕ) (before : List ℕ) (r : ℕ) (after : List ℕ) : Type 0 where
  pub same : length after ≡ length before
  pub says : (literals : List ℕ) → Constraints c.text.now c.at c.count literals → Writes from (flat (constraint_clauses place literals)) before r after

-- lists that are entered with these constraints
abbrev pub EntersStep : Singles → List ℕ → List ℕ → List ℕ → List ℕ → ℕ → List ℕ → Type 0
EntersStep c rows latches gates before r after =
    (literals : List ℕ) → Constraints c.text.now c.at c.count literals → Entered (step_list rows latches gates literals) before r after

abbrev pub EntersBad : Singles → List ℕ → ℕ → List ℕ → Clause → List ℕ → ℕ → List ℕ → Type 0
EntersBad c rows latches gates watched before r after =
    (literals : List ℕ) → Constraints c.text.now c.at c.count literals → Entered (bad_list rows latches gates literals watched) before r after

-- ---- the refusals in their order
unfoldable pub too_few : Header → Bool
too_few h = ltb h.m (h.inputs + h.latches + h.gates)

unfoldable pub header_refusal : Header → ℕ
header_refusal h = 22 if eqb h.latches 0 || ltb 32 h.latches else 23 if ltb 64 (h.inputs + h.gates)

-- a header that is not refused
pub record Limits (h : Header) : Type 0 where
  pub latches : h.latches ≤ 32
  pub wires : h.inputs + h.gates ≤ 64

pub record Sized (h : Header) (rows : List Row) : Type 0 where
  pub limits : Limits h
  pub many : length rows ≡ h.latches + h.inputs + h.gates

-- the rows of a header's circuit
pub record OfHeader (h : Header) (rows : Rows) : Type 0 where
  pub latches : rows.latch_count ≡ h.latches
  pub gates : rows.first_gate ≡ h.latches + h.inputs
  pub many : length rows.all.now ≡ h.latches + h.inputs + h.gates

-- what is judged: the rows of latches, inputs and gates, and the literals that stand alone
pub record Held (text : List ℕ) (r : Reading) (rows : List Row) : Type 0 where
  pub inputs : List ℕ
  pub latches : List ℕ
  pub singles : List ℕ
  pub gates : List ℕ
  pub counted : Counted text r inputs latches singles gates
  pub content : flattened rows ≡ latches ++ (inputs ++ gates)
  pub enough : too_few r.header ≡ false
  pub right : any wrong_start (latches_of latches) ≡ false
  pub header : header_refusal r.header ≡ 0

abbrev pub circuit_in : {text : List ℕ} {r : Reading} {rows : List Row} → Held text r rows → Circuit
circuit_in {r = r} h = circuit_of r.header h.inputs h.latches h.singles h.gates

unfoldable pub wrong_rows : List ℕ → ℕ → ℕ → Bool
wrong_rows rows latches gates =
    twice (vars rows)
    || (not (all_known (vars rows) (take (3 * latches) rows)) || not (all_known (vars rows) (drop (3 * gates) rows)))

-- the clauses that step and bad share
abbrev pub shared_count : Header → ℕ
shared_count h = 3 * h.gates + h.constraints

unfoldable pub short : Header → ℕ → ℕ → ℕ → ℕ → Bool
short h first start step bad = ltb start first || (ltb step (4 * (2 * h.latches + shared_count h)) || ltb bad (4 * (1 + shared_count h)))

unfoldable pub last_refusal : Header → List ℕ → ℕ → ℕ → ℕ → ℕ
last_refusal h latches start step bad =
    26 if eqb h.outputs 0 && eqb h.bads 0
    else 32 if short h (length (start_list latches)) start step bad
    else 2 if ltb most_clauses (2 * h.latches + shared_count h)

-- the lists are entered, if each store has room
pub record Enters (c : Singles) (rows : List ℕ) (h : Header) (watched : Clause) (lent : Lists) (r : Imported) (after : Lists) : Type 0 where
  pub sizes : (r.n ≡ h.latches) × (r.w ≡ h.inputs + h.gates)
  pub start : Entered (start_list (take (3 * h.latches) rows)) lent.start r.start after.start
  pub step :
      EntersStep c rows (take (3 * h.latches) rows) (drop (3 * (h.latches + h.inputs)) rows) lent.step r.step after.step
  pub bad : EntersBad c rows h.latches (drop (3 * (h.latches + h.inputs)) rows) watched lent.bad r.bad after.bad

-- the line of a refusal that a start value is not the reason of: the header's, or none
abbrev pub header_line : Refusal → ℕ
header_line refusal.TooFew = 1
header_line refusal.Latches = 1
header_line refusal.Wires = 1
header_line refusal.Watched = 1
header_line _ = 0

pub record FaultOf (r : Refusal) (f : Fault) : Type 0 where
  pub refusal : f.refusal ≡ r
  pub line : f.line ≡ header_line r

-- a circuit with this refusal, or 0, is entered or refused
abbrev pub Judged : Lists → Circuit → ℕ → Result Imported Refusal → Lists → Type 0
Judged lent c number (Ok i) after =
    (number ≡ 0) × ◌≡◌ {A = promise.Result} (record { import = report_of (Ok i); after = after }) (entered (imported c) lent)
Judged lent c number (Err r) after = (number ≡ number_of r) × (number_of r ≡ 28 → ⊥) × (after ≡ lent)

-- what was held is judged
abbrev pub Judges : List ℕ → Reading → List Row → Lists → Result Imported Refusal → Lists → Type 0
Judges text r rows lent result after =
    (h : Held text r rows)
    → Judged lent (circuit_in h) (import_refusal r.header.m (circuit_in h) (length lent.start) (length lent.step) (length lent.bad)) result after

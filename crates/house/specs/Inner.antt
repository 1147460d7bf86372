-- What the private functions require and ensure, with a name for each fact. What was read stands in the code's record and the three lent stores:
-- each list is the front of its store. Nothing here has to be believed: no public promise mentions it.
use Rattle.std.specs.Prelude.{Result, Ok, Err, ℕ, ◌+◌, ◌≤◌, Bool, true, false, ◌&&◌, List, ◌++◌, ◌≡◌, ltb, leb, length, take, drop}
use Rattle.base.specs.Refusals.{most_clause_lines}
use Rattle.stores.specs.Lies.{Lies}
use Rattle.text.specs.Lines.{lines}
use Rattle.base.specs.Numbers.{number_of}
use Rattle.base.specs.declared.Refusal.{Refusal}
use Rattle.base.specs.declared.Refusal.TheVariants.{Room}
use Rattle.base.specs.declared.Fault.{Fault}
use Rattle.line.specs.Says.{Line}
use Rattle.house.specs.File.{clause_of, taken_as, line_taken, on, refuse, file, refused, read_lines, said}
use Rattle.house.specs.File as file
use Rattle.stores.specs.Lists.{Lists, lists}
use Rattle.house.specs.Promise.{rooms_of}
use Rattle.house.specs.declared.enter.Lent.{Lent}
use Rattle.house.specs.declared.enter.Reading.{Reading}

-- ---- what was read
-- the three lent stores
abbrev pub lists_of : Lent → Lists
lists_of l = lists l.start.now l.step.now l.bad.now

-- they are the stores that were lent, and no others
pub record Keeps (before after : Lent) : Type 0 where
  pub start : after.start.ghost_name ≡ before.start.ghost_name
  pub step : after.step.ghost_name ≡ before.step.ghost_name
  pub bad : after.bad.ghost_name ≡ before.bad.ghost_name

-- a clause's four masks more, if there is room
pub record PutAs (store : List ℕ) (count ones zeros : ℕ) (done : Bool) (store' : List ℕ) : Type 0 where
  pub room : done ≡ leb (count + 4) (length store)
  pub same : length store' ≡ length store
  pub lies : done ≡ true → Lies (count + 4) store'
  pub list : done ≡ true → take (count + 4) store' ≡ take count store ++ clause_of ones zeros

pub record Lie (r : Reading) (l : Lists) : Type 0 where
  pub most : r.clauses ≤ most_clause_lines
  pub start : Lies r.start l.start
  pub step : Lies r.step l.step
  pub bad : Lies r.bad l.bad

abbrev pub reading_of : Reading → Lists → file.Reading
reading_of r l =
    record {
      stage = r.stage;
      n = r.n;
      clauses = r.clauses;
      start = take r.start l.start;
      step = take r.step l.step;
      bad = take r.bad l.bad;
    }

-- a clause more, with these counts of masks; refusal 12 as in the definition
unfoldable pub one_more : Bool → ℕ → Reading → ℕ → ℕ → ℕ → Result Reading Refusal
one_more room stage r start step bad =
    elim (ltb r.clauses most_clause_lines && room) [
      | true ↦ Ok (record { stage = stage; n = r.n; clauses = r.clauses + 1; start = start; step = step; bad = bad })
      | false ↦ Err Room
    ]

abbrev pub taken_of : Result Reading Refusal → Lists → file.Taken
taken_of (Ok r) l = on (reading_of r l)
taken_of (Err r) l = refuse (number_of r)

abbrev pub Stays : Result Reading Refusal → Lists → Type 0
Stays (Ok r) l = Lie r l
Stays (Err r) l = Unit {0}

-- the stores are as long as they were
pub record Same (before after : Lists) : Type 0 where
  pub start : length after.start ≡ length before.start
  pub step : length after.step ≡ length before.step
  pub bad : length after.bad ≡ length before.bad

-- a line leads where the definition does: reading went on to there, or was refused as there
pub record Leads (taken : file.Taken) (before : Lists) (t : Result Reading Refusal) (after : Lists) : Type 0 where
  pub same : Same before after
  pub leads : taken_of t after ≡ taken
  pub lies : Stays t after

-- what a line says was entered; a line was taken
abbrev pub Enters : Reading → Line → Lists → Result Reading Refusal → Lists → Type 0
Enters r said before t after = Leads (taken_as (rooms_of before) (reading_of r before) said) before t after

abbrev pub Takes : Reading → List ℕ → Lists → Result Reading Refusal → Lists → Type 0
Takes r line before t after = Leads (line_taken (rooms_of before) (reading_of r before) line) before t after

-- ---- line after line
-- nothing was read
abbrev pub nothing : Reading
nothing = record { stage = 0; n = 0; clauses = 0; start = 0; step = 0; bad = 0 }

-- Reading stands at index i, where line number `line` starts: what is left of the text says what the whole text says.
pub record Stands (text : List ℕ) (i line : ℕ) (r : Reading) (l : Lists) : Type 0 where
  pub within : i ≤ length text
  pub counted : line ≤ i + 1
  pub lie : Lie r l
  pub rest : read_lines (rooms_of l) (lines (drop i text)) line (reading_of r l) ≡ said (rooms_of l) text

-- the text is the file that was read, or is refused so
abbrev pub Tells : List ℕ → Lists → Result Reading Fault → Lists → Type 0
Tells text before (Ok r) after = Lie r after × (said (rooms_of before) text ≡ file (reading_of r after))
Tells text before (Err f) after = said (rooms_of before) text ≡ refused (number_of f.refusal) f.line

-- the lines of a text were taken: the lists lie in the stores unless a line was refused
pub record Took (text : List ℕ) (before : Lists) (t : Result Reading Fault) (after : Lists) : Type 0 where
  pub same : Same before after
  pub tells : Tells text before t after

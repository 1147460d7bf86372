-- What importing promises: the answer, and the last content of each lent store, for every text and every store.
use Rattle.std.specs.Prelude.{ℕ, zero, suc, ◌+◌, Bool, true, false, ◌||◌, ◌↔◌, ◌≡◌, List, eqb, length, take, Ok, Err}
use Rattle.std.specs.Prelude as std
use Rattle.base.specs.Numbers.{number_of}
use Rattle.base.specs.declared.Fault.{Fault}
use Rattle.stores.specs.Lists.{Lists, filled}
use Rattle.ic3.specs.Demands.{IsPath}
use Rattle.system.specs.System.{System, system_of, model}
use Rattle.circuit.specs.Circuit.{Circuit, meaning}
use Rattle.circuit.specs.Runs.{Runs}
use Rattle.circuit.specs.Agree.{Agree}
use Rattle.circuit.specs.Refusals.{right_starts}
use Rattle.circuit.specs.Import.{imported, import_refusal}
use Rattle.aiger.specs.Text.{first_edition, Told, malformed, told, tells}
use Rattle.aiger.specs.declared.Imported.{Imported}

-- what is answered, in one form: with the number 0, n, w and the counts of masks; with a refusal's number, its line or 0, and all else 0
pub record Report : Type 0 where
  pub number : ℕ
  pub line : ℕ
  pub n : ℕ
  pub w : ℕ
  pub start : ℕ
  pub step : ℕ
  pub bad : ℕ

pub record Result : Type 0 where
  pub import : Report
  pub after : Lists

-- refused with this number and line: the stores are untouched
abbrev pub refused_at : ℕ → ℕ → Report
refused_at number line = record { number = number; line = line; n = 0; w = 0; start = 0; step = 0; bad = 0 }

abbrev pub report_of : std.Result Imported Fault → Report
report_of (Ok i) = record { number = 0; line = 0; n = i.n; w = i.w; start = i.start; step = i.step; bad = i.bad }
report_of (Err fault) = refused_at (number_of fault.refusal) fault.line

-- 21, 22, 23 and 26 are read off the header, which is line 1; 28 names the first latch with a wrong start value, behind the header, the inputs and the
-- latches before it; the others are no single line's fault
unfoldable pub line_for : Circuit → ℕ → ℕ
line_for c number =
    elim (eqb number 28) [
      | true ↦ 2 + length c.inputs + right_starts c.latches
      | false ↦ elim (eqb number 21 || (eqb number 22 || (eqb number 23 || eqb number 26))) [ true ↦ 1 | false ↦ 0 ]
    ]

-- n, w and the counts of masks, each list in front of its store and zeros behind it
unfoldable pub entered : System → Lists → Result
entered y l =
    record {
      import = record {
        number = 0;
        line = 0;
        n = y.n;
        w = y.w;
        start = length y.start;
        step = length y.step;
        bad = length y.bad;
      };
      after = filled l y.start y.step y.bad;
    }

unfoldable pub imported_as : Lists → Circuit → ℕ → Result
imported_as l c zero = entered (imported c) l
imported_as l c (suc r) = record { import = refused_at (suc r) (line_for c (suc r)); after = l }

unfoldable pub result_of : Lists → Told → Result
result_of l (malformed number line) = record { import = refused_at number line; after = l }
result_of l (told m c) = imported_as l c (import_refusal m c (length l.start) (length l.step) (length l.bad))

-- the system in front of the stores
abbrev pub system_in : Report → Lists → System
system_in i l = system_of i.n i.w (take i.start l.start) (take i.step l.step) (take i.bad l.bad)

-- THE PROMISE: an equation, so that two results agree; of a circuit that is not refused, the system has its own start states, steps and bad states, and
-- a path of the system is a run of the circuit, with inputs that fulfil the constraints in every state of it; and of a text that the first edition
-- takes, whichever reader has it, the result is what the first edition says
pub record Imports (newer : Bool) (text : List ℕ) (lent : Lists) (import : Report) (after : Lists) : Type 0 where
  pub equation : ◌≡◌ {A = Result} (record { import = import; after = after }) (result_of lent (tells newer text))
  pub right : (m : ℕ) (c : Circuit) → tells newer text ≡ told m c → import.number ≡ 0 → Agree (model (system_in import after)) (meaning c)
  pub paths : (m : ℕ) (c : Circuit) → tells newer text ≡ told m c → import.number ≡ 0
      → (path : List ℕ) → IsPath (model (system_in import after)) path ↔ Runs c path
  pub first : (m : ℕ) (c : Circuit) → tells first_edition text ≡ told m c
      → ◌≡◌ {A = Result} (record { import = import; after = after }) (result_of lent (tells first_edition text))

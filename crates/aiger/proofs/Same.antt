-- What importing answers is told whole: two answers with one report are one, so the equation of the promise fixes the answer. Assumes nothing.
use Prim.Native.Nat.{ℕ}
use mathlib.Core.Path.{◌≡◌, sym, ap}
use Rattle.std.specs.Prelude.{Result, Ok, Err}
use Rattle.base.specs.declared.Fault.{Fault}
use Rattle.base.proofs.Refusals.{number_not_none}
use Rattle.base.proofs.Named.{fault_same}
use Rattle.aiger.specs.Promise.{Report, report_of}
use Rattle.aiger.specs.declared.Imported.{Imported}

pub report_same : (r s : Result Imported Fault) → report_of r ≡ report_of s → r ≡ s
report_same (Ok i) (Ok j) e = ap (λ (t : Report). Ok (record { n = t.n; w = t.w; start = t.start; step = t.step; bad = t.bad })) e
report_same (Ok i) (Err f) e = absurd (number_not_none f.refusal (sym (ap (λ (t : Report). t.number) e)))
report_same (Err f) (Ok j) e = absurd (number_not_none f.refusal (ap (λ (t : Report). t.number) e))
report_same (Err f) (Err g) e = ap Err (fault_same f g (ap (λ (t : Report). t.number) e) (ap (λ (t : Report). t.line) e))

-- What reading answers is told whole: two answers with one report are one, so the equation of the promise fixes the answer. Assumes nothing.
use Prim.Native.Nat.{ℕ}
use mathlib.Core.Path.{◌≡◌, sym, ap}
use Rattle.std.specs.Prelude.{Result, Ok, Err}
use Rattle.base.specs.declared.Fault.{Fault}
use Rattle.base.proofs.Refusals.{number_not_none}
use Rattle.base.proofs.Named.{fault_same}
use Rattle.house.specs.Promise.{Report}
use Rattle.house.specs.Told.{report_of}
use Rattle.house.specs.declared.House.{House}

pub report_same : (r s : Result House Fault) → report_of r ≡ report_of s → r ≡ s
report_same (Ok h) (Ok k) e = ap (λ (t : Report). Ok (record { n = t.n; start = t.start; step = t.step; bad = t.bad })) e
report_same (Ok h) (Err f) e = absurd (number_not_none f.refusal (sym (ap (λ (t : Report). t.number) e)))
report_same (Err f) (Ok k) e = absurd (number_not_none f.refusal (ap (λ (t : Report). t.number) e))
report_same (Err f) (Err g) e = ap Err (fault_same f g (ap (λ (t : Report). t.number) e) (ap (λ (t : Report). t.line) e))

-- `read::read_parts` meets its contract: the parts are taken one behind the other, and the first line at fault ends them. Assumes nothing.
use mathlib.Core.Path.{refl}
use native.Mathlib.Omega.{arith}
use Rattle.base.proofs.Tests.{clash}
use Rattle.std.proofs.lemmas.Result.{err_from_is_err_and}
use Rattle.aiger.proofs.Telling.{fault_inputs, fault_latches, fault_singles, fault_gates, parts_right}
use Rattle.aiger.proofs.read.read_parts.Goals as goal

pub returns-in_err-latches_at : goal.returns-in_err-latches_at
returns-in_err-latches_at c =
    let p = err_from_is_err_and c.from_residual.result c.from_residual.ensures.1 in
    rw (p.1, p.2) (fault_inputs _ _ _ _ c.in_err-latches_at.ensures)

pub take_part-requires-2 : goal.take_part-requires-2
take_part-requires-2 c =
    let small = c.requires.0 in
    record {
      fine = record { some_number = omega arith; width = omega arith; start = λ e. omega arith };
      within = (c.in_ok-latches_at.ensures.right _ refl).within;
      rows = omega (arith, small.latches);
      lines = omega (arith, c.behind.ensures, small.inputs, small.latches);
    }

pub returns-in_err-singles_at : goal.returns-in_err-singles_at
returns-in_err-singles_at c =
    let p = err_from_is_err_and c.from_residual-in_err-singles_at.result c.from_residual-in_err-singles_at.ensures.1 in
    rw (p.1, p.2) (fault_latches _ _ _ _ c.in_ok-latches_at.ensures (rw c.behind.ensures at c.in_err-singles_at.ensures))

pub take_part-requires-3 : goal.take_part-requires-3
take_part-requires-3 c =
    let small = c.requires.0 in
    record {
      fine = record { some_number = omega arith; width = omega arith; start = λ e. clash e refl };
      within = (c.in_ok-singles_at.ensures.right _ refl).within;
      rows = omega (arith, c.in_ok-latches_at.ensures.same, c.in_ok-singles_at.ensures.same, small);
      lines = omega (arith, c.behind.ensures, c.behind-2.ensures, small);
    }

pub returns-in_err-gates_at : goal.returns-in_err-gates_at
returns-in_err-gates_at c =
    let p = err_from_is_err_and c.from_residual-in_err-gates_at.result c.from_residual-in_err-gates_at.ensures.1 in
    rw (p.1, p.2)
    (fault_singles _ _ _ _ c.in_ok-latches_at.ensures (rw c.behind.ensures at c.in_ok-singles_at.ensures)
    (rw (c.behind-2.ensures, c.behind.ensures) at c.in_err-gates_at.ensures))

pub take_part-requires-4 : goal.take_part-requires-4
take_part-requires-4 c =
    let small = c.requires.0 in
    record {
      fine = record { some_number = omega arith; width = omega arith; start = λ e. clash e refl };
      within = (c.in_ok-gates_at.ensures.right _ refl).within;
      rows = omega (arith, small.inputs, small.latches, small.gates);
      lines = omega (arith, c.behind.ensures, c.behind-2.ensures, c.behind-3.ensures, small);
    }

pub returns-in_err-take_part : goal.returns-in_err-take_part
returns-in_err-take_part c =
    let p = err_from_is_err_and c.from_residual-in_err-take_part.result c.from_residual-in_err-take_part.ensures.1 in
    rw (p.1, p.2)
    (fault_gates _ _ _ _ c.in_ok-latches_at.ensures (rw c.behind.ensures at c.in_ok-singles_at.ensures)
    (rw (c.behind-2.ensures, c.behind.ensures) at c.in_ok-gates_at.ensures)
    (rw (c.behind-3.ensures, c.behind-2.ensures, c.behind.ensures) at c.in_err-take_part.ensures))

pub returns : goal.returns
returns c =
    parts_right _ _ _ _ c.in_ok-latches_at.ensures (rw c.behind.ensures at c.in_ok-singles_at.ensures)
    (rw (c.behind-2.ensures, c.behind.ensures) at c.in_ok-gates_at.ensures) c.requires.0 (omega arith)
    (rw (c.behind-3.ensures, c.behind-2.ensures, c.behind.ensures) at c.in_ok-take_part.ensures)

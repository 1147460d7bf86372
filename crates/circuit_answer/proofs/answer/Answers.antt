-- `circuit_answer::answer` meets its contract: a refusal is written as such, and of a circuit the system that was imported is solved. Assumes
-- nothing.
use mathlib.Core.Path.{refl, sym}
use lib.Seq.{length-take-le}
use Rattle.base.proofs.Refusals.{number_not_none}
use Rattle.circuit_answer.proofs.Reading.{read_fronts, zero_rooms, answers_refusal, answers_circuit}
use Rattle.circuit_answer.proofs.answer.Goals as goal

pub slice_bounds-start-end : goal.slice_bounds-start-end
slice_bounds-start-end c = (read_fronts _ _ _ _ c.in-Ok.ensures zero_rooms).start

pub slice_bounds-system-end : goal.slice_bounds-system-end
slice_bounds-system-end c = sym (length-take-le _ _ (read_fronts _ _ _ _ c.in-Ok.ensures zero_rooms).start)

pub slice_bounds-step-end : goal.slice_bounds-step-end
slice_bounds-step-end c = (read_fronts _ _ _ _ c.in-Ok.ensures zero_rooms).step

pub slice_bounds-system-end-2 : goal.slice_bounds-system-end-2
slice_bounds-system-end-2 c = sym (length-take-le _ _ (read_fronts _ _ _ _ c.in-Ok.ensures zero_rooms).step)

pub slice_bounds-bad-end : goal.slice_bounds-bad-end
slice_bounds-bad-end c = (read_fronts _ _ _ _ c.in-Ok.ensures zero_rooms).bad

pub slice_bounds-system-end-3 : goal.slice_bounds-system-end-3
slice_bounds-system-end-3 c = sym (length-take-le _ _ (read_fronts _ _ _ _ c.in-Ok.ensures zero_rooms).bad)

pub returns : goal.returns
returns c = answers_circuit _ _ _ _ c.in-Ok.ensures zero_rooms refl c.solve.ensures

pub returns-in-Err : goal.returns-in-Err
returns-in-Err c =
    answers_refusal _ _ _ _ c.in-Err.ensures zero_rooms (number_not_none c.in-Err.fault.refusal) (rw c.into.ensures at c.put_refusal.ensures)

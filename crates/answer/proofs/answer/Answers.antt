-- `answer::answer` meets its contract: a refusal is written as such, and of a file the system that was read is solved. Assumes nothing.
use mathlib.Core.Path.{refl, sym}
use lib.Seq.{length-take-le}
use Rattle.base.proofs.Refusals.{number_not_none}
use Rattle.answer.proofs.Reading.{read_fronts, rooms_of_zeros, answers_refusal, answers_file}
use Rattle.answer.proofs.answer.Goals as goal

pub returns-in-Err : goal.returns-in-Err
returns-in-Err c =
    answers_refusal _ _ _ _ c.in-Err.ensures rooms_of_zeros (number_not_none _) (rw c.into.ensures at c.put_refusal.ensures)

pub slice_bounds-start-end : goal.slice_bounds-start-end
slice_bounds-start-end c = (read_fronts _ _ _ _ c.in-Ok.ensures).start

pub slice_bounds-system-end : goal.slice_bounds-system-end
slice_bounds-system-end c = sym (length-take-le _ _ (read_fronts _ _ _ _ c.in-Ok.ensures).start)

pub slice_bounds-step-end : goal.slice_bounds-step-end
slice_bounds-step-end c = (read_fronts _ _ _ _ c.in-Ok.ensures).step

pub slice_bounds-system-end-2 : goal.slice_bounds-system-end-2
slice_bounds-system-end-2 c = sym (length-take-le _ _ (read_fronts _ _ _ _ c.in-Ok.ensures).step)

pub slice_bounds-bad-end : goal.slice_bounds-bad-end
slice_bounds-bad-end c = (read_fronts _ _ _ _ c.in-Ok.ensures).bad

pub slice_bounds-system-end-3 : goal.slice_bounds-system-end-3
slice_bounds-system-end-3 c = sym (length-take-le _ _ (read_fronts _ _ _ _ c.in-Ok.ensures).bad)

pub returns : goal.returns
returns c = answers_file _ _ _ _ c.in-Ok.ensures rooms_of_zeros refl c.solve.ensures

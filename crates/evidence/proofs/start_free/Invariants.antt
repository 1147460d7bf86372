-- `evidence::start_free` meets its contract. The loop's invariant: the whole list answers what it answers from the index on. Assumes nothing.
use mathlib.Core.Bool.{not}
use Rattle.system.specs.System.{list_true}
use Rattle.evidence.proofs.Each.{Walked}
use Rattle.evidence.proofs.start_free.Given as goal

abbrev pub invariant-loop-s : goal.invariant-loop-s
invariant-loop-s l = Walked (λ x. not (list_true l.start x 0)) l.states l.s-index

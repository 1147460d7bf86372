-- `question::trail::resolve_along` meets its contract. The loop's invariant is that the reason in hand is what the entries so far, from the last back, make
-- of the reason that was given. Assumes nothing.
use Rattle.std.proofs.Common.{map, ◌≡◌}
use Rattle.masks.specs.Word.{word_of}
use Rattle.question.proofs.Along.{back}
use Rattle.question.proofs.trail.resolve_along.Given as goal

abbrev pub invariant-loop-entry : goal.invariant-loop-entry
invariant-loop-entry l = word_of l.r ≡ back (map (λ e. e.now) l.yielded) (word_of l.initial.r)

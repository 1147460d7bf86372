-- `Asked::settle` and `Asked::attempt` meet their contracts. The measure is the number of open bits, doubled, and one more for
-- `settle`: `attempt` settles a bit and calls `settle`, which calls `attempt` with no fewer bits settled than it was given. The loop's invariant is
-- that the trail leads from the bits that were given to those that are settled, and its measure is the number of open bits. A turn goes one of four
-- ways, and what it comes to is then treated as one: a forced bit is an entry more, and what fails is resolved along the trail. Assumes nothing.
use Prim.Native.Nat.{◌+◌, ◌-◌, ◌*◌}
use lib.Count.{ones}
use Rattle.masks.specs.Word.{width, word_of}
use Rattle.look.specs.Look.{setting}
use Rattle.question.specs.Engine.{asked_of}
use Rattle.question.proofs.Along.{Led}
use Rattle.question.proofs.engine.Asked.+attempt_settle.Given as goal

abbrev pub decreases-attempt : goal.decreases-attempt
decreases-attempt l = 2 * (width - ones (word_of l.s.bits))

abbrev pub decreases-settle : goal.decreases-settle
decreases-settle l = 2 * (width - ones (word_of l.s.bits)) + 1

abbrev pub invariant-settle-loop-reason : goal.invariant-settle-loop-reason
invariant-settle-loop-reason l =
    Led width (asked_of l.self) (setting l.fn.s) l.trail l.noted (setting l.r)

abbrev pub decreases-settle-loop-reason : goal.decreases-settle-loop-reason
decreases-settle-loop-reason l = width - ones (word_of l.r.bits)

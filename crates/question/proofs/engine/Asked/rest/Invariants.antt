-- `Asked::rest` meets its contract. The loop's invariant is that what is settled follows from what was given; its measure is the number of open
-- bits. Assumes nothing.
use Prim.Native.Nat.{◌-◌}
use lib.Count.{ones}
use Rattle.masks.specs.Word.{width, word_of}
use Rattle.question.specs.Engine.{asked_of, Comes}
use Rattle.question.proofs.engine.Asked.rest.Given as goal

abbrev pub invariant-loop-bit : goal.invariant-loop-bit
invariant-loop-bit l = Comes (asked_of l.self) l.initial.r l.r

abbrev pub decreases-loop-bit : goal.decreases-loop-bit
decreases-loop-bit l = width - ones (word_of l.r.bits)

-- `Asked::least` meets its contract. What is forced at first follows, so it is enough to look for the least front behind it. The loop's invariant is
-- `Walked`: no word that passes and agreed there is lost, but for those above all that agree now. The measure is the number of open bits. Assumes nothing.
use Prim.Native.Nat.{◌-◌}
use lib.Count.{ones}
use Rattle.masks.specs.Word.{width, word_of}
use Rattle.look.specs.Look.{setting}
use Rattle.question.specs.Engine.{asked_of, Few}
use Rattle.question.proofs.Walk.{Walked}
use Rattle.question.proofs.engine.Asked.least.Given as goal

abbrev pub invariant-loop-before : goal.invariant-loop-before
invariant-loop-before l =
    Walked width (asked_of l.self) l.front (setting l.initial.d.settled) (setting l.d.settled) (word_of l.d.word)
    × Few l.d.settled

abbrev pub decreases-loop-before : goal.decreases-loop-before
decreases-loop-before l = width - ones (word_of l.d.settled.bits)

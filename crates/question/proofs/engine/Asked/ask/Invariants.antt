-- `Asked::ask` meets its contract. The loop's invariant: no state from `from` on and below `at` fulfils the condition. The measure is what is left
-- below the end. Assumes nothing.
use Prim.Native.Nat.{◌-◌, ◌≤◌}
use Rattle.question.specs.Engine.{condition_of}
use Rattle.question.proofs.Ranges.{Free}
use Rattle.question.proofs.Blocks.{passes}
use Rattle.question.proofs.engine.Asked.ask.Given as goal

abbrev pub invariant-loop-at : goal.invariant-loop-at
invariant-loop-at l = (l.from ≤ l.at) × Free l.from l.at (passes l.free.w (condition_of l.self) l.later)

abbrev pub decreases-loop-at : goal.decreases-loop-at
decreases-loop-at l = l.end - l.at

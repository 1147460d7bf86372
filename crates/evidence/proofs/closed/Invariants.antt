-- `evidence::closed` meets its contract. The loop's invariant: the questions from the index on, with those asked so far, give the whole answer. Assumes
-- nothing.
use Prim.Native.Nat.{◌+◌, ◌^◌}
use mathlib.Core.Path.{◌≡◌}
use lib.ListN.{drop}
use Rattle.system.specs.System.{some_true, pair}
use Rattle.evidence.specs.Check.{closed_from}
use Rattle.evidence.proofs.closed.Given as goal

abbrev pub invariant-loop-t : goal.invariant-loop-t
invariant-loop-t l = (l.asked ≡ l.t-index + 1)
    × (closed_from (2 ^ l.free.n) (λ s t. some_true l.free.w l.step (pair s t)) l.states l.states 1
    ≡ closed_from (2 ^ l.free.n) (λ s t. some_true l.free.w l.step (pair s t)) l.states (drop l.t-index l.states) l.asked)

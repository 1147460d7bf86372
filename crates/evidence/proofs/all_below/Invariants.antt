-- `evidence::all_below` meets its contract. The loop's invariant: the whole list answers what it answers from the index on. Assumes nothing.
use Prim.Native.Nat.{◌^◌}
use mathlib.Core.Path.{◌≡◌}
use lib.Dec.{ltb}
use Rattle.evidence.proofs.Each.{Walked}
use Rattle.evidence.proofs.all_below.Given as goal

abbrev pub invariant-loop-s : goal.invariant-loop-s
invariant-loop-s l = (l.end ≡ 2 ^ l.n) × Walked (λ x. ltb x (2 ^ l.n)) l.states l.s-index

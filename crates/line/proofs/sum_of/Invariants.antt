-- `line::sum_of` meets its contract. The loop's invariant: the total is the sum of the first j bytes, each at most 272. Assumes nothing.
use Prim.Native.Nat.{◌*◌, ◌≤◌}
use mathlib.Core.Path.{◌≡◌}
use Rattle.line.specs.Text.{sum}
use Rattle.line.specs.Inner.{frame_at}
use Rattle.line.proofs.sum_of.Given as goal

abbrev pub invariant-loop-j : goal.invariant-loop-j
invariant-loop-j l = (l.total ≤ 272 * l.j) × (l.total ≡ sum (frame_at l.line 0 l.j))

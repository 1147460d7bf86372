-- `line::number_at` meets its contract. The loop's invariant: the number so far is that of the first j bytes. With at most seven of them below
-- 256 there is room for one more. Assumes nothing.
use mathlib.Core.Path.{◌≡◌}
use Rattle.line.specs.Text.{number}
use Rattle.line.specs.Inner.{frame_at}
use Rattle.line.proofs.number_at.Given as goal

abbrev pub invariant-loop-j : goal.invariant-loop-j
invariant-loop-j l = (l.high ≡ number 0 (frame_at l.line l.at l.j))

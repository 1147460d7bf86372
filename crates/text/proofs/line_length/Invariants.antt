-- `text::line_length` meets its contract. The loop's invariant: the line has the bytes that were passed, and as many more as the first line from here
-- on.. Assumes nothing.
use Prim.Native.Nat.{◌+◌, ◌≤◌}
use mathlib.Core.Path.{◌≡◌}
use lib.ListN.{drop}
use Rattle.text.specs.Lines.{line_length}
use Rattle.text.proofs.line_length.Given as goal

abbrev pub invariant-loop-i : goal.invariant-loop-i
invariant-loop-i l = (l.at ≤ l.i) × (l.at + line_length (drop l.at l.text) ≡ l.i + line_length (drop l.i l.text))

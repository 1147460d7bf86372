-- `house::take_lines` meets its contract. The loop's invariant: the reader stands at an index where a line starts, and what is left of the text from
-- there says what the whole text says (`Stands`); the stores are as long as they were. The measure is what is left of the text. Assumes nothing.
use Prim.Native.Nat.{◌-◌}
use mathlib.Core.Path.{◌≡◌}
use lib.ListN.{length}
use Rattle.house.specs.Inner.{lists_of, Keeps, Same, Stands}
use Rattle.house.proofs.take_lines.Given as goal

abbrev pub invariant-loop-r : goal.invariant-loop-r
invariant-loop-r l =
    record {
      text : l.r.text.now ≡ l.text;
      kept : Keeps l.fn.into l.into;
      same : Same (lists_of l.fn.into) (lists_of l.into);
      stands : Stands l.text l.r.at l.line l.reading (lists_of l.into);
    }

abbrev pub decreases-loop-r : goal.decreases-loop-r
decreases-loop-r l = length l.text - l.r.at

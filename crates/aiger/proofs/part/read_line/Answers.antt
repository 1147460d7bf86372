-- `part::read_line` meets its contract: the line ends within the text. Assumes nothing.
use mathlib.Core.Path.{refl}
use native.Mathlib.Omega.{arith}
use Rattle.aiger.proofs.Rows.{ends_within}
use Rattle.aiger.proofs.part.read_line.Goals as goal

pub overflow_add-end : goal.overflow_add-end
overflow_add-end c = omega (arith, ends_within _ _ _ c.requires c.line_length.ensures)

pub slice_bounds-numbers-end : goal.slice_bounds-numbers-end
slice_bounds-numbers-end c = omega (arith, ends_within _ _ _ c.requires c.line_length.ensures)

pub returns : goal.returns
returns c =
    record {
      within = omega (arith, ends_within _ _ _ c.requires c.line_length.ensures);
      ends = omega (arith, c.line_length.ensures);
      found = c.numbers-count.new.into;
      row = refl;
      numbered = c.numbers-count.ensures;
    }

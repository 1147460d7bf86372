-- `Reader::next_line` meets its contract: the place behind the line is within the text, or is the one that the reader had. Assumes nothing.
use Prim.Native.Nat.{◌^◌}
use native.Mathlib.Omega.{arith}
use Rattle.text.proofs.Lines.{line_end}
use Rattle.text.proofs.Reader.next_line.Goals as goal

pub overflow_add-result : goal.overflow_add-result
overflow_add-result c =
    let r = c.args.self in
    omega (arith, c.line_length-len.ensures, line_end r.text.now r.at (2 ^ 64) (omega (arith, c.well_formed.0.1.1.1.0.1)) (omega (arith, c.ranges.self)))

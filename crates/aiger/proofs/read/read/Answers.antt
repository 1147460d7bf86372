-- `read::read` meets its contract: what the first line says, and then the parts. Assumes nothing.
use mathlib.Core.Path.{sym}
use lib.Seq.{length-take-le}
use Rattle.aiger.proofs.Telling.{first_within, read_header, read_other}
use Rattle.aiger.proofs.read.read.Goals as goal

pub slice_bounds-head_of-end : goal.slice_bounds-head_of-end
slice_bounds-head_of-end c = sym (length-take-le _ _ (first_within _ _ c.line_length-end.ensures))

pub returns-in_default : goal.returns-in_default
returns-in_default c = read_other _ _ _ c.line_length-end.ensures c.in_default.ensures c.wrong_form.ensures

pub read_behind-requires : goal.read_behind-requires
read_behind-requires c = (c.in-Some.ensures.1, first_within _ _ c.line_length-end.ensures)

pub returns : goal.returns
returns c = read_header _ _ _ c.line_length-end.ensures c.in-Some.ensures.0 c.read_behind.ensures

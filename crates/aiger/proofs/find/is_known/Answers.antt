-- `find::is_known` meets its contract: a variable is listed if it has a row. Assumes nothing.
use Rattle.std.proofs.Common.{rules}
use borrow.Author.Tests.{ne_eqb}
use Rattle.aiger.specs.Inner.{known_in}
use Rattle.aiger.proofs.Threes.{found_any}
use Rattle.aiger.proofs.find.is_known.Goals as goal

pub returns-then-l-eq0 : goal.returns-then-l-eq0
unfolding known_in
returns-then-l-eq0 c = search rules

pub returns-else-l-eq0 : goal.returns-else-l-eq0
unfolding known_in
returns-else-l-eq0 c = rw (ne_eqb _ 0 c.if-l-eq0.false, c.is_some.ensures, c.find.ensures, found_any)

-- `house::enter::enter` meets its contract: each arm is a case of what a line says. Assumes nothing.
use mathlib.Core.Path.{refl}
use native.Mathlib.Omega.{arith}
use Rattle.house.proofs.Entering.{size_read, count_right, count_wrong}
use Rattle.house.proofs.enter.enter.Goals as goal

pub returns-then-count-r-clause-lists : goal.returns-then-count-r-clause-lists
returns-then-count-r-clause-lists c = rw c.in-Count.is (count_wrong c.requires refl (λ e. omega arith))

pub returns-in-Size-clause-lists : goal.returns-in-Size-clause-lists
returns-in-Size-clause-lists c = rw c.in-Size.is (size_read c.requires refl)

pub returns-in-Clause-clause-lists : goal.returns-in-Clause-clause-lists
returns-in-Clause-clause-lists c = rw c.in-Clause.is c.enter_clause.ensures.lists

pub returns-else-count-r-clause-lists : goal.returns-else-count-r-clause-lists
returns-else-count-r-clause-lists c = rw c.in-Count.is (count_right c.requires refl (omega arith))

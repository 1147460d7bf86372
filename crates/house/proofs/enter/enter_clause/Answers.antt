-- `house::enter::enter_clause` meets its contract: the list of the clause's kind has four masks more, if there is room. Assumes nothing.
use mathlib.Core.Path.{refl}
use native.Mathlib.Omega.{arith}
use Rattle.house.proofs.Entering.{start_put, step_put, bad_put}
use Rattle.house.proofs.enter.enter_clause.Goals as goal

pub returns-in-Start-clause-lists : goal.returns-in-Start-clause-lists
returns-in-Start-clause-lists c =
    rw (c.in-Start.is, c.one_more.ensures) (start_put c.requires refl c.put-room.ensures)

pub returns-in-Step-clause-lists : goal.returns-in-Step-clause-lists
returns-in-Step-clause-lists c =
    rw (c.in-Step.is, c.one_more-in-Step.ensures) (step_put c.requires refl c.put-room-in-Step.ensures)

pub returns-in-Bad-clause-lists : goal.returns-in-Bad-clause-lists
returns-in-Bad-clause-lists c =
    rw (c.in-Bad.is, c.one_more-in-Bad.ensures) (bad_put c.requires (λ e. omega arith) (λ e. omega arith) c.put-room-in-Bad.ensures)

-- `Tabled::one_turn` meets its contract: each phase's function moves as the definition's turn does from there. Assumes nothing.
use Rattle.search.proofs.Turns.{raise_ready}
use Rattle.search.proofs.turn.Tabled.one_turn.Goals as goal

pub raise-requires : goal.raise-requires
raise-requires c =
    raise_ready (rw c.in-Raise.is at c.requires)

pub returns-in-Look-clause-moves : goal.returns-in-Look-clause-moves
returns-in-Look-clause-moves c =
    rw c.in-Look.is c.look.ensures.moves

pub returns-in-Settle-clause-moves : goal.returns-in-Settle-clause-moves
returns-in-Settle-clause-moves c =
    rw c.in-Settle.is c.settle.ensures.moves

pub returns-in-Raise-clause-moves : goal.returns-in-Raise-clause-moves
returns-in-Raise-clause-moves c =
    rw c.in-Raise.is c.raise.ensures.moves

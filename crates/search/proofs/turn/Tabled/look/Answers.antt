-- `Tabled::look` meets its contract: the answer is taken in by `found`, or, with none, by a round from level 1 on.
-- Assumes nothing.
use native.Mathlib.Omega.{arith}
use Rattle.search.proofs.Taken.{moves_to, look_some, look_none}
use Rattle.search.proofs.Turns.{ready_asks}
use Rattle.search.proofs.turn.Tabled.look.Goals as goal

pub bad_state-requires : goal.bad_state-requires
bad_state-requires c = (ready_asks c.requires).holds

pub round-requires : goal.round-requires
round-requires c =
    let h = (ready_asks c.requires).holds in
    record { within = rw h.same h.within; above = omega arith; below = omega arith }

pub returns-in-Some-clause-moves : goal.returns-in-Some-clause-moves
returns-in-Some-clause-moves c =
    let w = c.requires in
    let e = rw c.in-Some.is at c.bad_state.ensures in
    moves_to (look_some _ _ _ _ (ready_asks w) _ _ _ e) c.found.ensures.moves

pub returns-in-None-clause-moves : goal.returns-in-None-clause-moves
returns-in-None-clause-moves c =
    let w = c.requires in
    let e = rw c.in-None.is at c.bad_state.ensures in
    moves_to (look_none _ _ _ _ (ready_asks w) _ _ e) c.round.ensures

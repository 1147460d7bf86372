-- `Tabled::settle` meets its contract: the state of the duty is read at the index of its level, and the answer is taken in by `deeper`, or,
-- with none, by `blocked`. Assumes nothing.
use native.Mathlib.Numerals.{add-one}
use native.Mathlib.Omega.{arith}
use Rattle.search.proofs.Taken.{moves_to, settle_some, settle_none}
use Rattle.search.proofs.Turns.{ready_asks}
use Rattle.search.proofs.turn.Tabled.settle.Goals as goal

pub step_state-requires : goal.step_state-requires
step_state-requires c = (ready_asks c.requires).holds

pub blocked-requires : goal.blocked-requires
blocked-requires c =
    let w = c.requires in
    record { below = omega (arith, w.shape.placed); holds = (ready_asks w).holds }

pub returns-in-Some-clause-moves : goal.returns-in-Some-clause-moves
returns-in-Some-clause-moves c =
    let a = c.args in
    let w = c.wide.ensures in
    let e = rw (w, add-one a.k) at (rw c.in-Some.is at c.step_state.ensures) in
    moves_to (settle_some _ _ _ _ (ready_asks c.requires) _ _ _ _ _ _ e) c.deeper.ensures.moves

pub returns-in-None-clause-moves : goal.returns-in-None-clause-moves
returns-in-None-clause-moves c =
    let a = c.args in
    let w = c.wide.ensures in
    let told = c.in-None.is in
    let e = rw (w, add-one a.k) at (rw told at c.step_state.ensures) in
    let f = rw (w, add-one a.k) at c.blocked.ensures.moves in
    moves_to (settle_none _ _ _ _ (ready_asks c.requires) _ _ _ _ _ e) f

-- `Lent::tested` meets its contract. The walk ends at the next entry to be tested, or no entry from j on sits at the level; then one before j
-- does, and the round goes on, or none sits there any more, and step 5 decides. Assumes nothing.
use mathlib.Core.Path.{sym}
use native.Mathlib.Omega.{arith}
use Rattle.base.proofs.Tests.{clash}
use Rattle.search.proofs.Rounds.{tested_raises, tested_on, tested_stops}
use Rattle.search.proofs.Taken.{moves_to}
use Rattle.search.proofs.Walks.{sits_here, sits_nowhere, untested}
use Rattle.search.proofs.store.Lent.tested.Goals as goal

pub returns-in-Some : goal.returns-in-Some
returns-in-Some c =
    let f = c.in-Some.ensures in
    λ w. rw c.at.ensures (record { onward = sym (tested_raises _ _ _ _ _ _ (omega arith) w _ f.1 f.0); bounded = f.1 })

pub returns-then-sits_before : goal.returns-then-sits_before
returns-then-sits_before c =
    let h = sits_here c.args.self.now.levels.now c.args.j c.args.i (omega arith) (c.sits_before.ensures.0 c.if-sits_before.true) in
    λ w. moves_to (sym (tested_on _ _ _ _ _ _ (omega arith) (untested c.in_default.ensures) h.0 h.1 h.2)) c.round.ensures

pub returns : goal.returns
returns c =
    let gone = sits_nowhere c.args.self.now.levels.now c.args.j c.args.i (omega arith) (λ a. clash (c.sits_before.ensures.1 a) c.if-sits_before.false) in
    λ w. moves_to (sym (tested_stops _ _ _ _ _ _ (omega arith) (untested c.in_default.ensures) gone)) c.judge.ensures

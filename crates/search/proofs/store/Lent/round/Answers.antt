-- `Lent::round` meets its contract: at N comes step 5; below it the walk ends at the first entry of the level, or has passed all, and then a
-- shortened round does not go on. Assumes nothing.
use mathlib.Core.Path.{sym}
use native.Mathlib.Omega.{arith}
use Rattle.search.proofs.Rounds.{round_judged, round_raises, round_stops}
use Rattle.search.proofs.Taken.{moves_to}
use Rattle.search.proofs.store.Lent.round.Goals as goal

pub returns-then-i-c : goal.returns-then-i-c
returns-then-i-c c = moves_to (sym (round_judged _ _ _ _ _ (omega arith))) c.judge.ensures

pub returns-in-Some : goal.returns-in-Some
returns-in-Some c =
    let w = c.in-Some.ensures in
    rw c.at.ensures (record { onward = sym (round_raises _ _ _ _ _ (omega arith) _ w.1 w.0); bounded = w.1 })

pub returns : goal.returns
returns c =
    moves_to (sym (round_stops _ _ _ _ _ (omega arith) c.in_default.ensures.before)) c.judge-2.ensures

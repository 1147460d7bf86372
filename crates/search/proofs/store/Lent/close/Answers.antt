-- `Lent::close` meets its contract: each end says what is to stay of the states, which `keep` brings to the front after safe, and of the path; and
-- `finish` clears the rest. Assumes nothing.
use native.Mathlib.Omega.{arith}
use Rattle.search.proofs.Closing.{closes_safe, closes_unsafe, closes_given_up}
use Rattle.search.proofs.store.Lent.close.Goals as goal

pub returns-in-Safe-clause-closes : goal.returns-in-Safe-clause-closes
returns-in-Safe-clause-closes c =
    let k = c.keep-front.ensures in
    let e = rw (k.levels, k.path) at c.finish.ensures.left in
    let b = rw c.in-Safe.is at c.requires.counted in
    closes_safe _ _ _ _ _ _ _ c.in-Safe.is k.front.front (omega (arith, b)) k.slices.states_length e

pub returns-in-Unsafe-clause-closes : goal.returns-in-Unsafe-clause-closes
returns-in-Unsafe-clause-closes c =
    closes_unsafe _ _ _ _ c.in-Unsafe.is (rw c.in-Unsafe.is at c.requires.counted) c.finish-in-Unsafe.ensures.left

pub returns-in-GaveUp-clause-closes : goal.returns-in-GaveUp-clause-closes
returns-in-GaveUp-clause-closes c =
    closes_given_up _ _ _ _ _ c.in-GaveUp.is c.into.ensures c.finish-in-GaveUp.ensures.left

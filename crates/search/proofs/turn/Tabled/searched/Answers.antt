-- `Tabled::searched` meets its contract: the question for a start state is asked with leave alone, and what the answer leads to is the definition's.
-- Assumes nothing.
use Prim.Native.Nat.{◌≤◌}
use native.Mathlib.Omega.{arith}
use Rattle.system.specs.Lent.{system_in}
use Rattle.search.proofs.Opening.{forbidden_ends, nowhere_ends, first_begins, first_searches}
use Rattle.search.proofs.turn.Tabled.searched.Goals as goal

pub returns-then-allowance-eq0-clause-ends : goal.returns-then-allowance-eq0-clause-ends
returns-then-allowance-eq0-clause-ends c = forbidden_ends _ c.requires c.if-allowance-eq0.true

pub returns-in_default-clause-ends : goal.returns-in_default-clause-ends
returns-in_default-clause-ends c = nowhere_ends _ c.requires (omega arith) (rw c.in_default.is at c.start_state.ensures)

pub all_turns-requires : goal.all_turns-requires
all_turns-requires c =
    first_begins c.requires (omega arith)

pub returns-clause-ends : goal.returns-clause-ends
returns-clause-ends c =
    let a = c.args in
    let y = system_in a.self.now.system in
    let leave : 1 ≤ a.allowance = omega arith in
    rw (first_searches y c.requires leave _ (rw c.in-Some.is at c.start_state.ensures)) at c.all_turns.ensures.ends

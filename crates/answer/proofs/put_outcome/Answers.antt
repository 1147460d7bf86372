-- `answer::put_outcome` meets its contract: each arm is a case of the definition. Evidence is a front of a store and no longer than that.
-- Assumes nothing.
use Rattle.answer.proofs.Outcomes.{front_short, safe_lines, unsafe_lines, gave_up_lines, refusal_lines}
use native.Mathlib.Omega.{arith}
use borrow.Author.Rules.{rules}
use Rattle.answer.proofs.put_outcome.Goals as goal

pub put_verdict-requires : goal.put_verdict-requires
put_verdict-requires c =
    (search rules, front_short c.in-Safe.field-0 65538 c.args.states.now _ c.evidence.ensures.content (omega (arith, c.requires.0)))

pub put_verdict-requires-in-Unsafe : goal.put_verdict-requires-in-Unsafe
put_verdict-requires-in-Unsafe c =
    (search rules, front_short c.in-Unsafe.field-0 _ _ _ c.evidence-in-Unsafe.ensures.content c.requires.1)

pub returns-in-Safe : goal.returns-in-Safe
returns-in-Safe c =
    let a = c.args in
    rw (safe_lines a.outcome a.states.now a.path.now c.in-Safe.is c.evidence.ensures.content)
    c.put_verdict.ensures

pub returns-in-Unsafe : goal.returns-in-Unsafe
returns-in-Unsafe c =
    let a = c.args in
    rw (unsafe_lines a.outcome a.states.now a.path.now c.in-Unsafe.is c.evidence-in-Unsafe.ensures.content)
    c.put_verdict-in-Unsafe.ensures

pub returns-in-GaveUp : goal.returns-in-GaveUp
returns-in-GaveUp c =
    let a = c.args in
    rw (gave_up_lines a.outcome a.states.now a.path.now c.in-GaveUp.is) c.put_gave_up.ensures

pub returns-in-Refused : goal.returns-in-Refused
returns-in-Refused c =
    let a = c.args in
    rw (refusal_lines a.outcome a.states.now a.path.now c.in-Refused.is) c.put_refusal.ensures

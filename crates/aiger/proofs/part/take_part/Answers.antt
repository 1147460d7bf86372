-- `part::take_part` meets its contract: at the beginning nothing was read, and a turn takes the next line, which has a row or none. Assumes nothing.
use native.Mathlib.Omega.{arith}
use Rattle.aiger.proofs.Parting.{taken_none, taken_next, taken_wrong, taken_all}
use Rattle.aiger.proofs.part.take_part.Goals as goal

pub loop-k-init : goal.loop-k-init
loop-k-init c = taken_none _ _ _ _ c.requires.within

pub returns-then-not-takes : goal.returns-then-not-takes
returns-then-not-takes c =
    let line = c.read_line-line.ensures in
    taken_wrong _ _ _ _ c.loop-k.invariant c.loop-k-test.true line (c.takes.ensures.wrong c.if-not-takes.true _ _ line.row line.numbered)
    c.wrong_form.ensures

pub loop-k-preserved : goal.loop-k-preserved
loop-k-preserved c =
    let line = c.read_line-line.ensures in
    taken_next _ _ _ _ c.loop-k.invariant c.loop-k-test.true line (c.takes.ensures.right c.if-not-takes.false _ _ line.row line.numbered)
    c.put_row.ensures

pub returns : goal.returns
returns c = taken_all _ _ _ _ c.loop-k.invariant (omega (arith, c.loop-k-test.false, c.loop-k.auto.k-end))

-- `aiger::put_first` meets its contract: the start value is 0, 1 or another, which has no clause. Assumes nothing.
use mathlib.Core.Path.{◌≡◌}
use native.Mathlib.Omega.{arith}
use Rattle.text.proofs.Laying.{writes_none}
use Rattle.circuit.specs.Import.{empty}
use Rattle.aiger.proofs.Writing.{with_plain, with_inverted, start_zero, start_one, start_either}
use Rattle.aiger.proofs.clauses.put_first.Goals as goal

pub returns-then-start-gt1 : goal.returns-then-start-gt1
returns-then-start-gt1 c =
    let a = c.args in
    rw (start_either a.k a.start c.if-start-gt1.true) (writes_none _ _)

pub returns-then-start-eq1 : goal.returns-then-start-eq1
returns-then-start-eq1 c =
    rw (← start_one _ _ _ c.if-start-eq1.true (with_plain _ _ empty _ c.no_literal.ensures c.with_bit.ensures)) c.put_clause.ensures

pub returns : goal.returns
returns c =
    let zero : c.args.start ≡ 0 = omega (arith, c.if-start-eq1.false) in
    rw (← start_zero _ _ _ zero (with_inverted _ _ empty _ c.no_literal.ensures c.with_bit-2.ensures)) c.put_clause-2.ensures

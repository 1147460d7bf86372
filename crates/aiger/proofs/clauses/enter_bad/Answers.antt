-- `aiger::enter_bad` meets its contract: what was written, and zeros behind it. Assumes nothing.
use native.Mathlib.Omega.{arith}
use Rattle.text.proofs.Laying.{writes_then}
use Rattle.aiger.specs.Inner.{bad_list}
use Rattle.aiger.proofs.Entering.{enters, gates_end}
use Rattle.aiger.proofs.Writing.{clause_end}
use Rattle.aiger.proofs.Slices.{few_gates}
use Rattle.aiger.proofs.clauses.enter_bad.Goals as goal

pub put_gates-front-requires : goal.put_gates-front-requires
put_gates-front-requires c = omega (arith, clause_end _ c.put_clause-front.ensures)

pub put_constraints-end-requires : goal.put_constraints-end-requires
put_constraints-end-requires c =
    omega (arith, few_gates c.args.rows.fits, clause_end _ c.put_clause-front.ensures, gates_end _ _ _ _ _ _ c.put_gates-front.ensures)

pub returns : goal.returns
unfolding bad_list
returns c literals k =
    enters
    (writes_then (writes_then c.put_clause-front.ensures c.put_gates-front.ensures) (c.put_constraints-end.ensures.says literals k))
    c.clear_behind.ensures

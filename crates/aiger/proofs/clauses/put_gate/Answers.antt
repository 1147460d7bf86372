-- `aiger::put_gate` meets its contract: three clauses, one behind the other. Assumes nothing.
use mathlib.Core.Path.{ap, ◌∙◌}
use native.Mathlib.Omega.{arith}
use Rattle.text.proofs.Laying.{writes_then}
use Rattle.circuit.specs.Import.{mark}
use Rattle.aiger.proofs.Writing.{clause_end, gate_masks_lem}
use Rattle.aiger.proofs.clauses.put_gate.Goals as goal

pub put_clause-at-requires-2 : goal.put_clause-at-requires-2
put_clause-at-requires-2 c =
    omega (arith, c.requires, clause_end _ c.put_clause-at.ensures)

pub put_clause-requires : goal.put_clause-requires
put_clause-requires c =
    omega (arith, c.requires, clause_end _ c.put_clause-at.ensures, clause_end _ c.put_clause-at-2.ensures)

pub returns : goal.returns
returns c =
    let out_made = c.with_literal-not_out.ensures ∙ ap (mark _ _) c.no_literal.ensures in
    rw (← gate_masks_lem _ _ _ _ _ _ _
    (c.with_literal-m.ensures ∙ ap (mark _ _) out_made)
    (c.with_literal-m-2.ensures ∙ ap (mark _ _) out_made)
    (c.with_literal-m-5.ensures
    ∙ ap (mark _ _) (c.with_literal-m-4.ensures
    ∙ ap (mark _ _) (c.with_literal-m-3.ensures ∙ ap (mark _ _) c.no_literal-2.ensures))))
    (writes_then (writes_then c.put_clause-at.ensures c.put_clause-at-2.ensures) c.put_clause.ensures)

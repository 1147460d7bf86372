-- `aiger::put_latch` meets its contract: the literal's clause and the inverted one's, each with the later bit. Assumes nothing.
use mathlib.Core.Path.{ap, ◌∙◌}
use native.Mathlib.Omega.{arith}
use Rattle.text.proofs.Laying.{writes_then}
use Rattle.circuit.specs.Import.{mark}
use Rattle.aiger.proofs.Writing.{clause_end, with_plain, with_inverted, latch_masks}
use Rattle.aiger.proofs.clauses.put_latch.Goals as goal

pub put_clause-requires : goal.put_clause-requires
put_clause-requires c =
    omega (arith, c.requires, clause_end _ c.put_clause-at.ensures)

pub returns : goal.returns
returns c =
    rw (← latch_masks _ _ _ _ _
    (with_plain _ _ _ _ (c.with_literal.ensures ∙ ap (mark _ _) c.no_literal.ensures) c.with_bit.ensures)
    (with_inverted _ _ _ _ (c.with_literal-2.ensures ∙ ap (mark _ _) c.no_literal-2.ensures) c.with_bit-2.ensures))
    (writes_then c.put_clause-at.ensures c.put_clause.ensures)

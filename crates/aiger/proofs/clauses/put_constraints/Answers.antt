use mathlib.Core.Path.{refl, ap, ◌∙◌}
use native.Mathlib.Omega.{arith}
use Rattle.text.proofs.Laying.{writes_length}
use Rattle.circuit.specs.Import.{mark}
use Rattle.aiger.proofs.Rereading.{putting_first, putting_next, putting_last}
use Rattle.aiger.proofs.Writing.{clause_end}
use Rattle.aiger.proofs.clauses.put_constraints.Goals as goal

pub loop-init : goal.loop-init
loop-init c =
    (c.args.c.within, omega arith, refl, λ literals k. putting_first _ _ _ _ literals k _ _)

pub put_clause-next-requires : goal.put_clause-next-requires
put_clause-next-requires c = omega (arith, c.args.c.few, c.loop.invariant.1, c.loop-test.true, c.requires)

pub loop-preserved : goal.loop-preserved
loop-preserved c =
    let l = c.loop in (
      c.read_line-line.ensures.within,
      omega (arith, l.invariant.1, clause_end _ c.put_clause-next.ensures),
      writes_length c.put_clause-next.ensures ∙ l.invariant.2,
      λ literals k.
          putting_next _ _ (l.invariant.3 literals k) (omega (arith, c.loop-test.true)) l.invariant.0 c.read_line-line.ensures
          _
          (c.with_literal-m.ensures ∙ ap (mark _ _) c.no_literal.ensures)
          c.put_clause-next.ensures
          (omega arith),
    )

pub returns : goal.returns
returns c =
    let l = c.loop in
    record { same = l.invariant.2; says = λ literals k. putting_last _ _ (l.invariant.3 literals k) (omega (arith, c.loop-test.false)) }

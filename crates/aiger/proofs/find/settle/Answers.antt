use mathlib.Core.Bool.{true, false, ◌&&◌}
use mathlib.Core.Path.{sym, ap, ap₂, ◌∙◌}
use lib.ListN.{length}
use native.Mathlib.Omega.{arith}
use Rattle.masks.proofs.OneBit.{pow_within}
use Rattle.aiger.proofs.Slices.{few_gates}
use Rattle.aiger.proofs.Settling.{settled_literal, gathers_none, gathers_next, gathers_all}
use Rattle.aiger.proofs.Finding.{gate_at, left_fails, right_fails}
use Rattle.aiger.proofs.find.settle.Goals as goal
use Rattle.aiger.proofs.find.settle.Goals.{
  then-is_settled+then-is_settled-2,
  else-is_settled,
  else-is_settled-via-then-is_settled+else-is_settled-2,
  else-is_settled-via-else-is_settled,
}

pub loop-k-init : goal.loop-k-init
loop-k-init c = (omega (arith, ap length c.gates-gates.ensures, few_gates c.args.rows.fits), gathers_none _ _)

pub loop-k-preserved : goal.loop-k-preserved
loop-k-preserved c =
    let args = c.args in
    let left = rw (← c.gates-gates.ensures) at c.is_settled.ensures in
    let literal = settled_literal c.gates-gates.result.now args.mask in
    let gate = gate_at c.gates-gates.result.now c.loop-k.k in (
      c.loop-k.invariant.0,
      elim c.if-is_settled.branch [
        | then-is_settled+then-is_settled-2 w ↦
            gathers_next _ _ c.loop-k.invariant.1 c.loop-k-test.true true
            (ap₂ ◌&&◌ (sym left ∙ w.if-is_settled.true)
            (sym (rw (← c.gates-gates.ensures) at w.is_settled-then-is_settled.ensures) ∙ w.if-is_settled-2.true))
            _
            (w.next-is ∙ rw (w.power-next.ensures ∙ pow_within 64 _ (omega (arith, c.loop-k.invariant.0, c.loop-k-test.true))))
        | else-is_settled w ↦
            gathers_next _ _ c.loop-k.invariant.1 c.loop-k-test.true false
            (elim w.else-is_settled.branch [
              | else-is_settled-via-then-is_settled+else-is_settled-2 v ↦
                  right_fails literal gate (sym (rw (← c.gates-gates.ensures) at v.is_settled-then-is_settled.ensures) ∙ v.if-is_settled-2.false)
              | else-is_settled-via-else-is_settled v ↦ left_fails literal gate (sym left ∙ v.if-is_settled.false)
            ])
            _
            (w.next-is ∙ omega arith)
      ],
    )

pub returns : goal.returns
returns c = rw (← c.gates-gates.ensures) (gathers_all _ _ c.loop-k.invariant.1 c.loop-k-test.false)

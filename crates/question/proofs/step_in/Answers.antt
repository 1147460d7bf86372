-- `question::step_in` meets its contract: R(0) is asked for by the start list, R(i) above by the stored states. Assumes nothing.
use mathlib.Core.Path.{◌≡◌, sym, ◌∙◌}
use native.Mathlib.Nat.{pos_of_ne-zero}
use Rattle.question.proofs.Conditions.{step_start, step_stored}
use Rattle.question.proofs.step_in.Goals as goal
use Rattle.question.proofs.step_in.Goals.{then-i-eq0, else-i-eq0}

pub returns : goal.returns
returns c =
    elim c.if-i-eq0.branch [
      | then-i-eq0 w ↦
          let z : c.args.i ≡ 0 = w.if-i-eq0.true in
          rw z ((rw (w.within-is, z) at c.ask.ensures) ∙ sym (step_start _ _ _ _ _ _ _ _))
      | else-i-eq0 w ↦ (rw w.within-is at c.ask.ensures) ∙ sym (step_stored _ _ _ _ _ _ _ _ _ (pos_of_ne-zero w.if-i-eq0.false))
    ]

-- `clauses::put` meets its contract: within the store one place is set, and past its end nothing is. Assumes nothing.
use mathlib.Core.Path.{refl, sym, ◌∙◌}
use Rattle.text.proofs.Laying.{laid_one, laid_past}
use Rattle.aiger.proofs.clauses.put.Goals as goal
use Rattle.aiger.proofs.clauses.put.Goals.{then-at-store, else-at-store}

pub returns : goal.returns
returns c =
    record {
      content = elim c.if-at-store.branch [
        | then-at-store w ↦ w.store-is ∙ sym (laid_one _ _ _)
        | else-at-store w ↦ w.store-is ∙ sym (laid_past _ _ _ w.if-at-store.false)
      ];
      end = refl;
    }

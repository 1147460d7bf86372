-- `read::read_behind` meets its contract: by the counts of justice and fairness. Assumes nothing.
use native.Mathlib.Omega.{arith}
use Rattle.aiger.proofs.Telling.{read_justice, read_safety}
use Rattle.aiger.proofs.read.read_behind.Goals as goal

pub returns-then-h-ne0 : goal.returns-then-h-ne0
returns-then-h-ne0 c = read_justice _ _ _ (λ e. omega arith)

pub returns : goal.returns
returns c = read_safety _ _ _ c.if-h-ne0.false c.if-h-ne0-2.false c.read_parts.ensures

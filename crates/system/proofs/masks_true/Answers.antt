-- `system::masks_true` meets its contract: a 1 that `ones` wants makes them true, and without one the zeros decide. Assumes nothing.
use native.Mathlib.Omega.{arith}
use Rattle.system.proofs.Clauses.{clause_by_ones, clause_by_zeros}
use Rattle.system.proofs.masks_true.Goals as goal

pub returns-then-ones-word-ne0 : goal.returns-then-ones-word-ne0
returns-then-ones-word-ne0 c = clause_by_ones _ _ _ (omega arith) (omega arith) c.if-ones-word-ne0.true

pub returns : goal.returns
returns c = clause_by_zeros _ _ _ (omega arith) (omega arith) c.if-ones-word-ne0.false

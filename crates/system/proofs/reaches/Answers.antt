-- `system::reaches` meets its contract: up to position 63 the word is compared with the power, and from 64 on it has no bit. Assumes nothing.
use mathlib.Core.Path.{◌∙◌}
use native.Mathlib.Omega.{arith}
use Rattle.masks.proofs.OneBit.{pow_within}
use Rattle.system.proofs.Refusals.{reaches_not}
use Rattle.system.proofs.reaches.Goals as goal

pub returns-then-k-lt64 : goal.returns-then-k-lt64
returns-then-k-lt64 c = rw (c.power.ensures ∙ pow_within 64 _ (omega arith))

pub returns-else-k-lt64 : goal.returns-else-k-lt64
returns-else-k-lt64 c = reaches_not _ _ c.if-k-lt64.false c.requires (omega arith)

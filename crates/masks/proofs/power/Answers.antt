-- `masks::power` meets its contract. The shift is the power, kept to 64 bits; a power past them is a multiple of 2 ^ 64. Assumes nothing.
use mathlib.Core.Path.{sym}
use Rattle.masks.proofs.OneBit.{pow_past}
use Rattle.masks.proofs.power.Goals as goal

pub returns-else-i-lt64 : goal.returns-else-i-lt64
returns-else-i-lt64 c = sym (pow_past 64 _ c.if-i-lt64.false)

-- `masks::without` meets its contract: the complement of a number of 128 positions is that of its two words. Assumes nothing.
use native.Mathlib.Omega.{arith}
use Rattle.masks.proofs.Words.{without_words}
use Rattle.masks.proofs.without.Goals as goal

pub returns : goal.returns
returns c =
    let s = c.args in
    without_words s.a s.b (record { pair = omega arith; wires = omega arith }) (record { pair = omega arith; wires = omega arith })

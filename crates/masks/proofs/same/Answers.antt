-- `masks::same` meets its contract: the same number has the same two words. Assumes nothing.
use mathlib.Core.Path.{◌∙◌}
use native.Mathlib.Omega.{arith}
use Rattle.masks.proofs.Words.{same_lem}
use Rattle.masks.proofs.same.Goals as goal

pub returns : goal.returns
returns c =
    let s = c.args in
    c.eq.ensures ∙ same_lem s.a s.b (record { pair = omega arith; wires = omega arith }) (record { pair = omega arith; wires = omega arith })

-- `masks::is_single` meets its contract: one 1 alone is one of the pair or of the wires, and the other word has none. Assumes nothing.
use mathlib.Core.Path.{sym}
use mathlib.Core.Bool.{true≢false}
use native.Mathlib.Omega.{arith}
use Rattle.masks.proofs.Words.{one_first, one_second, one_neither}
use Rattle.masks.proofs.is_single.Goals as goal

pub returns-then-m-eq0 : goal.returns-then-m-eq0
returns-then-m-eq0 c =
    let m = c.args.m in
    let law = one_first m (record { pair = omega arith; wires = omega arith }) c.if-m-eq0.true in
    (λ e. law.0 (c.is_power.ensures.0 e), λ o. c.is_power.ensures.1 (law.1 o))

pub returns-then-m-ne0 : goal.returns-then-m-ne0
returns-then-m-ne0 c =
    let m = c.args.m in (
      λ e. absurd (true≢false (sym e)),
      λ o. absurd (one_neither m (record { pair = omega arith; wires = omega arith }) c.if-m-ne0.true c.if-m-eq0.false o),
    )

pub returns : goal.returns
returns c =
    let m = c.args.m in
    let law = one_second m (record { pair = omega arith; wires = omega arith }) c.if-m-ne0.false in
    (λ e. law.0 (c.is_power-2.ensures.0 e), λ o. c.is_power-2.ensures.1 (law.1 o))

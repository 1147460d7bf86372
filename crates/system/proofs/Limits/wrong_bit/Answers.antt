use mathlib.Core.Path.{sym, ap, ◌∙◌}
use native.Mathlib.Omega.{arith}
use Rattle.base.proofs.Lists.{rest_of}
use Rattle.system.specs.System.{wrong_bit}
use Rattle.system.proofs.Refusals.{bit_stops, bit_passes, bit_ends}
use Rattle.system.proofs.Limits.wrong_bit.Goals as goal

pub returns-then-wrong_clause : goal.returns-then-wrong_clause
returns-then-wrong_clause c =
    sym (c.loop-left.invariant
    ∙ bit_stops _ _ _ _ 0 c.in-len4-up.len_at_least (sym c.wrong_clause.ensures ∙ c.if-wrong_clause.true))

pub loop-left-preserved : goal.loop-left-preserved
loop-left-preserved c =
    c.loop-left.invariant
    ∙ (bit_passes _ _ _ _ 0 c.in-len4-up.len_at_least (sym c.wrong_clause.ensures ∙ c.if-wrong_clause.false)
    ∙ ap (λ l. wrong_bit c.args.self.low c.args.self.high c.args.self.wires l) (sym (rest_of 4 c.loop-left.left.now)))

pub returns : goal.returns
returns c = sym (c.loop-left.invariant ∙ bit_ends _ _ _ _ 0 (omega (arith, c.in_default.len_below)))

-- `question::trail::resolve` meets its contract: it tests what the definition tests. Assumes nothing.
use mathlib.Core.Path.{sym, ap, ◌∙◌}
use Prim.Native.Nat.{◌-◌, ◌^◌}
use lib.Bits.{bit_and}
use lib.Dec.{eqb}
use Rattle.masks.specs.Word.{width, word_of}
use Rattle.question.proofs.Resolution.{resolved_first, resolved_both}
use Rattle.question.proofs.trail.resolve.Goals as goal

pub returns-then-is_empty : goal.returns-then-is_empty
returns-then-is_empty c =
    sym (resolved_first width _ _ _ (ap (λ x. eqb x 0) (sym c.and.ensures) ∙ sym c.is_empty.ensures ∙ c.if-is_empty.true))

pub returns : goal.returns
returns c =
    let bit = c.args.bit in
    c.without.ensures ∙ ap (λ x. bit_and x (2 ^ width - 1 - word_of bit)) c.or.ensures
    ∙ sym (resolved_both width _ _ _ (ap (λ x. eqb x 0) (sym c.and.ensures) ∙ sym c.is_empty.ensures ∙ c.if-is_empty.false))

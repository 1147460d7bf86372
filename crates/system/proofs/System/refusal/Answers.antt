-- `System::refusal` meets its contract: the three tests are made in their order, and each return knows that the tests before it were false. Past the
-- first of them n is at most 32 and w at most 64, which the third asks for. Assumes nothing.
use mathlib.Core.Path.{sym, ◌∙◌}
use Rattle.system.specs.System.{refusal_of}
use Rattle.system.proofs.Refusals.{size_right}
use Rattle.system.proofs.System.refusal.Goals as goal

pub returns-then-wrong_size : goal.returns-then-wrong_size
unfolding refusal_of
returns-then-wrong_size c = rw (sym c.wrong_size.ensures ∙ c.if-wrong_size.true, refusal_of)

pub returns-then-wrong_counts : goal.returns-then-wrong_counts
unfolding refusal_of
returns-then-wrong_counts c =
    rw (
      sym c.wrong_size.ensures ∙ c.if-wrong_size.false,
      sym c.wrong_counts.ensures ∙ c.if-wrong_counts.true,
      refusal_of,
    )

pub wrong_bits-requires : goal.wrong_bits-requires
wrong_bits-requires c =
    let right = size_right _ _ (sym c.wrong_size.ensures ∙ c.if-wrong_size.false) in
    (right.1, right.2)

pub returns-then-wrong_bits : goal.returns-then-wrong_bits
unfolding refusal_of
returns-then-wrong_bits c =
    rw (
      sym c.wrong_size.ensures ∙ c.if-wrong_size.false,
      sym c.wrong_counts.ensures ∙ c.if-wrong_counts.false,
      sym c.wrong_bits.ensures ∙ c.if-wrong_bits.true,
      refusal_of,
    )

pub returns : goal.returns
unfolding refusal_of
returns c =
    rw (
      sym c.wrong_size.ensures ∙ c.if-wrong_size.false,
      sym c.wrong_counts.ensures ∙ c.if-wrong_counts.false,
      sym c.wrong_bits.ensures ∙ c.if-wrong_bits.false,
      refusal_of,
    )

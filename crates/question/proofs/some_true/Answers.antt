-- `question::some_true` meets its contract: a block of one state has an answer exactly if some setting of the wires makes the list true. Assumes nothing.
use mathlib.Core.Path.{◌∙◌}
use native.Mathlib.Nat.{mod-lt}
use lib.Pow.{pow_pos}
use Rattle.question.specs.Question.{answered}
use Rattle.question.proofs.Conditions.{is_found, some_asked}
use Rattle.question.proofs.some_true.Goals as goal

pub returns : goal.returns
returns c =
    let s = c.args.s in
    c.is_some.ensures ∙ is_found c.ask_block-answer.result
    ∙ some_asked _ _ _ _ (mod-lt s (pow_pos 32)) (answered c.ask_block-answer.result) c.ask_block-answer.ensures

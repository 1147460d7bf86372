use mathlib.Core.Path.{sym, ◌∙◌}
use native.Mathlib.Omega.{arith}
use borrow.Author.Tests.{ltb-false}
use Rattle.masks.specs.Word.{width}
use Rattle.masks.proofs.Words.{word_fits}
use Rattle.look.specs.Look.{setting}
use Rattle.question.specs.Reason.{open_of}
use Rattle.question.proofs.Walk.{walked_all}
use Rattle.question.proofs.Rest.{follows_fails, follows_least}
use Rattle.question.proofs.engine.Asked.least.Goals as goal

pub returns-in_default-settle : goal.returns-in_default-settle
returns-in_default-settle c = follows_fails c.in-Some.ensures c.in_default-settle.ensures

pub returns : goal.returns
returns c =
    follows_least c.in-Some.ensures
    (walked_all c.loop-before.invariant.0 (word_fits _ c.ranges.front.fits)
    (omega (
      arith,
      ltb-false 0 (open_of width c.args.front (setting c.loop-before.d.settled)) (sym c.is_open.ensures ∙ c.loop-before-test.false),
    )))

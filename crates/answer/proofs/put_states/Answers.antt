use native.Mathlib.Omega.{arith}
use lib.Seq.{take_all}
use Rattle.text.proofs.Laying.{writes_none, writes_length}
use Rattle.answer.specs.Answer.{state_lines}
use Rattle.answer.proofs.Lines.{line_end}
use Rattle.answer.proofs.Frames.{writes_state, states_more}
use borrow.Author.Rules.{rules}
use Rattle.answer.proofs.put_states.Goals as goal

pub loop-s-init : goal.loop-s-init
unfolding state_lines
loop-s-init c = (search rules, writes_none _ _)

pub loop-s-preserved : goal.loop-s-preserved
loop-s-preserved c =
    let l = c.loop-s in (
      omega (arith, l.invariant.0, line_end _ c.put_line-next.ensures),
      states_more _ _ _ c.loop-s-test.true l.invariant.1
          (writes_state _ _ c.byte_of.ensures c.byte_of-in-loop-s.ensures c.byte_of-in-loop-s-2.ensures
          c.byte_of-in-loop-s-3.ensures c.put_line-next.ensures),
    )

pub shape_of-out : goal.shape_of-out
shape_of-out c = writes_length c.loop-s.invariant.1

pub returns : goal.returns
returns c = rw (take_all c.loop-s.s-index c.args.states.now (omega arith)) at c.loop-s.invariant.1

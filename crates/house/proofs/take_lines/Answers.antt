use Prim.Native.Nat.{◌+◌}
use mathlib.Core.Path.{◌≡◌}
use native.Mathlib.Omega.{arith}
use lib.ListN.{drop}
use Rattle.text.specs.Lines.{line_length}
use Rattle.text.proofs.Lines.{line_at}
use borrow.Author.Rules.{rules}
use Rattle.house.proofs.Entering.{same_refl}
use Rattle.house.proofs.Taking.{stands_first, turned_on, turned_refused, ended, stopped, same_then}
use Rattle.house.proofs.take_lines.Goals as goal
use Rattle.house.proofs.take_lines.Goals.{After-next_line-r}

-- the reader's place behind the line
place : (c : After-next_line-r) → c.next_line-r.result.at ≡ c.loop-r.r.at + line_length (drop c.loop-r.r.at c.args.text.now)
place c = rw (c.next_line-r.ensures, c.loop-r.invariant.text)

pub loop-r-init : goal.loop-r-init
loop-r-init c = record { text = rw c.new-r.ensures; kept = search rules; same = same_refl _; stands = rw c.new-r.ensures (stands_first _ _ c.requires) }

pub slice_bounds-take_line-end : goal.slice_bounds-take_line-end
slice_bounds-take_line-end c =
    let line = line_at c.args.text.now c.loop-r.r.at c.loop-r-test.true in
    omega (arith, place c, line.within)

pub returns-in-Err-clause-lists : goal.returns-in-Err-clause-lists
returns-in-Err-clause-lists c =
    turned_refused c.loop-r.invariant.stands c.loop-r-test.true (place (goal.at.returns-in-Err-clause-lists c).After-next_line-r) _ c.loop-r.invariant.same
    c.in-Err.ensures.lists

pub loop-r-smaller : goal.loop-r-smaller
loop-r-smaller c =
    let line = line_at c.args.text.now c.loop-r.r.at c.loop-r-test.true in
    omega (arith, place (goal.at.loop-r-smaller c).After-next_line-r, line.filled, line.within)

pub loop-r-preserved : goal.loop-r-preserved
loop-r-preserved c =
    record {
      text = rw c.next_line-r.ensures c.loop-r.invariant.text;
      kept = search rules;
      same = same_then _ _ _ c.loop-r.invariant.same c.in-Ok.ensures.lists.same;
      stands = turned_on c.loop-r.invariant.stands c.loop-r-test.true (place (goal.at.loop-r-preserved c).After-next_line-r) c.in-Ok.ensures.lists;
    }

pub returns-then-reading-ne16-clause-lists : goal.returns-then-reading-ne16-clause-lists
returns-then-reading-ne16-clause-lists c = stopped c.loop-r.invariant.stands _ c.loop-r-test.false c.loop-r.invariant.same c.if-reading-ne16.true

pub returns-clause-lists : goal.returns-clause-lists
returns-clause-lists c = ended c.loop-r.invariant.stands _ c.loop-r-test.false c.loop-r.invariant.same c.if-reading-ne16.false

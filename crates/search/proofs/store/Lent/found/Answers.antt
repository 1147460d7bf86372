-- `Lent::found` meets its contract: the state is written at the index of its level. Assumes nothing.
use mathlib.Core.Path.{◌≡◌, ◌∙◌}
use native.Mathlib.Omega.{arith}
use Rattle.search.proofs.Duties.{found_first, found_duty}
use Rattle.search.proofs.store.Lent.found.Goals as goal

pub returns-then-c-eq0-clause-moves : goal.returns-then-c-eq0-clause-moves
returns-then-c-eq0-clause-moves c =
    let w : c.wide.result ≡ 0 = c.wide.ensures ∙ c.if-c-eq0.true in
    let s = c.args.self.now in
    rw (w, c.if-c-eq0.true) (found_first _ s.states.now s.levels.now s.path.now c.args.s (omega arith))

pub returns-clause-moves : goal.returns-clause-moves
returns-clause-moves c =
    let s = c.args.self.now in
    rw (c.wide.ensures, c.at.ensures) (found_duty _ s.states.now s.levels.now s.path.now _ c.args.s c.if-c-eq0.false c.requires)

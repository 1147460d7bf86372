-- `Lent::deeper` meets its contract: the state is written at the index of its level, or in front of all. Assumes nothing.
use mathlib.Core.Path.{◌≡◌, ◌∙◌}
use Rattle.search.proofs.Duties.{deeper_path, deeper_duty}
use Rattle.search.proofs.store.Lent.deeper.Goals as goal

pub returns-then-k-eq0-clause-moves : goal.returns-then-k-eq0-clause-moves
returns-then-k-eq0-clause-moves c =
    let z : c.args.k ≡ 0 = c.if-k-eq0.true in
    let w : c.wide.result ≡ 0 = c.wide.ensures ∙ z in
    let s = c.args.self.now in
    rw (w, c.wide-then-k-eq0.ensures, z) (deeper_path _ s.states.now s.levels.now s.path.now _ c.args.t (rw z at c.requires))

pub returns-clause-moves : goal.returns-clause-moves
returns-clause-moves c =
    let s = c.args.self.now in
    rw (c.wide.ensures, c.at.ensures) (deeper_duty _ s.states.now s.levels.now s.path.now _ _ c.args.t c.if-k-eq0.false c.requires)

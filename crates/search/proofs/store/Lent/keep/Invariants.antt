-- `Lent::keep` meets its contract. The loop's invariant is `Fronted`: the states kept so far with those still to be kept are all that are
-- to be kept, and from j on nothing is changed. Assumes nothing.
use mathlib.Core.Path.{◌≡◌}
use Rattle.search.specs.Inner.{SameSlices}
use Rattle.search.proofs.Fronts.{Fronted}
use Rattle.search.proofs.store.Lent.keep.Given as goal

abbrev pub invariant-loop-j : goal.invariant-loop-j
invariant-loop-j l =
    let s = l.initial.self in
    record {
      fronted : Fronted l.count l.i s.states.now s.levels.now l.self.states.now l.kept l.j;
      levels : l.self.levels.now ≡ s.levels.now;
      path : l.self.path.now ≡ s.path.now;
      slices : SameSlices s l.self;
    }

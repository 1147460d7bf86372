use native.Mathlib.Omega.{arith}
use borrow.Author.Rules.{rules}
use lib.ListN.{length-set}
use Rattle.search.proofs.Fronts.{fronted_none, fronted_kept, fronted_passed, fronted_all}
use Rattle.search.proofs.store.Lent.keep.Goals as goal
use Rattle.search.proofs.store.Lent.keep.Goals.{then-i-self, else-i-self}

pub loop-j-init : goal.loop-j-init
loop-j-init c = record { fronted = fronted_none _ _ _ _; levels = search rules; path = search rules; slices = search rules }

pub loop-j-preserved : goal.loop-j-preserved
loop-j-preserved c =
    let v = c.loop-j.invariant in
    let h = c.loop-j-test.true in
    elim c.if-i-self.branch [
      | then-i-self w ↦
          rw (w.self-is, w.kept-is)
          (record {
            fronted = fronted_kept _ _ _ _ _ _ _ v.fronted h c.requires.within (rw v.levels at w.if-i-self.true);
            levels = v.levels;
            path = v.path;
            slices = record {
              states = v.slices.states;
              levels = v.slices.levels;
              path = v.slices.path;
              states_length = simp length-set v.slices.states_length;
              levels_length = v.slices.levels_length;
              path_length = v.slices.path_length;
            };
          })
      | else-i-self w ↦
          rw (w.self-is, w.kept-is)
          (record {
            fronted = fronted_passed _ _ _ _ _ _ _ v.fronted h (rw v.levels at w.if-i-self.false);
            levels = v.levels;
            path = v.path;
            slices = v.slices;
          })
    ]

pub returns-clause-front : goal.returns-clause-front
returns-clause-front c =
    let v = c.loop-j.invariant.fronted in
    record { front = fronted_all _ _ _ _ _ _ _ v (omega arith); few = omega (arith, v) }

-- `aiger::enter` meets its contract: each list is entered by its rows. Assumes nothing.
use mathlib.Core.Path.{refl}
use Rattle.aiger.proofs.Threes.{flat_take, flat_drop}
use Rattle.aiger.proofs.enter.Goals as goal

pub returns : goal.returns
returns c =
    let of = c.requires in
    record {
      sizes = (refl, refl);
      start = rw (flat_take, of.latches) at c.enter_start-i.ensures;
      step = λ literals k. rw (flat_take, flat_drop, of.latches, of.gates) at (c.enter_step-t.ensures literals k);
      bad = λ literals k. rw (flat_drop, of.latches, of.gates) at (c.enter_bad-b.ensures literals k);
    }

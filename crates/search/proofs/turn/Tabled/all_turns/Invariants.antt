-- `Tabled::all_turns` meets its contract. The loop's invariant is `Running`: the rest of the run is the run that was begun. Assumes nothing.
use Prim.Native.Nat.{◌-◌}
use lib.ListN.{length}
use Rattle.ic3.specs.Search.{search_from}
use Rattle.system.specs.System.{model}
use Rattle.system.specs.Lent.{system_in}
use Rattle.call.specs.Call.{rounds}
use Rattle.search.specs.Lent.{stores_of, config_of}
use Rattle.search.specs.Inner.{SameSlices}
use Rattle.search.proofs.Turns.{Running}
use Rattle.search.proofs.turn.Tabled.all_turns.Given as goal

abbrev pub invariant-loop-before : goal.invariant-loop-before
invariant-loop-before l =
    let y = system_in l.self.system in
    let s₀ = stores_of l.initial.lent in
    record {
      running : Running y l.allowance s₀
          (search_from rounds (l.allowance - l.asked) (model y) (length s₀.states) (config_of l.initial.c s₀) l.asked)
          l.c l.before (stores_of l.lent);
      slices : SameSlices l.initial.lent l.lent;
    }

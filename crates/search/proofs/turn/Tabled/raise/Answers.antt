-- `Tabled::raise` meets its contract: if a state is found, the levels stay as they are; else the entry's level is raised. Either way the
-- round goes on behind the entry. Assumes nothing.
use native.Mathlib.Omega.{arith}
use lib.ListN.{length-set}
use Rattle.system.specs.Lent.{system_in}
use Rattle.search.proofs.Taken.{moves_to}
use Rattle.search.proofs.Raising.{entry_level, raised_tidy, raise_not, raise_up}
use Rattle.search.proofs.turn.Tabled.raise.Goals as goal
use Rattle.search.proofs.turn.Tabled.raise.Goals.{in-None, in_default}

pub tested-requires : goal.tested-requires
tested-requires c =
    elim c.match-step_state.branch [
      | in-None w ↦
          rw w.lent-is
          (record {
            walks = record { within = simp length-set (omega arith); from = omega arith };
            above = entry_level c.requires;
            below = omega arith;
          })
      | in_default w ↦
          rw w.lent-is
          (record {
            walks = record { within = omega arith; from = omega arith };
            above = entry_level c.requires;
            below = omega arith;
          })
    ]

pub returns-clause-moves : goal.returns-clause-moves
returns-clause-moves c =
    let y = system_in c.args.self.now.system in
    let e = c.step_state.ensures in
    elim c.match-step_state.branch [
      | in-None w ↦
          moves_to (rw w.lent-is (raise_up y _ _ _ _ _ _ c.requires _ (rw w.in-None.is at e)))
          (c.tested.ensures (rw w.lent-is (raised_tidy c.requires)))
      | in_default w ↦
          moves_to (rw w.lent-is (raise_not y _ _ _ _ _ _ c.requires _ _ (rw w.in_default.is at e)))
          (c.tested.ensures (rw w.lent-is c.requires.asks.tidy))
    ]

-- `Region::scan_states` meets its contract. Whatever `clause` says of an entry's clause, the store says; where it says nothing the loop goes on. Assumes
-- nothing.
use mathlib.Core.Path.{sym, ◌∙◌}
use native.Mathlib.Omega.{arith}
use Rattle.masks.proofs.Words.{first_word}
use Rattle.look.proofs.States.{entry_scanned, state_settled}
use Rattle.look.proofs.Region.scan_states.Goals as goal

pub scan_state-requires : goal.scan_state-requires
scan_state-requires c =
    let bits = c.args.s.bits in
    state_settled bits.pair _ (omega arith) (first_word bits) c.if-open-eq0.true

pub returns-in_default : goal.returns-in_default
returns-in_default c =
    let a = c.args in
    entry_scanned a.self.now.i a.self.now.within.now a.self.now.levels.now _ (omega arith)
    (sym c.at_level.ensures ∙ c.if-at_level.true) c.if-state-lt-HALF.true
    a.s c.clause-look.result c.clause-look.ensures

-- `Region::scan_state` meets its contract: what fails at an excluded state fails for the state's bits. Assumes nothing.
use mathlib.Core.Path.{refl, sym, ap, ◌∙◌}
use Prim.Native.Nat.{◌-◌, ◌^◌}
use native.Mathlib.Omega.{arith}
use Rattle.masks.proofs.Words.{no_wire, low_half}
use Rattle.look.specs.Excluded.{excluded}
use Rattle.look.specs.Look.{setting}
use Rattle.look.proofs.States.{excluded_reason}
use Rattle.look.proofs.Region.scan_state.Goals as goal

pub returns-then-is_excluded : goal.returns-then-is_excluded
returns-then-is_excluded c =
    let a = c.args in
    rw (no_wire (record { pair = 2 ^ 32 - 1; wires = 0 }) (omega arith) refl)
    (excluded_reason a.self.now.i a.self.now.within.now a.self.now.levels.now (setting a.s) c.requires
    (ap (excluded a.self.now.i a.self.now.within.now a.self.now.levels.now) (low_half a.s.values)
    ∙ sym c.is_excluded.ensures ∙ c.if-is_excluded.true))

-- A system and a clause as code has them, and what they are: with lists that are lent, and masks of two words.
use Rattle.std.specs.Prelude.{ℕ}
use Rattle.system.specs.System.{system_of}
use Rattle.system.specs.System as specs
use Rattle.system.specs.declared.System.{System}
use Rattle.system.specs.declared.Clause.{Clause}

abbrev pub system_in : System → specs.System
system_in y = system_of y.n y.w y.start.now y.step.now y.bad.now

abbrev pub clause_by : ℕ → ℕ → ℕ → ℕ → Clause
clause_by ones zeros wire_ones wire_zeros =
    record { ones = record { pair = ones; wires = wire_ones }; zeros = record { pair = zeros; wires = wire_zeros } }

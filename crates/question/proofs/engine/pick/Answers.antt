-- `question::engine::pick` meets its contract: a wire that is not settled is open, and so is a bit of the pair; if all of the pair is settled, some wire
-- is not. Assumes nothing.
use Prim.Native.Nat.{◌-◌, ◌^◌}
use native.Mathlib.Omega.{arith}
use Rattle.masks.proofs.Operations.{meet, flip}
use Rattle.look.specs.Look.{setting}
use Rattle.question.proofs.Wide.{wire_open, pair_open}
use Rattle.question.proofs.engine.pick.Goals as goal

pub returns-then-near-ne0 : goal.returns-then-near-ne0
returns-then-near-ne0 c =
    let bits = c.args.s.bits in
    wire_open bits (setting c.args.s).values c.lowest_wire.ensures
    (λ j l. omega (arith, meet c.args.first (2 ^ 64 - 1 - bits.wires) j, flip 64 bits.wires j (omega arith) l))

pub top_open-requires : goal.top_open-requires
top_open-requires c =
    pair_open c.args.s.bits (setting c.args.s).values (omega arith) c.if-bits.true

pub returns : goal.returns
returns c =
    let bits = c.args.s.bits in
    wire_open bits (setting c.args.s).values c.lowest_wire-2.ensures (λ j l. omega (arith, flip 64 bits.wires j (omega arith) l))

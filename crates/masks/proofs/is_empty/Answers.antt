-- `masks::is_empty` meets its contract: neither word has a position. Assumes nothing.
use native.Mathlib.Omega.{arith}
use Rattle.masks.proofs.Words.{no_words}
use Rattle.masks.proofs.is_empty.Goals as goal

pub returns : goal.returns
returns c = no_words c.args.m (record { pair = omega arith; wires = omega arith })

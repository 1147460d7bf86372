-- `look::low_part` meets its contract: the low half of the pair is that of the word. Assumes nothing.
use mathlib.Core.Path.{refl, sym, ◌∙◌}
use native.Mathlib.Omega.{arith}
use Rattle.masks.proofs.Words.{no_wire, low_half}
use Rattle.look.proofs.low_part.Goals as goal

pub returns : goal.returns
returns c = no_wire _ (omega arith) refl ∙ sym (low_half c.args.m)

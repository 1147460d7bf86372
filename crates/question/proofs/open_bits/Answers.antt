-- `question::open_bits` meets its contract. Assumes nothing.
use Rattle.question.proofs.Blocks.{next_block}
use Rattle.question.proofs.open_bits.Goals as goal

pub returns : goal.returns
returns c = next_block c.requires (cc)

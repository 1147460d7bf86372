use Rattle.house.proofs.Reading.{reads_lent}
use Rattle.house.proofs.read.Goals as goal
use borrow.Author.Rules.{rules}

pub returns : goal.returns
returns c = reads_lent _ _ _ _ _ _ c.read_into.new.into (search rules) (search rules) (search rules) c.read_into.ensures.lists

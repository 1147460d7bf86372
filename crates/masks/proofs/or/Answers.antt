-- `masks::or` meets its contract: word by word is position by position. Assumes nothing.
use Rattle.masks.proofs.Words.{or_words}
use Rattle.masks.proofs.or.Goals as goal

pub returns : goal.returns
returns c =
    let s = c.args in
    or_words s.a s.b

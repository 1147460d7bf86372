-- `masks::and` meets its contract: word by word is position by position. Assumes nothing.
use Rattle.masks.proofs.Words.{and_words}
use Rattle.masks.proofs.and.Goals as goal

pub returns : goal.returns
returns c =
    let s = c.args in
    and_words s.a s.b

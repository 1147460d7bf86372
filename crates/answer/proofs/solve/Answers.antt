-- `answer::solve` meets its contract: the search promises the call, and its outcome is what is written. Assumes nothing.
use Rattle.answer.specs.Answer.{scan_stores}
use Rattle.answer.proofs.Outcomes.{levels_apart}
use Rattle.answer.proofs.solve.Goals as goal

pub returns : goal.returns
unfolding scan_stores
returns c =
    let s = c.search-outcome in
    rw (levels_apart s.result s.new.states s.new.path _ _ s.ensures.equation) c.put_outcome.ensures

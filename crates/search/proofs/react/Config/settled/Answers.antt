-- `Config::settled` meets its contract: below N the duty one level above comes first of the open duties, and at N there is none. Assumes
-- nothing.
use Rattle.search.proofs.Keeping.{settled_more, settled_last}
use Rattle.search.proofs.react.Config.settled.Goals as goal

pub returns-then-k-self : goal.returns-then-k-self
returns-then-k-self c = λ s. rw c.at.ensures (settled_more _ _ _ s c.if-k-self.true)

pub returns : goal.returns
returns c = λ s. rw c.at-2.ensures (settled_last _ _ _ s c.if-k-self.false)

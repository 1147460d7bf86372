-- `aiger::header_refusal` meets its contract: the tests are made in their order, and each return knows that those before it were false. Assumes
-- nothing.
use Rattle.std.proofs.Common.{rules}
use Rattle.aiger.specs.Inner.{header_refusal}
use Rattle.aiger.proofs.header_refusal.Goals as goal
use Rattle.aiger.proofs.header_refusal.Goals.{then-h-eq0-via-then-h-eq0, then-h-eq0-via-else-h-eq0+then-h-gt32}

pub returns-then-h-eq0 : goal.returns-then-h-eq0
unfolding header_refusal
returns-then-h-eq0 c =
    elim c.then-h-eq0.branch [ then-h-eq0-via-then-h-eq0 w ↦ search rules | then-h-eq0-via-else-h-eq0+then-h-gt32 w ↦ search rules ]

pub returns-then-h-gt64 : goal.returns-then-h-gt64
unfolding header_refusal
returns-then-h-gt64 c = search rules

pub returns : goal.returns
unfolding header_refusal
returns c = search rules

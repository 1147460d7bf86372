-- `read::Edition::most_counts` meets its contract. Assumes nothing.
use Rattle.std.proofs.Common.{rules}
use Rattle.aiger.specs.Text.{most_counts}
use Rattle.aiger.proofs.read.Edition.most_counts.Goals as goal

pub returns-in-First : goal.returns-in-First
unfolding most_counts
returns-in-First c = search rules

pub returns-in-Newer : goal.returns-in-Newer
unfolding most_counts
returns-in-Newer c = search rules

-- `read::head_of` meets its contract: behind the first bytes stand the numbers, which are the counts. Assumes nothing.
use Rattle.std.specs.Prelude.{Some, None}
use Rattle.std.proofs.lemmas.Bool.Decides.{Decides-eqb}
use Rattle.std.proofs.lemmas.Slice.Eq.{strip_prefix_is}
use Rattle.aiger.specs.Text.{magic}
use Rattle.aiger.proofs.Telling.{head_none, head_other, head_few, head_many, head_right}
use Rattle.aiger.proofs.read.head_of.Goals as goal
use Rattle.aiger.proofs.read.head_of.Goals.{then-count-lt5-via-then-count-lt5, then-count-lt5-via-else-count-lt5+then-most_counts-count}

pub returns-in_err-behind : goal.returns-in_err-behind
returns-in_err-behind c =
    rw c.from_residual.ensures (head_none _ _ (strip_prefix_is Decides-eqb c.args.line.now magic None c.in_err-behind.ensures.cases))

pub returns-in_err-count : goal.returns-in_err-count
returns-in_err-count c =
    rw c.from_residual-in_err-count.ensures
    (head_other _ _ _ (strip_prefix_is Decides-eqb c.args.line.now magic (Some c.in_ok-behind.behind) c.in_ok-behind.ensures.cases) c.in_err-count.ensures)

pub returns-then-count-lt5 : goal.returns-then-count-lt5
returns-then-count-lt5 c =
    let started = strip_prefix_is Decides-eqb c.args.line.now magic (Some c.in_ok-behind.behind) c.in_ok-behind.ensures.cases in
    elim c.then-count-lt5.branch [
      | then-count-lt5-via-then-count-lt5 w ↦ head_few _ _ _ started c.in_ok-count.ensures w.if-count-lt5.true
      | then-count-lt5-via-else-count-lt5+then-most_counts-count w ↦
          head_many _ _ _ started c.in_ok-count.ensures (rw w.most_counts.ensures at w.if-most_counts-count.true)
    ]

pub returns : goal.returns
returns c =
    let started = strip_prefix_is Decides-eqb c.args.line.now magic (Some c.in_ok-behind.behind) c.in_ok-behind.ensures.cases in
    rw c.is_newer.ensures
    (head_right _ _ _ started c.in_ok-count.ensures c.if-count-lt5.false (rw c.most_counts.ensures at c.if-most_counts-count.false))

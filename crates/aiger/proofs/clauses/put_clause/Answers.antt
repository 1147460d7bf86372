-- `aiger::put_clause` meets its contract: its four masks, one behind the other. Assumes nothing.
use Rattle.text.proofs.Laying.{writes_then}
use Rattle.circuit.specs.Import.{flat}
use Rattle.aiger.proofs.clauses.put_clause.Goals as goal

pub returns : goal.returns
unfolding flat
returns c =
    writes_then (writes_then (writes_then c.put-next.ensures c.put-next-2.ensures) c.put-next-3.ensures) c.put.ensures

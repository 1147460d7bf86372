-- `find::is_settled` meets its contract: a variable has a row exactly if it is a gate's, and then its bit decides. Assumes nothing.
use mathlib.Core.Bool.{true}
use mathlib.Core.Path.{sym, ap}
use lib.ListN.{length}
use native.Mathlib.Omega.{arith}
use Rattle.masks.specs.Bit.{bit}
use Rattle.circuit.proofs.Values.{among_in, among_out}
use Rattle.aiger.proofs.Slices.{few_gates}
use Rattle.aiger.proofs.Threes.{found_some, found_none}
use Rattle.aiger.proofs.find.is_settled.Goals as goal

pub overflow_shr-result : goal.overflow_shr-result
overflow_shr-result c =
    let f = found_some _ c.args.v c.in-Some.k (sym c.in-Some.ensures) in
    omega (arith, f.2, ap length c.gates.ensures, few_gates c.args.rows.fits)

pub returns-in-Some : goal.returns-in-Some
unfolding bit
returns-in-Some c =
    let f = found_some _ _ _ (sym c.in-Some.ensures) in
    rw (← c.gates.ensures, f.1) (sym (among_in _ _ true _ f.0))

pub returns-in-None : goal.returns-in-None
returns-in-None c = rw (← c.gates.ensures) (sym (among_out _ _ true _ (found_none _ _ (sym c.in-None.ensures))))

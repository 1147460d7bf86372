-- With no wires all old answers stay: a call is what it is by the system's refusal and its model, and both stay. Assumes nothing.
use Prim.Native.Nat.{ℕ, zero, suc}
use mathlib.Core.List.{[]}
use mathlib.Core.Path.{◌≡◌, ap₂}
use lib.ListN.{length}
use Rattle.base.specs.Refusals.{◌if◌, ◌else◌}
use Rattle.ic3.specs.Model.{Model}
use Rattle.ic3.specs.Search.{searched}
use Rattle.system.specs.Plain.{Plain, widened}
use Rattle.system.proofs.Plain.{plain_model_lem, plain_refusal_lem}
use Rattle.call.specs.Call.{Stores, wrong_stores, refused, refuses, Result, result, ended, rounds, called}
use Rattle.call.specs.Plain.{plain_called}

pub old_answers : (y : Plain) (s : Stores) (allowance : ℕ) → called (widened y) s allowance ≡ plain_called y s allowance
unfolding called refused plain_called
old_answers y s allowance = ap₂ call (plain_refusal_lem y) (plain_model_lem y)
  where
    call : ℕ → Model → Result
    call refusal M =
        elim (refusal else 4 if wrong_stores s) [
          | zero ↦ (let e = searched rounds M (length s.states) allowance in ended s e.questions e.verdict)
          | suc r ↦ result (suc r) refuses 0 [] s
        ]

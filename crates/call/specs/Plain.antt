-- The call of a system as it was before there were wires, word for word.
use Rattle.std.specs.Prelude.{ℕ, zero, suc, [], length}
use Rattle.base.specs.Refusals.{◌if◌, ◌else◌}
use Rattle.ic3.specs.Search.{searched}
use Rattle.system.specs.Plain.{Plain, plain_model, plain_refusal}
use Rattle.call.specs.Call.{Stores, wrong_stores, refuses, Result, result, ended, rounds}

unfoldable pub plain_called : Plain → Stores → ℕ → Result
plain_called y s allowance =
    elim (plain_refusal y else 4 if wrong_stores s) [
      | zero ↦ (let e = searched rounds (plain_model y) (length s.states) allowance in ended s e.questions e.verdict)
      | suc r ↦ result (suc r) refuses 0 [] s
    ]

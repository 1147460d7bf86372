-- The theorems for callers of an import: its refusals by counts alone, and that the system of a circuit that is not refused has the circuit's own
-- start states, steps and bad states, so that what is shown of the system holds of the circuit, and the system's paths are the circuit's runs. Assumes
-- nothing.
use Prim.Native.Nat.{ℕ, ◌+◌, ◌*◌}
use mathlib.Core.Path.{◌≡◌}
use mathlib.Core.Logic.{◌↔◌}
use mathlib.Core.Bool.{Bool, ◌||◌}
use mathlib.Core.List.{List}
use lib.Dec.{ltb}
use lib.ListN.{length}
use Rattle.base.specs.Refusals.{◌if◌, ◌else◌, most_clauses}
use Rattle.base.proofs.Refusals.{else_none}
use Rattle.ic3.specs.Demands.{IsPath, Doomed, Number}
use Rattle.system.specs.System.{model, refusal_of}
use Rattle.circuit.specs.Circuit.{Circuit, meaning}
use Rattle.circuit.specs.Runs.{Runs}
use Rattle.circuit.specs.Refusals.{Accepted, circuit_refusal}
use Rattle.circuit.specs.Import.{imported, import_refusal}
use Rattle.circuit.specs.Agree.{Agree}
use Rattle.circuit.proofs.Refusals.{accepted}
use Rattle.circuit.proofs.Import.{same_size, same_start, same_step, same_bad}
use Rattle.circuit.proofs.Sentences.{fixed, lengths}
use Rattle.circuit.proofs.Own.{own_refusal}
use Rattle.circuit.proofs.Models.{agree_sym, path_agree, number_agree}
use Rattle.circuit.proofs.Runs.{paths_are_runs}

-- ---- circuits
module _ (c : Circuit) (A : Accepted c) where
  pub import_agrees : Agree (model (imported c)) (meaning c)
  import_agrees =
      record {
        size = same_size c A;
        start = λ s h. same_start c A s;
        step = λ s t h l. same_step c A s t (rw (← same_size c A) h) (rw (← same_size c A) l);
        bad = λ s h. same_bad c A s;
      }

  -- for demand 3: the number m may be the circuit's
  pub system_number : (m : ℕ) → Number (Doomed (meaning c)) m → Number (Doomed (model (imported c))) m
  system_number = number_agree (meaning c) (model (imported c)) (agree_sym import_agrees)

-- ---- the refusals of an import, by counts alone
-- clauses in each list: one a latch with a fixed start value; two a latch, three a gate and one a constraint; one, three a gate and one a constraint
abbrev pub starting : Circuit → ℕ
starting c = fixed c.latches

abbrev pub stepping : Circuit → ℕ
stepping c = 2 * length c.latches + (3 * length c.gates + length c.constraints)

abbrev pub watching : Circuit → ℕ
watching c = 1 + (3 * length c.gates + length c.constraints)

module _ (m : ℕ) (c : Circuit) (a b d : ℕ) where
  abbrev short : Bool
  short = ltb a (length (imported c).start) || (ltb b (length (imported c).step) || ltb d (length (imported c).bad))

  -- a circuit that is not refused: a store too short, or a step list too long
  pub import_counts : circuit_refusal m c ≡ 0
      → import_refusal m c a b d
      ≡ 32 if ltb a (4 * starting c) || (ltb b (4 * stepping c) || ltb d (4 * watching c)) else 2 if ltb most_clauses (stepping c)
  unfolding import_refusal
  import_counts e = rw (e, (lengths c).0, (lengths c).1, (lengths c).2, own_refusal c (accepted m c e))

  -- where none is given the circuit is not refused, and the system is not
  pub import_none : import_refusal m c a b d ≡ 0 → Accepted c × (refusal_of (imported c) ≡ 0)
  unfolding import_refusal
  import_none e =
      let first = else_none (circuit_refusal m c) (32 if short else refusal_of (imported c)) e in
      (accepted m c first.0, (else_none (32 if short) (refusal_of (imported c)) first.1).1)

  -- "The imported system must have the circuit's own start states, steps and bad states."
  pub import_right : import_refusal m c a b d ≡ 0 → Agree (model (imported c)) (meaning c)
  import_right e = import_agrees c (import_none e).0

  -- a path of the system is a run of the circuit with inputs, and the other way round
  pub import_paths : import_refusal m c a b d ≡ 0 → (path : List ℕ) → IsPath (model (imported c)) path ↔ Runs c path
  import_paths e path =
      let A = import_right e in (
        λ p. (paths_are_runs c path).0 (path_agree (model (imported c)) (meaning c) A path p),
        λ r. path_agree (meaning c) (model (imported c)) (agree_sym A) path ((paths_are_runs c path).1 r),
      )

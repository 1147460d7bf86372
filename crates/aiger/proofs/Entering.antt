-- A list that was written from the first place on, with zeros behind it, is entered. Then how many masks latches and gates have, and how many latches
-- have a start clause. Assumes nothing.
use Prim.Native.Nat.{ℕ, ◌+◌, ◌-◌, ◌*◌, ◌≤◌}
use mathlib.Core.List.{List, [], ◌∷◌, ◌++◌}
use mathlib.Core.Path.{◌≡◌, refl, ap, ◌∙◌}
use native.Mathlib.Omega.{arith}
use lib.ListN.{length, take, replicate}
use Rattle.text.specs.Writing.{laid, Writes}
use Rattle.text.proofs.Laying.{laid_length}
use Rattle.stores.specs.Over.{over}
use Rattle.circuit.specs.Circuit.{Gate}
use Rattle.circuit.specs.Import.{Place, start_clauses, latch_clauses, gate_clauses, flat}
use Rattle.circuit.proofs.Sentences as sentences
use Rattle.circuit.proofs.Sentences.{fixed, start_length, latch_length}
use Rattle.aiger.specs.Text.{latches_of, gates_of}
use Rattle.aiger.specs.Inner.{flattened, start_list, Entered}
use Rattle.aiger.specs.declared.table.Row.{Row}
use Rattle.aiger.proofs.Threes.{flat_length, latches_many, gates_many}

laid_front : (w buffer : List ℕ) → length w ≤ length buffer → take (length w) (laid 0 w buffer) ≡ w
unfolding laid
laid_front [] buffer h = refl
laid_front (x ∷ w) [] h = absurd (omega arith)
laid_front (x ∷ w) (b ∷ buffer) h = ap {B = List ℕ} (λ l. x ∷ l) (laid_front w buffer (omega arith))

pub enters : {list before : List ℕ} {r : ℕ} {mid after : List ℕ} → Writes 0 list before r mid → after ≡ take r mid ++ replicate (length mid - r) 0
    → Entered list before r after
unfolding over
enters {list} {before} {r} {mid} {after} w e =
    let end : r ≡ length list = omega (arith, w.end) in
    let same : length mid ≡ length before = ap length w.content ∙ laid_length 0 list before in
    record { end = end; content = λ h. e ∙ rw (same, end, w.content, laid_front list before h) }

-- two clauses a latch are eight masks a row
pub latches_end : (place : ℕ → Place) (latches : List Row) (before : List ℕ) (r : ℕ) (after : List ℕ)
    → Writes 0 (flat (latch_clauses place 0 (latches_of (flattened latches)))) before r after → r ≡ 8 * length latches
latches_end place latches before r after w =
    let ls = latches_of (flattened latches) in
    omega (
      arith,
      w.end,
      sentences.flat_length (latch_clauses place 0 ls),
      latch_length place 0 ls,
      latches_many (flattened latches),
      flat_length latches,
    )

-- three clauses a gate are twelve masks a row
gate_length : (place : ℕ → Place) (gs : List Gate) → length (flat (gate_clauses place gs)) ≡ 12 * length gs
unfolding gate_clauses flat
gate_length place [] = refl
gate_length place (g ∷ gs) = omega (arith, gate_length place gs)

pub gates_end : (place : ℕ → Place) (gates : List Row) (from : ℕ) (before : List ℕ) (r : ℕ) (after : List ℕ)
    → Writes from (flat (gate_clauses place (gates_of (flattened gates)))) before r after → r ≡ from + 12 * length gates
gates_end place gates from before r after w =
    let gs = gates_of (flattened gates) in
    omega (arith, w.end, gate_length place gs, gates_many (flattened gates), flat_length gates)

-- ---- latches with a fixed start value
pub starts_many : (latches : List ℕ) → length (start_list latches) ≡ 4 * fixed (latches_of latches)
unfolding start_list
starts_many latches = sentences.flat_length (start_clauses 0 (latches_of latches)) ∙ ap (λ (n : ℕ). 4 * n) (start_length 0 (latches_of latches))

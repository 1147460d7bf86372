-- From a text to its answer. The number that was imported is 0 exactly for a circuit that is not refused. Its lists stand in front of the stores, so
-- the system that code passes on is the circuit's. Assumes nothing.
use Prim.Native.Nat.{ℕ, suc, ◌*◌, ◌≤◌}
use mathlib.Core.List.{List}
use mathlib.Core.Path.{◌≡◌, sym, ap, ◌∙◌}
use native.Mathlib.Omega.{arith}
use lib.ListN.{length, replicate, length-replicate}
use Rattle.base.proofs.Tests.{clash}
use Rattle.text.specs.Writing.{Writes}
use Rattle.stores.specs.Lists.{Lists, lists, filled}
use Rattle.stores.proofs.Over.{over_within}
use Rattle.ic3.specs.Demands.{listed}
use Rattle.answer.specs.Answer.{refusal_line, system_lines}
use Rattle.circuit.specs.Circuit.{Circuit}
use Rattle.circuit.specs.Import.{imported}
use Rattle.aiger.specs.Text.{newer_edition, malformed, tells}
use Rattle.aiger.specs.Promise.{Result, Report, refused_at, line_for, entered, imported_as, result_of, system_in, Imports}
use Rattle.aiger.proofs.Cut.{line_most}
use Rattle.aiger.proofs.Meaning.{entered_system}
use Rattle.circuit_answer.specs.Answer.{refusal_in}
use Rattle.circuit_answer.specs.Promise.{Says, Answers}
use Rattle.circuit_answer.proofs.Meaning.{by_told, answered_circuit, answered_refused, answered_malformed, answers}

-- stores of the lengths that are lent
pub record Rooms (l : Lists) : Type 0 where
  pub start : length l.start ≡ 4 * 32
  pub step : length l.step ≡ 4 * 4096
  pub bad : length l.bad ≡ 4 * 4096

pub zero_rooms : Rooms (lists (replicate 128 0) (replicate 16384 0) (replicate 16384 0))
zero_rooms = record { start = length-replicate {A = ℕ} 128 0; step = length-replicate {A = ℕ} 16384 0; bad = length-replicate {A = ℕ} 16384 0 }

-- what was read, as code has it: a front of each store
pub record Fronts (i : Report) (after : Lists) : Type 0 where
  pub start : i.start ≤ length after.start
  pub step : i.step ≤ length after.step
  pub bad : i.bad ≤ length after.bad

module _ (text : List ℕ) (lent : Lists) (i : Report) (after : Lists) (imports : Imports newer_edition text lent i after) (rooms : Rooms lent) where
  abbrev Whole : Result
  Whole = record { import = i; after = after }

  -- the three cases
  malformed_whole : (number line : ℕ) → tells newer_edition text ≡ malformed number line → Whole ≡ record { import = refused_at number line; after = lent }
  unfolding result_of
  malformed_whole number line e = imports.equation ∙ ap (result_of lent) e

  told_whole : (m : ℕ) (c : Circuit) → Says text m c → Whole ≡ imported_as lent c (refusal_in m c)
  unfolding result_of
  told_whole m c e = imports.equation ∙ (ap (result_of lent) e ∙ rw (rooms.start, rooms.step, rooms.bad))

  refused_whole : (m : ℕ) (c : Circuit) (number : ℕ) → Says text m c → refusal_in m c ≡ suc number
      → Whole ≡ record { import = refused_at (suc number) (line_for c (suc number)); after = lent }
  unfolding imported_as
  refused_whole m c number e f = told_whole m c e ∙ ap (imported_as lent c) f

  circuit_whole : (m : ℕ) (c : Circuit) → Says text m c → refusal_in m c ≡ 0 → Whole ≡ entered (imported c) lent
  unfolding imported_as
  circuit_whole m c e f = told_whole m c e ∙ ap (imported_as lent c) f

  pub read_fronts : Fronts i after
  unfolding entered filled
  read_fronts =
      by_told text
      (λ number line e. rw (ap (λ (w : Result). w.import) (malformed_whole number line e)) (record { start = omega arith; step = omega arith; bad = omega arith }))
      (λ m c number e f.
      rw (ap (λ (w : Result). w.import) (refused_whole m c number e f)) (record { start = omega arith; step = omega arith; bad = omega arith }))
      (λ m c e f.
      let q = circuit_whole m c e f in
      rw (ap (λ (w : Result). w.import) q, ap (λ (w : Result). w.after) q)
      (record {
        start = over_within (imported c).start lent.start;
        step = over_within (imported c).step lent.step;
        bad = over_within (imported c).bad lent.bad;
      }))

  -- what is then written is the answer
  module _ {before : List ℕ} {end : ℕ} {written : List ℕ} where
    pub answers_refusal : (i.number ≡ 0 → ⊥) → Writes 0 (refusal_line i.number i.line) before end written → Answers text before end written
    unfolding entered
    answers_refusal g w =
        answers text
        (by_told text
        (λ number line e. let q = ap (λ (x : Result). x.import) (malformed_whole number line e) in rw (answered_malformed text number line e) (rw q at w))
        (λ m c number e f.
        let q = ap (λ (x : Result). x.import) (refused_whole m c number e f) in rw (answered_refused text m c number e f) (rw q at w))
        (λ m c e f. absurd (g (ap (λ (x : Result). x.import.number) (circuit_whole m c e f)))))

    pub answers_circuit : i.number ≡ 0 → Writes 0 (system_lines (system_in i after)) before end written → Answers text before end written
    unfolding entered filled listed
    answers_circuit z w =
        answers text
        (by_told text
        (λ number line e.
        let none : number ≡ 0 = sym (ap (λ (x : Result). x.import.number) (malformed_whole number line e)) ∙ z in
        clash (line_most newer_edition text number line e).0 (rw none))
        (λ m c number e f. absurd (omega (arith, z, ap (λ (x : Result). x.import.number) (refused_whole m c number e f))))
        (λ m c e f.
        let y = entered_system c lent i after (circuit_whole m c e f) in
        rw (answered_circuit text m c e f, ← y) w))

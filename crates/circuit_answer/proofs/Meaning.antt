-- What the answer means. The system of a circuit that is not refused has the circuit's own start states, steps and bad states, so what is shown of
-- the system holds of the circuit. Assumes nothing.
use Prim.Native.Nat.{ℕ, zero, suc, ◌≤◌, ◌<◌}
use mathlib.Core.List.{List}
use mathlib.Core.Path.{◌≡◌, refl, ap, ◌∙◌}
use native.Mathlib.Omega.{arith}
use lib.ListN.{length}
use Rattle.text.specs.Writing.{Writes}
use Rattle.ic3.specs.Model.{Model}
use Rattle.ic3.specs.Demands.{Safe, Unsafe}
use Rattle.system.specs.System.{System, model}
use Rattle.answer.specs.Answer.{refusal_line, system_lines}
use Rattle.answer.specs.Promise.{Begins}
use Rattle.answer.proofs.Meaning as house
use Rattle.answer.proofs.Meaning.{refusal_tells, safe_verdict, unsafe_verdict}
use Rattle.answer.proofs.Short.{refusal_short, system_short}
use Rattle.circuit.specs.Circuit.{Circuit, meaning}
use Rattle.circuit.specs.Import.{imported}
use Rattle.circuit.proofs.Models.{safe_agree, unsafe_agree, start_agree}
use Rattle.circuit.proofs.Main.{import_right, import_paths}
use Rattle.aiger.specs.Text.{newer_edition, Told, malformed, told, tells}
use Rattle.aiger.specs.Promise.{line_for}
use Rattle.aiger.proofs.Cut.{cut_off, line_most}
use Rattle.circuit_answer.specs.Answer.{refusal_in, circuit_lines, told_lines, answered}
use Rattle.circuit_answer.specs.Promise.{Says, Shows, SafeCircuit, UnsafeCircuit, Answers}
use Rattle.circuit_answer.proofs.Limits.{refusal_most, line_within, circuit_number}

module _ (text : List ℕ) where
  pub answered_circuit : (m : ℕ) (c : Circuit) → Says text m c → refusal_in m c ≡ 0 → answered text ≡ system_lines (imported c)
  unfolding answered told_lines circuit_lines
  answered_circuit m c e f = ap told_lines e ∙ ap (circuit_lines c) f

  pub answered_refused : (m : ℕ) (c : Circuit) (number : ℕ) → Says text m c → refusal_in m c ≡ suc number
      → answered text ≡ refusal_line (suc number) (line_for c (suc number))
  unfolding answered told_lines circuit_lines
  answered_refused m c number e f = ap told_lines e ∙ ap (circuit_lines c) f

  pub answered_malformed : (number line : ℕ) → tells newer_edition text ≡ malformed number line → answered text ≡ refusal_line number line
  unfolding answered told_lines
  answered_malformed number line e = ap told_lines e

  -- how a proof goes by what a text says
  pub by_told : {C : Type 0} → ((number line : ℕ) → tells newer_edition text ≡ malformed number line → C)
      → ((m : ℕ) (c : Circuit) (number : ℕ) → Says text m c → refusal_in m c ≡ suc number → C)
      → ((m : ℕ) (c : Circuit) → Says text m c → refusal_in m c ≡ 0 → C) → C
  by_told {C} wrong refuses right = pick (tells newer_edition text) refl
    where
      number : (m : ℕ) (c : Circuit) → Says text m c → (n : ℕ) → refusal_in m c ≡ n → C
      number m c e zero f = right m c e f
      number m c e (suc n) f = refuses m c n e f

      pick : (t : Told) → tells newer_edition text ≡ t → C
      pick (malformed number line) e = wrong number line e
      pick (told m c) e = number m c e (refusal_in m c) refl

  shows : (a kind : ℕ) (Rightly : Model → List ℕ → Type 0) (Right : Circuit → List ℕ → Type 0) → a < 65
      → ((y : System) → Begins a 48 (system_lines y) → house.Verdict y kind Rightly)
      → ((m : ℕ) (c : Circuit) → refusal_in m c ≡ 0 → (evidence : List ℕ) → Rightly (model (imported c)) evidence → Right c evidence)
      → Begins a 48 (answered text) → Shows text kind Right
  shows a kind Rightly Right low verdict passes h =
      by_told
      (λ number line e. absurd (omega (arith, low, refusal_tells a number line (rw (answered_malformed number line e) at h))))
      (λ m c number e f.
      absurd (omega (arith, low, refusal_tells a (suc number) (line_for c (suc number)) (rw (answered_refused m c number e f) at h))))
      (λ m c e f.
      let v = verdict (imported c) (rw (answered_circuit m c e f) at h) in
      record {
        m = m;
        circuit = c;
        read = e;
        accepted = f;
        questions = v.questions;
        evidence = v.evidence;
        lines = answered_circuit m c e f ∙ v.lines;
        start = start_agree (model (imported c)) (meaning c) (import_right m c _ _ _ f) v.start;
        right = passes m c f v.evidence v.right;
      })

  -- what was shown of the system holds of the circuit
  safe_passes : (m : ℕ) (c : Circuit) → refusal_in m c ≡ 0 → (evidence : List ℕ) → Safe (model (imported c)) evidence → SafeCircuit c evidence
  safe_passes m c f = safe_agree (model (imported c)) (meaning c) (import_right m c _ _ _ f)

  unsafe_passes : (m : ℕ) (c : Circuit) → refusal_in m c ≡ 0 → (path : List ℕ) → Unsafe (model (imported c)) path → UnsafeCircuit c path
  unsafe_passes m c f path u =
      (unsafe_agree (model (imported c)) (meaning c) (import_right m c _ _ _ f) path u, (import_paths m c _ _ _ f path).0 u.real)

  short : length (answered text) ≤ 13359
  short =
      by_told
      (λ number line e. rw (answered_malformed number line e) (refusal_short number line))
      (λ m c number e f. rw (answered_refused m c number e f) (refusal_short (suc number) (line_for c (suc number))))
      (λ m c e f. rw (answered_circuit m c e f) (system_short (imported c)))

  -- the promise, out of what was written
  pub answers : {before : List ℕ} {r : ℕ} {after : List ℕ} → Writes 0 (answered text) before r after → Answers text before r after
  answers w =
      record {
        writes = w;
        short = omega (arith, w.end, short);
        cut = λ most. cut_off newer_edition most text;
        line = line_most newer_edition text;
        circuit_line = λ m c e. line_within text m c e (refusal_in m c);
        refusal = λ m c e. refusal_most m c;
        number = λ m c e. circuit_number m c;
        safe = shows 56 128 Safe SafeCircuit (omega arith) safe_verdict safe_passes;
        unsafe = shows 57 144 Unsafe UnsafeCircuit (omega arith) unsafe_verdict unsafe_passes;
      }

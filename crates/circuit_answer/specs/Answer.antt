-- The whole of `scan_circuit` as a definition: what it writes for every text, which it reads in the newer edition.
use Rattle.std.specs.Prelude.{ℕ, zero, suc, ◌*◌, List}
use Rattle.answer.specs.Answer.{refusal_line, system_lines}
use Rattle.circuit.specs.Circuit.{Circuit}
use Rattle.circuit.specs.Import.{imported, import_refusal}
use Rattle.aiger.specs.Text.{newer_edition, Told, malformed, told, tells}
use Rattle.aiger.specs.Promise.{line_for}

-- the refusal of a circuit, in stores that hold the start values of 32 latches and lists of 4,096 clauses; 0 if there is none
abbrev pub refusal_in : ℕ → Circuit → ℕ
refusal_in m c = import_refusal m c (4 * 32) (4 * 4096) (4 * 4096)

unfoldable pub circuit_lines : Circuit → ℕ → List ℕ
circuit_lines c zero = system_lines (imported c)
circuit_lines c (suc number) = refusal_line (suc number) (line_for c (suc number))

unfoldable pub told_lines : Told → List ℕ
told_lines (malformed number line) = refusal_line number line
told_lines (told m c) = circuit_lines c (refusal_in m c)

-- THE ANSWER: reader, then search, then frames
unfoldable pub answered : List ℕ → List ℕ
answered text = told_lines (tells newer_edition text)

-- What the answer means. Its first digit, 8 or 9, A or F, tells what the call said, and what a call says is right (demand 2). So an answer that
-- begins with 80 shows that the text's system is safe, and one that begins with 90 that it is unsafe, with a shortest path. Assumes nothing.
use Prim.Native.Nat.{ℕ, ◌≤◌, ◌<◌}
use mathlib.Core.List.{List}
use mathlib.Core.Path.{◌≡◌, refl, sym, ap, ◌∙◌}
use native.Mathlib.Omega.{arith}
use Rattle.text.specs.Writing.{Writes}
use Rattle.ic3.specs.Model.{Model}
use Rattle.ic3.specs.Demands.{Safe, Unsafe, HasStart}
use Rattle.system.specs.System.{System, model}
use Rattle.call.specs.Call.{Stores, Said, says_safe, says_unsafe, gives_up, refuses, result, called}
use Rattle.call.specs.Promise.{Right}
use Rattle.call.proofs.Call.{Speaks, called_right, called_starts}
use Rattle.house.specs.File.{Reading, file, refused, said}
use Rattle.house.specs.File as house
use Rattle.answer.specs.Output.{letter, digits, line_of}
use Rattle.answer.specs.Answer.{verdict_lines, gave_up_line, refusal_line, call_lines, scan_stores, system_lines}
use Rattle.answer.specs.Answer.{clause_rooms, system_in, said_lines, answered}
use Rattle.answer.specs.Promise.{Begins, Shows, Answers}
use Rattle.answer.proofs.Short.{answered_short}
use Rattle.answer.proofs.Limits.{answered_cut, refused_line, file_number}

-- the first digit, by what is said
abbrev Tells : Said → ℕ → Type 0
Tells says_safe a = a ≡ 56
Tells says_unsafe a = a ≡ 57
Tells gives_up a = 65 ≤ a
Tells refuses a = 65 ≤ a

-- a verdict's digit is told only where something is said
speaks : (said : Said) (a : ℕ) → a < 65 → Tells said a → Speaks said
speaks says_safe a h t = tt
speaks says_unsafe a h t = tt
speaks gives_up a h t = absurd (omega arith)
speaks refuses a h t = absurd (omega arith)

pub refusal_tells : (a number line : ℕ) → Begins a 48 (refusal_line number line) → 65 ≤ a
unfolding refusal_line line_of digits letter
refusal_tells a number line h = omega (arith, h.0)

gave_up_tells : (a number questions : ℕ) → Begins a 48 (gave_up_line number questions) → 65 ≤ a
unfolding gave_up_line line_of digits letter
gave_up_tells a number questions h = omega (arith, h.0)

call_tells : (a : ℕ) (said : Said) (number questions : ℕ) (evidence : List ℕ) (after : Stores)
    → Begins a 48 (call_lines (result number said questions evidence after)) → Tells said a
unfolding call_lines verdict_lines line_of digits letter
call_tells a says_safe number questions evidence after h = sym h.0
call_tells a says_unsafe number questions evidence after h = sym h.0
call_tells a gives_up number questions evidence after h = gave_up_tells a number questions h
call_tells a refuses number questions evidence after h = refusal_tells a number 0 h

-- Of a call that said something right, and whose answer begins with this digit: the answer's lines are a verdict of this kind, and right.
abbrev Told : ℕ → ℕ → (Model → List ℕ → Type 0) → Type 0
Told a kind Rightly =
    (M : Model) (said : Said) (number questions : ℕ) (evidence : List ℕ) (after : Stores) → Tells said a → Right M said evidence
    → (call_lines (result number said questions evidence after) ≡ verdict_lines kind questions evidence) × Rightly M evidence

told_safe : Told 56 128 Safe
unfolding call_lines
told_safe M says_safe number questions evidence after t d = (refl, d)
told_safe M says_unsafe number questions evidence after t d = absurd (omega arith)
told_safe M gives_up number questions evidence after t d = absurd (omega arith)
told_safe M refuses number questions evidence after t d = absurd (omega arith)

told_unsafe : Told 57 144 Unsafe
unfolding call_lines
told_unsafe M says_safe number questions evidence after t d = absurd (omega arith)
told_unsafe M says_unsafe number questions evidence after t d = (refl, d)
told_unsafe M gives_up number questions evidence after t d = absurd (omega arith)
told_unsafe M refuses number questions evidence after t d = absurd (omega arith)

-- Of a system's answer that begins with a verdict's digit: it is that verdict, the system has a start state, and the states in the lines are right.
pub record Verdict (y : System) (kind : ℕ) (Rightly : Model → List ℕ → Type 0) : Type 0 where
  pub questions : ℕ
  pub evidence : List ℕ
  pub lines : system_lines y ≡ verdict_lines kind questions evidence
  pub start : HasStart (model y)
  pub right : Rightly (model y) evidence

verdict : (y : System) (a kind : ℕ) (Rightly : Model → List ℕ → Type 0) → a < 65 → Told a kind Rightly → Begins a 48 (system_lines y) → Verdict y kind Rightly
verdict y a kind Rightly low told h =
    let c = called y scan_stores 1000000 in
    let t = call_tells a c.said _ _ _ _ h in
    let u = told (model y) c.said _ _ c.evidence _ t (called_right y scan_stores 1000000) in
    record {
      questions = c.questions;
      evidence = c.evidence;
      lines = u.0;
      start = called_starts y scan_stores 1000000 (speaks c.said a low t);
      right = u.1;
    }

pub safe_verdict : (y : System) → Begins 56 48 (system_lines y) → Verdict y 128 Safe
safe_verdict y = verdict y 56 128 Safe (omega arith) told_safe

pub unsafe_verdict : (y : System) → Begins 57 48 (system_lines y) → Verdict y 144 Unsafe
unsafe_verdict y = verdict y 57 144 Unsafe (omega arith) told_unsafe

module _ (text : List ℕ) where
  pub answered_file : (r : Reading) → said clause_rooms text ≡ file r → answered text ≡ system_lines (system_in r)
  unfolding answered said_lines
  answered_file r e = ap said_lines e

  pub answered_refused : (number line : ℕ) → said clause_rooms text ≡ refused number line → answered text ≡ refusal_line number line
  unfolding answered said_lines
  answered_refused number line e = ap said_lines e

  shows : (a kind : ℕ) (Rightly : Model → List ℕ → Type 0) → a < 65 → ((y : System) → Begins a 48 (system_lines y) → Verdict y kind Rightly)
      → Begins a 48 (answered text) → Shows text kind Rightly
  shows a kind Rightly low tells h = pick (said clause_rooms text) refl
    where
      pick : (s : house.Said) → said clause_rooms text ≡ s → Shows text kind Rightly
      pick (refused number line) e = absurd (omega (arith, low, refusal_tells a number line (rw (answered_refused number line e) at h)))
      pick (file r) e =
          let v = tells (system_in r) (rw (answered_file r e) at h) in
          record {
            reading = r;
            read = e;
            questions = v.questions;
            evidence = v.evidence;
            lines = answered_file r e ∙ v.lines;
            start = v.start;
            right = v.right;
          }

  -- the promise, out of what was written
  pub answers : {before : List ℕ} {r : ℕ} {after : List ℕ} → Writes 0 (answered text) before r after → Answers text before r after
  answers w =
      record {
        writes = w;
        short = omega (arith, w.end, answered_short text);
        cut = answered_cut text;
        line = refused_line text;
        number = file_number text;
        safe = shows 56 128 Safe (omega arith) safe_verdict;
        unsafe = shows 57 144 Unsafe (omega arith) unsafe_verdict;
      }

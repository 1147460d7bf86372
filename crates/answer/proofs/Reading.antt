-- From a text to its answer. The number that was read is 0 exactly for a file, as no refusal has it. The lists of a file stand in front of the
-- stores, so the system that code passes on is the one that was read. Assumes nothing.
use Prim.Native.Nat.{ℕ, ◌≤◌}
use mathlib.Core.List.{List}
use mathlib.Core.Path.{◌≡◌, refl, ap, ◌∙◌}
use native.Mathlib.Omega.{arith}
use lib.ListN.{length, take, replicate, length-replicate}
use Rattle.text.specs.Writing.{Writes}
use Rattle.stores.proofs.Over.{over_front, over_within}
use Rattle.system.specs.System.{System, system_of}
use Rattle.house.specs.File.{Reading, Said, file, refused, said}
use Rattle.stores.specs.Lists.{Lists, lists, filled}
use Rattle.house.specs.Promise.{rooms_of, Report, Result, result_of, Reads}
use Rattle.house.proofs.Limits.{Limited, said_limited}
use Rattle.answer.specs.Answer.{refusal_line, clause_rooms, system_in, system_lines}
use Rattle.answer.specs.Promise.{Answers}
use Rattle.answer.proofs.Meaning.{answered_file, answered_refused, answers}

-- stores of 4,096 zeros
pub rooms_of_zeros : rooms_of (lists (replicate 4096 0) (replicate 4096 0) (replicate 4096 0)) ≡ clause_rooms
rooms_of_zeros = rw length-replicate

-- what was read, as code has it: a front of each store
pub record Fronts (h : Report) (after : Lists) : Type 0 where
  pub start : h.start ≤ length after.start
  pub step : h.step ≤ length after.step
  pub bad : h.bad ≤ length after.bad

abbrev pub system_read : Report → Lists → System
system_read h l = system_of h.n 0 (take h.start l.start) (take h.step l.step) (take h.bad l.bad)

module _ (text : List ℕ) (lent : Lists) (h : Report) (after : Lists) (reads : Reads text lent h after) where
  abbrev Whole : Result
  Whole = record { house = h; after = after }

  whole_said : (s : Said) → said (rooms_of lent) text ≡ s → Whole ≡ result_of lent s
  whole_said s e = reads.equation ∙ ap (result_of lent) e

  pub read_fronts : Fronts h after
  unfolding result_of filled
  read_fronts = pick (said (rooms_of lent) text) refl
    where
      pick : (s : Said) → said (rooms_of lent) text ≡ s → Fronts h after
      pick (file r) e =
          let q = whole_said (file r) e in
          rw (ap (λ w. w.house) q, ap (λ w. w.after) q)
          (record { start = over_within r.start _; step = over_within r.step _; bad = over_within r.bad _ })
      pick (refused number line) e =
          let q = whole_said (refused number line) e in
          rw (ap (λ w. w.house) q) (record { start = omega arith; step = omega arith; bad = omega arith })

  -- a number that is not 0: a refusal
  read_refused : (h.number ≡ 0 → ⊥) → said (rooms_of lent) text ≡ refused h.number h.line
  unfolding result_of
  read_refused f = pick (said (rooms_of lent) text) refl
    where
      pick : (s : Said) → said (rooms_of lent) text ≡ s → said (rooms_of lent) text ≡ refused h.number h.line
      pick (file r) e = absurd (f (ap (λ w. w.house.number) (whole_said (file r) e)))
      pick (refused number line) e =
          let q = whole_said (refused number line) e in
          rw (ap (λ w. w.house.number) q, ap (λ w. w.house.line) q) e

  -- the number 0: a file
  read_file : h.number ≡ 0 → (r : Reading) × (said (rooms_of lent) text ≡ file r) × (system_read h after ≡ system_in r)
  unfolding result_of filled
  read_file z = pick (said (rooms_of lent) text) refl (said_limited (rooms_of lent) text)
    where
      pick : (s : Said) → said (rooms_of lent) text ≡ s → Limited s
          → (r : Reading) × (said (rooms_of lent) text ≡ file r) × (system_read h after ≡ system_in r)
      pick (file r) e k =
          let q = whole_said (file r) e in (
            r,
            e,
            rw (ap (λ w. w.house) q, ap (λ w. w.after) q) (rw (over_front _ r.start _ refl, over_front _ r.step _ refl, over_front _ r.bad _ refl)),
          )
      pick (refused number line) e k = absurd (omega (arith, k.0, ap (λ w. w.house.number) (whole_said (refused number line) e)))

  -- what is then written is the answer
  module _ (rooms : rooms_of lent ≡ clause_rooms) {before : List ℕ} {end : ℕ} {written : List ℕ} where
    pub answers_refusal : (h.number ≡ 0 → ⊥) → Writes 0 (refusal_line h.number h.line) before end written → Answers text before end written
    answers_refusal f w = answers text (rw (answered_refused text _ _ (rw rooms at (read_refused f))) w)

    pub answers_file : h.number ≡ 0 → Writes 0 (system_lines (system_read h after)) before end written → Answers text before end written
    answers_file z w =
        let f = read_file z in
        answers text (rw (answered_file text f.0 (rw rooms at f.1), ← f.2) w)

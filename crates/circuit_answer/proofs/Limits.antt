-- The limits of a circuit's answer. No circuit is refused with a number above 28, but with 32 where its step list has over 4,096 clauses: the stores hold
-- lists of so many, and the list of bad is no longer. The line of a refusal is one of the text's lines or the next. And as every circuit has a start
-- state, the search of one that is not refused ends with 0, 5 or 6. Assumes nothing.
use Prim.Native.Nat.{ℕ, zero, suc, ◌+◌, ◌*◌, ◌≤◌}
use mathlib.Core.Bool.{Bool, true, false, not, ◌||◌}
use mathlib.Core.List.{List, [], ◌∷◌}
use mathlib.Core.Logic.{inl, inr}
use mathlib.Core.Path.{◌≡◌, refl, ◌∙◌}
use native.Mathlib.Omega.{arith}
use borrow.Author.Tests.{lt-ltb, le-ltb, ltb-true, ltb-false}
use lib.Dec.{eqb, ltb}
use lib.ListN.{length}
use Rattle.base.specs.Refusals.{◌if◌, ◌else◌, most_clauses}
use Rattle.base.proofs.Tests.{test, clash}
use Rattle.ic3.specs.Search.{Verdict, safe, unsafe, gave_up, no_room, spent, no_start}
use Rattle.ic3.specs.Demands.{listed}
use Rattle.system.specs.System.{model}
use Rattle.call.specs.Call.{Stores, ended, called}
use Rattle.call.proofs.Call.{refused_stores, called_searches, called_asks}
use Rattle.answer.specs.Answer.{scan_stores}
use Rattle.answer.proofs.Limits.{room_right}
use Rattle.circuit.specs.Circuit.{Circuit, Latch, every, any, meaning}
use Rattle.circuit.specs.Loops.{loop_free}
use Rattle.circuit.specs.Refusals.{defined, used, wrong_start, right_starts, twice, known, nothing_watched, circuit_refusal}
use Rattle.circuit.specs.Import.{imported, import_refusal}
use Rattle.circuit.proofs.Refusals.{accepted}
use Rattle.circuit.proofs.Sentences.{fixed_le}
use Rattle.circuit.proofs.Starts.{has_start}
use Rattle.circuit.proofs.Models.{agree_sym, start_agree}
use Rattle.circuit.proofs.Main.{starting, stepping, watching, import_counts, import_none, import_right}
use Rattle.aiger.specs.Text.{newer_edition}
use Rattle.aiger.specs.Promise.{line_for}
use Rattle.aiger.proofs.Told.{told_lines_lem}
use Rattle.circuit_answer.specs.Answer.{refusal_in}
use Rattle.circuit_answer.specs.Promise.{Says, FromCircuit, Most}

-- ---- its own refusals
circuit_most : (m : ℕ) (c : Circuit) → circuit_refusal m c ≤ 28
unfolding circuit_refusal
circuit_most m c =
    seven
    (ltb m (length c.inputs + length c.latches + length c.gates))
    (any wrong_start c.latches)
    (eqb (length c.latches) 0 || ltb 32 (length c.latches))
    (ltb 64 (length c.inputs + length c.gates))
    (twice (defined c) || not (every (known c) (used c)))
    (not (loop_free c.gates))
    (nothing_watched c)
  where
    seven : (a s b c d e f : Bool) → (21 if a else 28 if s else 22 if b else 23 if c else 24 if d else 25 if e else 26 if f) ≤ 28
    seven true s b c d e f = omega arith
    seven false true b c d e f = omega arith
    seven false false true c d e f = omega arith
    seven false false false true d e f = omega arith
    seven false false false false true e f = omega arith
    seven false false false false false true f = omega arith
    seven false false false false false false true = omega arith
    seven false false false false false false false = omega arith

-- where the circuit is not refused: by the length of the step list
pub refusal_most : (m : ℕ) (c : Circuit) → Most c (refusal_in m c)
unfolding import_refusal
refusal_most m c = pick (circuit_refusal m c) refl
  where
    counted : circuit_refusal m c ≡ 0 → Most c (refusal_in m c)
    counted e =
        let A = accepted m c e in
        let start = le-ltb 128 (4 * starting c) (omega (arith, fixed_le c.latches, A.latches)) in
        test (ltb most_clauses (stepping c))
        (λ t.
        let more = ltb-true most_clauses (stepping c) t in
        inr (import_counts m c 128 16384 16384 e ∙ rw (start, lt-ltb 16384 (4 * stepping c) (omega arith)), more))
        (λ t.
        let few = ltb-false most_clauses (stepping c) t in
        inl (rw (
          import_counts m c 128 16384 16384 e,
          start,
          le-ltb 16384 (4 * stepping c) (omega arith),
          le-ltb 16384 (4 * watching c) (omega (arith, A.some_latch)),
          t,
        )
        (omega arith)))

    pick : (r : ℕ) → circuit_refusal m c ≡ r → Most c (refusal_in m c)
    pick zero e = counted e
    pick (suc r) e = inl (rw (e, import_refusal) (omega (arith, circuit_most m c)))

-- ---- the line of a refusal
right_most : (ls : List Latch) → right_starts ls ≤ length ls
unfolding right_starts
right_most [] = omega arith
right_most (l ∷ ls) =
    test (wrong_start l) (λ e. rw (e, right_starts) (omega arith)) (λ e. rw (e, right_starts) (omega (arith, right_most ls)))

pub line_within : (text : List ℕ) (m : ℕ) (c : Circuit) → Says text m c → (number : ℕ) → line_for c number ≤ length text + 1
unfolding line_for
line_within text m c e number =
    test (eqb number 28)
    (λ t. rw (t, line_for) (omega (arith, told_lines_lem newer_edition m c text e, right_most c.latches)))
    (λ t. test (eqb number 21 || (eqb number 22 || (eqb number 23 || eqb number 26)))
    (λ u. rw (t, u, line_for) (omega arith))
    (λ u. rw (t, u, line_for) (omega arith)))

-- ---- the search
ended_number : (s : Stores) (q : ℕ) (v : Verdict) → ((ended s q v).number ≡ 14 → ⊥) → FromCircuit (ended s q v).number
unfolding ended listed
ended_number s q (safe evidence) f = refl
ended_number s q (unsafe path) f = refl
ended_number s q (gave_up no_room) f = refl
ended_number s q (gave_up spent) f = refl
ended_number s q (gave_up no_start) f = absurd (f refl)

pub circuit_number : (m : ℕ) (c : Circuit) → refusal_in m c ≡ 0 → FromCircuit (called (imported c) scan_stores 1000000).number
circuit_number m c f =
    let y = imported c in
    let has = start_agree (meaning c) (model y) (agree_sym (import_right m c _ _ _ f)) (has_start c) in
    let not_14 : (called y scan_stores 1000000).number ≡ 14 → ⊥ =
    λ n. clash has.starts (((called_asks y scan_stores 1000000).none.0 n).2 has.state has.inside) in
    let s = called_searches y scan_stores 1000000 (refused_stores y scan_stores (import_none m c _ _ _ f).1 room_right) in
    rw s (ended_number scan_stores _ _ (rw s at not_14))

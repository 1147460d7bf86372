-- The lists that are entered are those of the circuit's system: each row stands where its variable does. Assumes nothing.
use Prim.Native.Nat.{ℕ, ◌+◌, ◌*◌, ◌/◌, ◌≤◌}
use mathlib.Core.Bool.{true, false, ◌||◌}
use mathlib.Core.List.{List, [], ◌∷◌, ◌++◌, append_assoc}
use mathlib.Core.Path.{◌≡◌, sym, ap, ap₂, ◌∙◌}
use native.Mathlib.Omega.{arith}
use borrow.Author.Tests.{ltb-false, eq-eqb, ne_eqb}
use lib.Dec.{eqb, ltb}
use lib.ListN.{length, take, drop}
use Rattle.std.specs.Prelude.{Ok}
use Rattle.stores.specs.Over.{over}
use Rattle.stores.specs.Lists.{Lists, lists, filled}
use Rattle.masks.proofs.Somewhere.{or_fails}
use Rattle.system.specs.declared.Clause.{Clause}
use Rattle.circuit.specs.Circuit.{watched}
use Rattle.circuit.specs.Import.{place_of, empty, marks, clause_of, latch_clauses, gate_clauses, constraint_clauses, shared, flat, imported}
use Rattle.circuit.proofs.Sentences.{lengths}
use Rattle.circuit.proofs.Main.{starting, stepping, watching}
use Rattle.aiger.specs.Text.{firsts, latches_of, gates_of, circuit_of}
use Rattle.aiger.specs.Promise.{Result, Report, report_of, entered}
use Rattle.aiger.specs.declared.table.Row.{Row}
use Rattle.aiger.specs.declared.table.Singles.{Singles}
use Rattle.aiger.specs.Inner.{flattened, Held, circuit_in, place_by, watched_of, constraints_of, Constraints, start_list, step_list, bad_list, short, Enters}
use Rattle.aiger.specs.declared.Imported.{Imported}
use Rattle.aiger.specs.declared.read.Header.{Header}
use Rattle.aiger.specs.declared.read.Reading.{Reading}
use Rattle.aiger.proofs.Placing.{place_by_lem}
use Rattle.aiger.proofs.Writing.{flat_append}
use Rattle.aiger.proofs.Judging.{held_latches, held_inputs, held_gates, held_bads, held_vars, held_short, latch_rows, gate_rows}

-- ---- an answer by its parts
abbrev made : ℕ → ℕ → ℕ → ℕ → ℕ → Report
made n w start step bad = report_of (Ok (record { n = n; w = w; start = start; step = step; bad = bad }))

same_made : {c d e f g c' d' e' f' g' : ℕ} → c ≡ c' → d ≡ d' → e ≡ e' → f ≡ f' → g ≡ g' → made c d e f g ≡ made c' d' e' f' g'
same_made r s t u v = rw (r, s, t, u, v)

same_lists : {a b c a' b' c' : List ℕ} → a ≡ a' → b ≡ b' → c ≡ c' → lists a b c ≡ lists a' b' c'
same_lists p q r = rw (p, q, r)

by_parts : (q : Imported) {c d e f g : ℕ} → q.n ≡ c → q.w ≡ d → q.start ≡ e → q.step ≡ f → q.bad ≡ g → report_of (Ok q) ≡ made c d e f g
by_parts x r s t u v = same_made r s t u v

by_lists : (l : Lists) {a b c : List ℕ} → l.start ≡ a → l.step ≡ b → l.bad ≡ c → l ≡ lists a b c
by_lists l p q r = same_lists p q r

module _ {text : List ℕ} {r : Reading} {rows : List Row} (h : Held text r rows) where
  abbrev H : Header
  H = r.header

  held_place : place_by (flattened rows) H.latches ≡ place_of (circuit_in h)
  held_place = place_by_lem (circuit_in h) (flattened rows) H.latches (held_vars h) (held_latches h)

  abbrev literals : List ℕ
  literals = firsts h.singles

  -- the clauses of gates and constraints are all that both lists share
  shared_same : flat (gate_clauses (place_of (circuit_in h)) (gates_of h.gates)) ++ flat (constraint_clauses (place_of (circuit_in h)) (constraints_of H literals))
      ≡ flat (shared (circuit_in h))
  unfolding circuit_of
  shared_same = sym (flat_append (gate_clauses (place_of (circuit_in h)) (gates_of h.gates)) _)

  start_same : start_list (take (3 * H.latches) (flattened rows)) ≡ (imported (circuit_in h)).start
  unfolding start_list imported circuit_of
  start_same = rw (latch_rows h)

  step_same : step_list (flattened rows) (take (3 * H.latches) (flattened rows)) (drop (3 * (H.latches + H.inputs)) (flattened rows)) (constraints_of H literals)
      ≡ (imported (circuit_in h)).step
  unfolding step_list imported circuit_of
  step_same =
      let third : length h.latches / 3 ≡ H.latches = omega (arith, h.counted.many_latches) in
      let ls = flat (latch_clauses (place_of (circuit_in h)) 0 (latches_of h.latches)) in
      rw (latch_rows h, gate_rows h, third, held_place)
      (append_assoc ls _ _
      ∙ (ap (λ (l : List ℕ). ls ++ l) shared_same
      ∙ sym (flat_append (latch_clauses (place_of (circuit_in h)) 0 (latches_of h.latches)) (shared (circuit_in h)))))

  -- what is watched is the bad-state lines, or the outputs where there are none
  watched_same : watched_of H literals ≡ watched (circuit_in h)
  unfolding watched_of watched circuit_of
  watched_same =
      let bads = take H.bads (drop H.outputs literals) in
      chosen bads bads H.bads (take H.outputs literals) (held_bads h)
    where
      chosen : (l all : List ℕ) (n : ℕ) (o : List ℕ) → length l ≡ n
          → ◌≡◌ {A = List ℕ} (elim (eqb n 0) [ true ↦ o | false ↦ all ]) (elim l [ [] ↦ o | b ∷ bs ↦ all ])
      chosen [] all n o e = rw (eq-eqb n 0 (sym e))
      chosen (b ∷ bs) all n o e = rw (ne_eqb n 0 (λ z. omega arith))

  bad_same : (clause : Clause) → clause ≡ marks (place_by (flattened rows) H.latches) empty (watched_of H literals)
      → bad_list (flattened rows) H.latches (drop (3 * (H.latches + H.inputs)) (flattened rows)) (constraints_of H literals) clause ≡ (imported (circuit_in h)).bad
  unfolding bad_list imported circuit_of
  bad_same clause e =
      let one = flat (clause_of (place_of (circuit_in h)) (watched (circuit_in h)) ∷ []) in
      rw (gate_rows h, e, held_place, watched_same)
      (append_assoc one _ _
      ∙ (ap (λ (l : List ℕ). one ++ l) shared_same
      ∙ sym (flat_append (clause_of (place_of (circuit_in h)) (watched (circuit_in h)) ∷ []) (shared (circuit_in h)))))

  -- ---- where each store has room
  module _ (lent : Lists)
      (room : short H (length (start_list h.latches)) (length lent.start) (length lent.step) (length lent.bad) ≡ false) where
    roomy : (length (imported (circuit_in h)).start ≤ length lent.start)
        × (length (imported (circuit_in h)).step ≤ length lent.step)
        × (length (imported (circuit_in h)).bad ≤ length lent.bad)
    roomy =
        let c = circuit_in h in
        let s = ltb (length lent.start) (4 * starting c) in
        let t = ltb (length lent.step) (4 * stepping c) in
        let b = ltb (length lent.bad) (4 * watching c) in
        let p = (or_fails s (t || b)).0 (held_short h (length lent.start) (length lent.step) (length lent.bad) ∙ room) in
        let q = (or_fails t b).0 p.1 in (
          omega (arith, (lengths c).0, ltb-false (length lent.start) (4 * starting c) p.0),
          omega (arith, (lengths c).1, ltb-false (length lent.step) (4 * stepping c) q.0),
          omega (arith, (lengths c).2, ltb-false (length lent.bad) (4 * watching c) q.1),
        )

    pub enters_system : (x : Singles) (clause : Clause) (q : Imported) (after : Lists) → Enters x (flattened rows) H clause lent q after
        → clause ≡ marks (place_by (flattened rows) H.latches) empty (watched_of H literals)
        → Constraints x.text.now x.at x.count (constraints_of H literals)
        → ◌≡◌ {A = Result} (record { import = report_of (Ok q); after = after }) (entered (imported (circuit_in h)) lent)
    unfolding entered filled imported
    enters_system x clause q after e o again =
        let y = imported (circuit_in h) in
        let s = start_same in
        let t = step_same in
        let b = bad_same clause o in
        let step = e.step _ again in
        let bad = e.bad _ again in
        ap₂ (λ (i : Report) (l : Lists). record { import = i; after = l })
        (by_parts q (e.sizes.0 ∙ sym (held_latches h))
        (e.sizes.1 ∙ ap₂ (λ (x z : ℕ). x + z) (sym (held_inputs h)) (sym (held_gates h)))
        (e.start.end ∙ ap length s) (step.end ∙ ap length t) (bad.end ∙ ap length b))
        (by_lists after
        (e.start.content (rw s roomy.0) ∙ ap (λ (l : List ℕ). over l lent.start) s)
        (step.content (rw t roomy.1) ∙ ap (λ (l : List ℕ). over l lent.step) t)
        (bad.content (rw b roomy.2) ∙ ap (λ (l : List ℕ). over l lent.bad) b))

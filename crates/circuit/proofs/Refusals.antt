-- A circuit that is not refused is accepted, the test for 24 means what it says, and 28 stands directly behind 21. Where no refusal is given no test
-- is true, and each test that is false is one of the conditions. Assumes nothing.
use Prim.Native.Nat.{ℕ, ◌+◌, ◌≤◌}
use mathlib.Core.Path.{◌≡◌, refl}
use mathlib.Core.Logic.{◌↔◌}
use mathlib.Core.Bool.{Bool, true, false, not, ◌||◌}
use mathlib.Core.List.{List, [], ◌∷◌}
use native.Mathlib.Omega.{arith}
use borrow.Author.Tests.{le-ltb, ltb-false, eqb-false, not-false}
use lib.Dec.{eqb, ltb}
use lib.ListN.{length}
use Rattle.base.specs.Refusals.{◌if◌, ◌else◌}
use Rattle.base.proofs.Refusals.{else_none, if_none}
use Rattle.masks.proofs.Somewhere.{or_fails}
use Rattle.ic3.specs.Demands.{listed, Distinct}
use Rattle.circuit.specs.Circuit.{Circuit, every, any}
use Rattle.circuit.specs.Loops.{loop_free}
use Rattle.circuit.specs.Refusals.{defined, used, wrong_start, twice, known, nothing_watched, circuit_refusal, Accepted}

pub twice_distinct : (vs : List ℕ) → (twice vs ≡ false) ↔ Distinct vs
unfolding twice
twice_distinct [] = (λ e. tt, λ d. refl)
twice_distinct (v ∷ vs) = (
  λ e. let p = (or_fails (listed vs v) (twice vs)).0 e in (p.0, (twice_distinct vs).0 p.1),
  λ d. (or_fails (listed vs v) (twice vs)).1 (d.0, (twice_distinct vs).1 d.1),
)

-- where M is large enough a wrong start value gives 28, whatever else is wrong
pub wrong_start_lem : (m : ℕ) (c : Circuit) → length c.inputs + length c.latches + length c.gates ≤ m
    → any wrong_start c.latches ≡ true → circuit_refusal m c ≡ 28
unfolding circuit_refusal
wrong_start_lem m c h e = rw (le-ltb m (length c.inputs + length c.latches + length c.gates) h, e)

pub accepted : (m : ℕ) (c : Circuit) → circuit_refusal m c ≡ 0 → Accepted c
unfolding circuit_refusal
accepted m c e =
    let few : Bool = ltb m (length c.inputs + length c.latches + length c.gates) in
    let starts : Bool = any wrong_start c.latches in
    let latches : Bool = eqb (length c.latches) 0 || ltb 32 (length c.latches) in
    let wires : Bool = ltb 64 (length c.inputs + length c.gates) in
    let vars : Bool = twice (defined c) || not (every (known c) (used c)) in
    let loops : Bool = not (loop_free c.gates) in
    let idle : Bool = nothing_watched c in
    let r21 = else_none (21 if few) (28 if starts else 22 if latches else 23 if wires else 24 if vars else 25 if loops else 26 if idle) e in
    let r28 = else_none (28 if starts) (22 if latches else 23 if wires else 24 if vars else 25 if loops else 26 if idle) r21.1 in
    let r22 = else_none (22 if latches) (23 if wires else 24 if vars else 25 if loops else 26 if idle) r28.1 in
    let r23 = else_none (23 if wires) (24 if vars else 25 if loops else 26 if idle) r22.1 in
    let r24 = else_none (24 if vars) (25 if loops else 26 if idle) r23.1 in
    let r25 = else_none (25 if loops) (26 if idle) r24.1 in
    let p = (or_fails (eqb (length c.latches) 0) (ltb 32 (length c.latches))).0 (if_none 21 latches r22.0) in
    let q = (or_fails (twice (defined c)) (not (every (known c) (used c)))).0 (if_none 23 vars r24.0) in
    record {
      some_latch = omega (arith, eqb-false (length c.latches) 0 p.0);
      latches = ltb-false 32 (length c.latches) p.1;
      wires = ltb-false 64 (length c.inputs + length c.gates) (if_none 22 wires r23.0);
      once = (twice_distinct (defined c)).0 q.0;
      all_known = not-false (every (known c) (used c)) q.1;
      loops = not-false (loop_free c.gates) (if_none 24 loops r25.0);
    }

-- Refusal 25: what is computed and what it means are the same. A chain that is not settled after as many gates as there are has a gate more than
-- there are, so one of them stands in it twice; and round a loop one can go as often as one likes, which no settled variable allows. Assumes nothing.
use Prim.Native.Nat.{ℕ, zero, suc, ◌/◌, ◌<◌}
use mathlib.Core.Path.{◌≡◌, refl, sym, ap, ◌∙◌}
use mathlib.Core.Logic.{◌↔◌, ◌⊎◌, inl, inr, ⊎_elim}
use mathlib.Core.Bool.{true, false, ◌&&◌}
use mathlib.Core.List.{List, [], ◌∷◌}
use mathlib.Core.Option.{Option, none, some}
use native.Mathlib.Omega.{arith}
use borrow.Author.Tests.{eqb-true}
use lib.Dec.{eqb}
use lib.ListN.{length, length-map}
use Rattle.ic3.specs.Demands.{listed, Distinct}
use Rattle.base.proofs.Tests.{test, clash, both}
use Rattle.ic3.proofs.Store.{listed_none, inside_length}
use Rattle.circuit.specs.Circuit.{Gate, outs, gate_of}
use Rattle.circuit.specs.Loops.{Uses, Depends, once, more, Loop, settled, loop_free}
use Rattle.circuit.proofs.Lists.{every_fails}
use Rattle.circuit.proofs.Values.{gate_found, gate_listed, gate_of_lem, all_settled}

-- ---- a loop is never settled
module _ (gs : List Gate) (d : Distinct (outs gs)) where
  -- a use leads from a settled variable to one with shorter chains
  uses_less : (k u v : ℕ) → Uses gs u v → settled gs k u ≡ true → (j : ℕ) × (k ≡ suc j) × (settled gs j v ≡ true)
  unfolding settled
  uses_less k u v r e =
      go k (ap (gate_of gs) (sym r.defines) ∙ gate_of_lem gs d r.gate r.there) e
    where
      go : (k : ℕ) → gate_of gs u ≡ some r.gate → settled gs k u ≡ true → (j : ℕ) × (k ≡ suc j) × (settled gs j v ≡ true)
      go zero q e = clash (rw (q, settled) at e) refl
      go (suc k) q e =
          let p = both (settled gs k (r.gate.left / 2)) (settled gs k (r.gate.right / 2)) (rw (q, settled) at e) in
          (k, refl, ⊎_elim (λ y. rw y p.0) (λ y. rw y p.1) r.operand)

  depends_less : {v u : ℕ} → Depends gs v u → (k : ℕ) → settled gs k u ≡ true → (j : ℕ) × (j < k) × (settled gs j v ≡ true)
  depends_less {v} {u} (once r) k e = let p = uses_less k u v r e in (p.0, omega (arith, p.1), p.2)
  depends_less {v} {u} (more {t = t} r w) k e =
      let p = uses_less k u t r e in
      let q = depends_less w p.0 p.2 in
      (q.0, omega (arith, p.1, q.1), q.2)

  loop_unsettled : (m v : ℕ) → Depends gs v v → (k : ℕ) → k < m → settled gs k v ≡ true → ⊥
  loop_unsettled zero v w k h e = absurd (omega arith)
  loop_unsettled (suc m) v w k h e =
      let p = depends_less w k e in
      loop_unsettled m v w p.0 (omega (arith, p.1)) p.2

-- ---- a chain that is too long has a loop
-- from u on, each number is a gate's and uses the next
abbrev Chain : List Gate → ℕ → List ℕ → Type 0
Chain gs u [] = listed (outs gs) u ≡ true
Chain gs u (v ∷ l) = Uses gs u v × Chain gs v l

module _ (gs : List Gate) where
  chain_first : (u : ℕ) (l : List ℕ) → Chain gs u l → listed (outs gs) u ≡ true
  chain_first u [] ch = ch
  chain_first u (v ∷ l) ch = rw ch.0.defines at (gate_listed gs ch.0.gate ch.0.there)

  chain_inside : (u : ℕ) (l : List ℕ) → Chain gs u l → (s : ℕ) → listed (u ∷ l) s ≡ true → listed (outs gs) s ≡ true
  unfolding listed
  chain_inside u [] ch s e = test (eqb u s) (λ q. rw (← eqb-true u s q) ch) (λ q. listed_none s (rw (q, listed) at e))
  chain_inside u (v ∷ l) ch s e =
      test (eqb u s)
      (λ q. rw (← eqb-true u s q) (chain_first u (v ∷ l) ch))
      (λ q. chain_inside v l ch.1 s (rw (q, listed) at e))

  -- a chain of k + 1 gates from a variable that k do not settle
  unsettled_chain : (k u : ℕ) → settled gs k u ≡ false → (l : List ℕ) × (length l ≡ k) × Chain gs u l
  unfolding settled
  unsettled_chain zero u e = go (gate_of gs u) refl
    where
      go : (o : Option Gate) → gate_of gs u ≡ o → (l : List ℕ) × (length l ≡ 0) × Chain gs u l
      go none q = clash refl (rw (q, settled) at e)
      go (some g) q = let r = gate_found gs u g q in ([], refl, rw r.1 at (gate_listed gs g r.0))
  unsettled_chain (suc k) u e = go (λ v q. unsettled_chain k v q) (gate_of gs u) refl
    where
      go : ((v : ℕ) → settled gs k v ≡ false → (l : List ℕ) × (length l ≡ k) × Chain gs v l)
          → (o : Option Gate) → gate_of gs u ≡ o → (l : List ℕ) × (length l ≡ suc k) × Chain gs u l
      go ih none q = clash refl (rw (q, settled) at e)
      go ih (some g) q =
          let r = gate_found gs u g q in
          let f : (settled gs k (g.left / 2) && settled gs k (g.right / 2)) ≡ false = rw (q, settled) at e in
          test (settled gs k (g.left / 2))
          (λ y. let c = ih (g.right / 2) (rw y at f) in
          ((g.right / 2) ∷ c.0, ap suc c.1, (record { gate = g; there = r.0; defines = r.1; operand = inr refl }, c.2)))
          (λ y. let c = ih (g.left / 2) y in
          ((g.left / 2) ∷ c.0, ap suc c.1, (record { gate = g; there = r.0; defines = r.1; operand = inl refl }, c.2)))

  -- along a chain each variable depends on every later one
  walk : (w u : ℕ) (l : List ℕ) → Chain gs u l → listed l w ≡ true → Depends gs w u
  unfolding listed
  walk w u [] ch e = listed_none w e
  walk w u (v ∷ l) ch e =
      test (eqb v w)
      (λ q. once (rw (eqb-true v w q) at ch.0))
      (λ q. more ch.0 (walk w v l ch.1 (rw (q, listed) at e)))

  twice : (u : ℕ) (l : List ℕ) → Chain gs u l → Distinct (u ∷ l) ⊎ Loop gs
  unfolding listed
  twice u [] ch = inl (refl, tt)
  twice u (v ∷ l) ch =
      test (listed (v ∷ l) u)
      (λ e. inr (u, walk u u (v ∷ l) ch e))
      (λ e. ⊎_elim (λ q. inl (e, q)) inr (twice v l ch.1))

  loop_found : (u : ℕ) → settled gs (length gs) u ≡ false → Loop gs
  loop_found u e =
      let r = unsettled_chain (length gs) u e in
      ⊎_elim
      (λ q. absurd (omega (
        arith,
        r.1,
        length-map gs (λ (g : Gate). g.out),
        inside_length (u ∷ r.0) (outs gs) q (chain_inside u r.0 r.2),
      )))
      (λ q. q)
      (twice u r.0 r.2)

-- the test fails exactly if a gate depends on itself through gates
pub loop_test : (gs : List Gate) → Distinct (outs gs) → (loop_free gs ≡ false) ↔ Loop gs
unfolding loop_free
loop_test gs d = (
  λ e. let r = every_fails (λ (g : Gate). settled gs (length gs) g.out) gs e in loop_found gs r.0.out r.2,
  λ w. test (loop_free gs)
      (λ e. absurd (loop_unsettled gs d (suc (length gs)) w.0 w.1 (length gs) (omega arith) (all_settled gs e w.0)))
      (λ e. e),
)

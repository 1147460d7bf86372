-- The parts of the imported lists: what the clauses of gates, constraints, latches and start values say of a setting, in terms of the assignment that
-- the setting gives. Each part is a truth table and an induction. Assumes nothing.
use Prim.Native.Nat.{ℕ, zero, suc, ◌+◌, ◌*◌, ◌/◌, ◌%◌, ◌^◌, ◌≤◌, ◌<◌}
use mathlib.Core.Path.{◌≡◌, refl, sym, ap₂, ◌∙◌}
use mathlib.Core.Bool.{Bool, true, false, not, ◌&&◌, ◌||◌, beq, and-false, or-false}
use mathlib.Core.List.{List, [], ◌∷◌, map}
use native.Mathlib.Omega.{arith}
use borrow.Author.Tests.{eqb-true, eqb-false, eq-eqb, ne_eqb}
use lib.Dec.{eqb}
use lib.ListN.{length}
use native.Mathlib.Nat.{pow-suc}
use Rattle.base.proofs.Tests.{test}
use Rattle.masks.specs.Bit.{bit}
use Rattle.masks.proofs.Bits.{bit_zero, bit_suc, bit_le}
use Rattle.system.specs.declared.Clause.{Clause}
use Rattle.circuit.specs.Circuit.{Circuit, Latch, Gate, First, low, high, either, first, literal, signed, and_of, every, any, starts, number}
use Rattle.circuit.specs.Import.{here, place_of, empty, mark, clause_of, flip, start_clauses, latch_clauses, gate_clauses, constraint_clauses}
use Rattle.circuit.proofs.Clauses.{says, at_place, read, Within, mark_says, empty_says, clause_says, flip_literal, plain_literal, inverted_literal}

-- a gate's three clauses, a latch's two
gate_table : (o a b rest : Bool)
    → ((not o || (a || false)) && ((not o || (b || false)) && ((o || (not a || (not b || false))) && rest))) ≡ (beq o (a && b) && rest)
gate_table true true true rest = refl
gate_table true true false rest = refl
gate_table true false b rest = refl
gate_table false true true rest = refl
gate_table false true false rest = refl
gate_table false false b rest = refl

latch_table : (t n rest : Bool) → ((t || (not n || false)) && ((not t || (n || false)) && rest)) ≡ (beq t n && rest)
latch_table true true rest = refl
latch_table true false rest = refl
latch_table false true rest = refl
latch_table false false rest = refl

-- the gate is the and of its literals
unfoldable pub right : (ℕ → Bool) → Gate → Bool
right a g = beq (a g.out) (and_of a g)

-- from bit k on, t has these bits
unfoldable pub agrees : ℕ → ℕ → List Bool → Bool
agrees t k [] = true
agrees t k (b ∷ bs) = beq (eqb (bit t k) 1) b && agrees t (suc k) bs

module _ (c : Circuit) (h : (v : ℕ) → Within (place_of c v)) (s x : ℕ) where
  abbrev a : ℕ → Bool
  a = read c s x

  pub gates_say : (gs : List Gate) → every (says s x) (gate_clauses (place_of c) gs) ≡ every (right a) gs
  unfolding every gate_clauses right and_of any
  gates_say [] = refl
  gates_say (g ∷ gs) =
      rw (
        clause_says c h s x ((2 * g.out + 1) ∷ (g.left ∷ [])),
        clause_says c h s x ((2 * g.out + 1) ∷ (g.right ∷ [])),
        clause_says c h s x ((2 * g.out) ∷ (flip g.left ∷ (flip g.right ∷ []))),
        inverted_literal a g.out,
        plain_literal a g.out,
        flip_literal a g.left,
        flip_literal a g.right,
        gates_say gs,
      )
      (gate_table (a g.out) (literal a g.left) (literal a g.right) (every (right a) gs))

  pub constraints_say : (ls : List ℕ) → every (says s x) (constraint_clauses (place_of c) ls) ≡ every (literal a) ls
  unfolding every constraint_clauses any
  constraints_say [] = refl
  constraints_say (l ∷ ls) =
      ap₂ (λ (p q : Bool). p && q) (clause_says c h s x (l ∷ []) ∙ or-false (literal a l)) (constraints_say ls)

  pub latches_say : (t k : ℕ) (ls : List Latch) → ((j : ℕ) → j < 32 → bit s (32 + j) ≡ bit t j) → k + length ls ≤ 32
      → every (says s x) (latch_clauses (place_of c) k ls) ≡ agrees t k (map (λ (l : Latch). literal a l.next) ls)
  unfolding every latch_clauses agrees any signed at_place
  latches_say t k [] later le = refl
  latches_say t k (l ∷ ls) later le =
      rw (
        mark_says (here (32 + k)) (omega arith) 0 s x (clause_of (place_of c) (flip l.next ∷ [])),
        mark_says (here (32 + k)) (omega arith) 1 s x (clause_of (place_of c) (l.next ∷ [])),
        clause_says c h s x (flip l.next ∷ []),
        clause_says c h s x (l.next ∷ []),
        flip_literal a l.next,
        later k (omega arith),
        latches_say t (suc k) ls later (omega arith),
      )
      (latch_table (eqb (bit t k) 1) (literal a l.next) (agrees t (suc k) (map (λ (l : Latch). literal a l.next) ls)))

-- a start clause, of the state
pub starts_say : (s x k : ℕ) (ls : List Latch) → k + length ls ≤ 32 → every (says s x) (start_clauses k ls) ≡ starts k ls s
unfolding every start_clauses starts signed at_place
starts_say s x k [] le = refl
starts_say s x k (l ∷ ls) le = go (first l) (starts_say s x (suc k) ls (omega arith))
  where
    not_one : (b : ℕ) → b ≤ 1 → not (eqb b 1) ≡ eqb b 0
    not_one zero p = refl
    not_one (suc zero) p = refl
    not_one (suc (suc b)) p = absurd (omega arith)

    one : (r : ℕ) → says s x (mark (here k) r empty) ≡ signed r (eqb (bit s k) 1)
    one r = mark_says (here k) (omega arith) r s x empty ∙ rw (empty_says s x) (or-false (signed r (eqb (bit s k) 1)))

    go : (f : First) → every (says s x) (start_clauses (suc k) ls) ≡ starts (suc k) ls s
        → every (says s x) (elim f as (λ z. List Clause) [
          | low ↦ mark (here k) 1 empty ∷ start_clauses (suc k) ls
          | high ↦ mark (here k) 0 empty ∷ start_clauses (suc k) ls
          | either ↦ start_clauses (suc k) ls
        ])
        ≡ ((elim f as (λ z. Bool) [ low ↦ eqb (bit s k) 0 | high ↦ eqb (bit s k) 1 | either ↦ true ]) && starts (suc k) ls s)
    go low e = ap₂ (λ (p q : Bool). p && q) (one 1 ∙ not_one (bit s k) (bit_le s k)) e
    go high e = ap₂ (λ (p q : Bool). p && q) (one 0) e
    go either e = e

-- ---- bits and the number that they make
agrees_half : (t k : ℕ) (bs : List Bool) → agrees t (suc k) bs ≡ agrees (t / 2) k bs
unfolding agrees
agrees_half t k [] = refl
agrees_half t k (b ∷ bs) = rw (bit_suc t k, agrees_half t (suc k) bs)

split : (t n : ℕ) (b : Bool) → (beq (eqb (t % 2) 1) b && eqb (t / 2) n) ≡ eqb t ((elim b as (λ z. ℕ) [ true ↦ 1 | false ↦ 0 ]) + 2 * n)
split t n true =
    test (eqb t (1 + 2 * n))
    (λ e. rw (e, eq-eqb (t % 2) 1 (omega (arith, eqb-true t (1 + 2 * n) e)), eq-eqb (t / 2) n (omega (arith, eqb-true t (1 + 2 * n) e))))
    (λ e. rw e (test (eqb (t / 2) n)
    (λ q. rw (ne_eqb (t % 2) 1 (λ r. omega (arith, eqb-true (t / 2) n q, eqb-false t (1 + 2 * n) e))))
    (λ q. rw q (and-false (beq (eqb (t % 2) 1) true)))))
split t n false =
    test (eqb t (0 + 2 * n))
    (λ e. rw (e, ne_eqb (t % 2) 1 (λ r. omega (arith, eqb-true t (0 + 2 * n) e)), eq-eqb (t / 2) n (omega (arith, eqb-true t (0 + 2 * n) e))))
    (λ e. rw e (test (eqb (t / 2) n)
    (λ q. rw (eq-eqb (t % 2) 1 (omega (arith, eqb-true (t / 2) n q, eqb-false t (0 + 2 * n) e))))
    (λ q. rw q (and-false (beq (eqb (t % 2) 1) false)))))

pub agrees_number : (t : ℕ) (bs : List Bool) → t < 2 ^ length bs → agrees t 0 bs ≡ eqb t (number bs)
unfolding agrees number
agrees_number t [] l = sym (eq-eqb t 0 (omega arith))
agrees_number t (b ∷ bs) l =
    rw (bit_zero t, agrees_half t 0 bs, agrees_number (t / 2) bs (omega (arith, pow-suc 2 (length bs)))) (split t (number bs) b)

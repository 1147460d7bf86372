-- Clauses made of literals. A literal more in a clause is an "or" more: at the literal's position the mask has a new bit, and at every other the bits
-- are as they were. So a clause of a circuit's literals says that one of them is true in the assignment that the setting gives. Assumes nothing.
use Prim.Native.Nat.{ℕ, zero, suc, ◌+◌, ◌*◌, ◌-◌, ◌/◌, ◌%◌, ◌^◌, ◌<◌}
use mathlib.Core.Path.{◌≡◌, refl, sym, ap, ◌∙◌}
use mathlib.Core.Logic.{⊎_elim}
use mathlib.Core.Bool.{Bool, true, false, not, ◌&&◌, ◌||◌, or_assoc, or_comm, or-false, not-not}
use mathlib.Core.List.{List, [], ◌∷◌}
use native.Mathlib.Omega.{arith}
use borrow.Author.Tests.{eqb-true, eqb-false, eq-eqb, ne_eqb, not-false}
use lib.Bits.{bit_or}
use lib.Dec.{eqb}
use Rattle.base.proofs.Tests.{eq_or_ne}
use Rattle.masks.specs.Bit.{bit}
use Rattle.masks.proofs.Bits.{bit_le}
use Rattle.masks.proofs.Operations.{join}
use Rattle.masks.proofs.OneBit.{pow_here, pow_other}
use Rattle.masks.proofs.Somewhere.{or_fails}
use Rattle.system.specs.System.{clause_true, four_true, list_true}
use Rattle.system.specs.declared.Clause.{Clause}
use Rattle.system.proofs.Clauses.{clause_literals}
use Rattle.system.proofs.Sentences.{bit_in_both, both_zero}
use Rattle.circuit.specs.Circuit.{Circuit, signed, literal, every, any}
use Rattle.circuit.specs.Import.{Place, here, wire, nowhere, place_of, empty, with_place, mark, marks, clause_of, flip, flat}
use Rattle.circuit.proofs.Lists.{same_test}

-- ---- one bit more in a mask
module _ (o z w k : ℕ) (h : k < 64) where
  more_ones : clause_true (bit_or o (2 ^ k)) z w ≡ (eqb (bit w k) 1 || clause_true o z w)
  more_ones =
      same_test (clause_true (bit_or o (2 ^ k)) z w) (eqb (bit w k) 1 || clause_true o z w)
      (λ e. let f = (clause_literals (bit_or o (2 ^ k)) z w).0 e in
      (or_fails (eqb (bit w k) 1) (clause_true o z w)).1 (
        ne_eqb (bit w k) 1 (λ q. omega (arith, f k h, join o (2 ^ k) k, pow_here k)),
        (clause_literals o z w).1 (λ i l. (omega (arith, f i l, join o (2 ^ k) i), (f i l).1)),
      ))
      (λ e. let g = (or_fails (eqb (bit w k) 1) (clause_true o z w)).0 e in
      let f = (clause_literals o z w).0 g.1 in
      (clause_literals (bit_or o (2 ^ k)) z w).1 (λ i l. (
        ⊎_elim
            (λ q. rw q (omega (arith, eqb-false (bit w k) 1 g.0, bit_le w k, join o (2 ^ k) k)))
            (λ q. omega (arith, f i l, join o (2 ^ k) i, pow_other k i q))
            (eq_or_ne i k),
        (f i l).1,
      )))

  more_zeros : clause_true o (bit_or z (2 ^ k)) w ≡ (not (eqb (bit w k) 1) || clause_true o z w)
  more_zeros =
      same_test (clause_true o (bit_or z (2 ^ k)) w) (not (eqb (bit w k) 1) || clause_true o z w)
      (λ e. let f = (clause_literals o (bit_or z (2 ^ k)) w).0 e in
      (or_fails (not (eqb (bit w k) 1)) (clause_true o z w)).1 (
        ap not (eq-eqb (bit w k) 1 (omega (arith, f k h, join z (2 ^ k) k, pow_here k, bit_le w k))),
        (clause_literals o z w).1 (λ i l. ((f i l).0, omega (arith, f i l, join z (2 ^ k) i))),
      ))
      (λ e. let g = (or_fails (not (eqb (bit w k) 1)) (clause_true o z w)).0 e in
      let f = (clause_literals o z w).0 g.1 in
      (clause_literals o (bit_or z (2 ^ k)) w).1 (λ i l. (
        (f i l).0,
        ⊎_elim
            (λ q. rw q (omega (arith, eqb-true (bit w k) 1 (not-false (eqb (bit w k) 1) g.0), join z (2 ^ k) k)))
            (λ q. omega (arith, f i l, join z (2 ^ k) i, pow_other k i q))
            (eq_or_ne i k),
      )))

-- ---- one literal more in a clause
-- what the clause says of a setting
unfoldable pub says : ℕ → ℕ → Clause → Bool
says s x m = four_true m.ones.pair m.zeros.pair m.ones.wires m.zeros.wires s x

-- the value that stands at a place
unfoldable pub at_place : ℕ → ℕ → Place → Bool
at_place s x (here k) = eqb (bit s k) 1
at_place s x (wire k) = eqb (bit x k) 1
at_place s x nowhere = false

-- a place within the pair or the wires
abbrev pub Within : Place → Type 0
Within (here k) = k < 64
Within (wire k) = k < 64
Within nowhere = Unit {0}

-- its masks for the pair, and those for the wires
abbrev low : ℕ → Clause → Bool
low s m = clause_true m.ones.pair m.zeros.pair s

abbrev high : ℕ → Clause → Bool
high x m = clause_true m.ones.wires m.zeros.wires x

or_swap : (a b c : Bool) → (a || (b || c)) ≡ (b || (a || c))
or_swap a b c = sym (or_assoc a b c) ∙ rw (or_comm a b) (or_assoc b a c)

pub mark_says : (p : Place) → Within p → (r s x : ℕ) (m : Clause) → says s x (mark p r m) ≡ (signed r (at_place s x p) || says s x m)
unfolding mark with_place says at_place signed four_true
mark_says (here k) h zero s x m = rw (more_ones m.ones.pair m.zeros.pair s k h) (or_assoc (eqb (bit s k) 1) (low s m) (high x m))
mark_says (here k) h (suc r) s x m = rw (more_zeros m.ones.pair m.zeros.pair s k h) (or_assoc (not (eqb (bit s k) 1)) (low s m) (high x m))
mark_says (wire k) h zero s x m = rw (more_ones m.ones.wires m.zeros.wires x k h) (or_swap (low s m) (eqb (bit x k) 1) (high x m))
mark_says (wire k) h (suc r) s x m =
    rw (more_zeros m.ones.wires m.zeros.wires x k h) (or_swap (low s m) (not (eqb (bit x k) 1)) (high x m))
mark_says nowhere h zero s x m = refl
mark_says nowhere h (suc r) s x m =
    ap (λ y. y || high x m)
    (bit_in_both (bit_or m.ones.pair (2 ^ 0)) (bit_or m.zeros.pair (2 ^ 0)) 0 (omega arith)
    (omega (arith, join m.ones.pair (2 ^ 0) 0, pow_here 0))
    (omega (arith, join m.zeros.pair (2 ^ 0) 0, pow_here 0)) s)

pub empty_says : (s x : ℕ) → says s x empty ≡ false
unfolding says empty four_true
empty_says s x = rw (both_zero s) (both_zero x)

-- ---- the literals of a circuit
-- the assignment that a setting gives
unfoldable pub read : Circuit → ℕ → ℕ → ℕ → Bool
read c s x v = at_place s x (place_of c v)

pub flip_literal : (a : ℕ → Bool) (l : ℕ) → literal a (flip l) ≡ not (literal a l)
unfolding flip literal signed
flip_literal a l = go (l % 2) refl
  where
    go : (r : ℕ) → l % 2 ≡ r
        → literal a (elim r as (λ y. ℕ) [ zero ↦ l + 1 | suc q ↦ l - 1 ]) ≡ not (signed r (a (l / 2)))
    go zero e =
        let p : (l + 1) % 2 ≡ 1 = omega arith in
        let q : (l + 1) / 2 ≡ l / 2 = omega arith in
        rw (p, q)
    go (suc r) e =
        let p : (l - 1) % 2 ≡ 0 = omega arith in
        let q : (l - 1) / 2 ≡ l / 2 = omega arith in
        rw (p, q) (sym (not-not (a (l / 2))))

pub plain_literal : (a : ℕ → Bool) (v : ℕ) → literal a (2 * v) ≡ a v
unfolding literal signed
plain_literal a v =
    let p : 2 * v % 2 ≡ 0 = omega arith in
    let q : 2 * v / 2 ≡ v = omega arith in
    rw (p, q)

pub inverted_literal : (a : ℕ → Bool) (v : ℕ) → literal a (2 * v + 1) ≡ not (a v)
unfolding literal signed
inverted_literal a v =
    let p : (2 * v + 1) % 2 ≡ 1 = omega arith in
    let q : (2 * v + 1) / 2 ≡ v = omega arith in
    rw (p, q)

module _ (c : Circuit) (h : (v : ℕ) → Within (place_of c v)) (s x : ℕ) where
  one_more : (l : ℕ) (m : Clause) → says s x (mark (place_of c (l / 2)) (l % 2) m) ≡ (literal (read c s x) l || says s x m)
  unfolding literal read
  one_more l m = mark_says (place_of c (l / 2)) (h (l / 2)) (l % 2) s x m

  marks_say : (m : Clause) (ls : List ℕ) → says s x (marks (place_of c) m ls) ≡ (any (literal (read c s x)) ls || says s x m)
  unfolding marks any
  marks_say m [] = refl
  marks_say m (l ∷ ls) =
      marks_say (mark (place_of c (l / 2)) (l % 2) m) ls
      ∙ rw (one_more l m)
      (or_swap (any (literal (read c s x)) ls) (literal (read c s x) l) (says s x m)
      ∙ sym (or_assoc (literal (read c s x) l) (any (literal (read c s x)) ls) (says s x m)))

  pub clause_says : (ls : List ℕ) → says s x (clause_of (place_of c) ls) ≡ any (literal (read c s x)) ls
  clause_says ls = marks_say empty ls ∙ rw (empty_says s x) (or-false (any (literal (read c s x)) ls))

-- a flat list says what its clauses say
pub flat_says : (s x : ℕ) (ms : List Clause) → list_true (flat ms) s x ≡ every (says s x) ms
unfolding list_true flat every says
flat_says s x [] = refl
flat_says s x (m ∷ ms) = go (says s x m) (flat_says s x ms)
  where
    go : (t : Bool) → list_true (flat ms) s x ≡ every (says s x) ms
        → (elim t as (λ y. Bool) [ true ↦ list_true (flat ms) s x | false ↦ false ]) ≡ (t && every (says s x) ms)
    go true e = e
    go false e = refl

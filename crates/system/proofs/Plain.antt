-- With no wires all that was said of a system stays. Two zero masks add no literal and no wrong wire, there is one setting of no wires, and a list of pairs
-- becomes as many clauses. Refusal 3 used to test a mask without its second too, but where refusal 2 does not apply there is none. Assumes nothing.
use Prim.Native.Nat.{ℕ, ◌+◌, ◌*◌, ◌/◌, ◌%◌, ◌^◌}
use mathlib.Core.Path.{◌≡◌, refl, ap₂, fun_ext, ◌∙◌}
use mathlib.Core.Bool.{Bool, true, false, not, ◌&&◌, ◌||◌, or-false}
use mathlib.Core.List.{List, [], ◌∷◌}
use native.Mathlib.Omega.{arith}
use borrow.Author.Tests.{eqb-true, eqb-false, eq-eqb, ne_eqb, ltb-true, ltb-false, lt-leb, le-leb}
use lib.Dec.{eqb, ltb, leb}
use lib.ListN.{length}
use Rattle.base.proofs.Tests.{test}
use Rattle.masks.specs.Bit.{somewhere}
use Rattle.masks.proofs.Somewhere.{or_fails, somewhere_suc}
use Rattle.system.specs.System.{clause_true, four_true, list_true, some_true, pair, model, wrong_size, wrong_count, wrong_mask, wrong_clause, wrong_bit, refusal_of}
use Rattle.system.specs.Plain.{Plain, plain_true, plain_model, plain_wrong_size, plain_wrong_count, plain_wrong_counts, plain_wrong_bit, plain_refusal, widened_list, widened}
use Rattle.system.proofs.Sentences.{both_zero}

-- ---- what a system means
-- no clause wants a wire
pub plain_list : (l : List ℕ) (s x : ℕ) → list_true (widened_list l) s x ≡ plain_true l s
unfolding list_true four_true widened_list plain_true
plain_list [] s x = refl
plain_list (a ∷ []) s x = refl
plain_list (a ∷ (b ∷ rest)) s x =
    let clause : four_true a b 0 0 s x ≡ clause_true a b s = rw (both_zero x) (or-false (clause_true a b s)) in
    ap₂ (λ (t y : Bool). elim t as (λ z. Bool) [ true ↦ y | false ↦ false ]) clause (plain_list rest s x)

-- no wires have one setting
one_setting : (l : List ℕ) (s : ℕ) → some_true 0 (widened_list l) s ≡ plain_true l s
unfolding some_true somewhere
one_setting l s = somewhere_suc 0 (list_true (widened_list l) s) ∙ or-false (list_true (widened_list l) s 0) ∙ plain_list l s 0

pub plain_model_lem : (y : Plain) → model (widened y) ≡ plain_model y
unfolding widened model plain_model
plain_model_lem y =
    let start = fun_ext (λ s. plain_list y.start s 0) in
    let step = fun_ext (λ s. fun_ext (λ t. one_setting y.step (pair s t))) in
    let bad = fun_ext (one_setting y.bad) in
    rw (start, step, bad)

-- ---- when it is refused
widened_length : (l : List ℕ) → length (widened_list l) ≡ 4 * (length l / 2) + length l % 2
unfolding widened_list
widened_length [] = omega arith
widened_length (a ∷ []) = omega arith
widened_length (a ∷ (b ∷ rest)) = omega (arith, widened_length rest)

plain_count : (l : List ℕ) → wrong_count (widened_list l) ≡ plain_wrong_count l
unfolding wrong_count plain_wrong_count
plain_count l =
    let clauses : length (widened_list l) / 4 ≡ length l / 2 = omega (arith, widened_length l) in
    let odd : not (eqb (length (widened_list l) % 4) 0) ≡ eqb (length l % 2) 1 = test (eqb (length l % 2) 1)
    (λ e. rw (e, ne_eqb (length (widened_list l) % 4) 0 (λ z. omega (arith, widened_length l, eqb-true (length l % 2) 1 e))))
    (λ e. rw (e, eq-eqb (length (widened_list l) % 4) 0 (omega (arith, widened_length l, eqb-false (length l % 2) 1 e)))) in
    rw (clauses, odd)

-- a list of pairs
plain_even : (l : List ℕ) → plain_wrong_count l ≡ false → length l % 2 ≡ 0
unfolding plain_wrong_count
plain_even l e = omega (arith, eqb-false (length l % 2) 1 ((or_fails (eqb (length l % 2) 1) _).0 e).0)

-- a mask passed the old test exactly if it passes the new
plain_mask : (low high x : ℕ) → (ltb (x % 2 ^ 32) (2 ^ low) && ltb (x / 2 ^ 32) (2 ^ high)) ≡ not (wrong_mask low high x)
unfolding wrong_mask
plain_mask low high x =
    rw (below (x % 2 ^ 32) (2 ^ low), below (x / 2 ^ 32) (2 ^ high))
    (both_right (leb (2 ^ low) (x % 2 ^ 32)) (leb (2 ^ high) (x / 2 ^ 32)))
  where
    below : (a b : ℕ) → ltb a b ≡ not (leb b a)
    below a b = test (ltb a b) (λ e. rw (e, lt-leb b a (ltb-true a b e))) (λ e. rw (e, le-leb b a (ltb-false a b e)))

    both_right : (p q : Bool) → (not p && not q) ≡ not (p || q)
    both_right true q = refl
    both_right false q = refl

plain_bit : (low high : ℕ) (l : List ℕ) → length l % 2 ≡ 0 → wrong_bit low high 0 (widened_list l) ≡ plain_wrong_bit low high l
unfolding widened_list wrong_bit wrong_clause plain_wrong_bit
plain_bit low high [] e = refl
plain_bit low high (a ∷ []) e = absurd (omega arith)
plain_bit low high (a ∷ (b ∷ rest)) e =
    pick (wrong_mask low high a) (wrong_mask low high b) (plain_mask low high a) (plain_mask low high b) (plain_bit low high rest (omega arith))
  where
    pick : (p q : Bool) {p' q' r r' : Bool} → p' ≡ not p → q' ≡ not q → r ≡ r'
        → ◌≡◌ {A = Bool}
        (elim (p || (q || false)) [ true ↦ true | false ↦ r ])
        (elim p' [ true ↦ elim q' [ true ↦ r' | false ↦ true ] | false ↦ true ])
    pick true q f g h = rw f
    pick false true f g h = rw (f, g)
    pick false false f g h = rw (f, g, h)

pub plain_refusal_lem : (y : Plain) → refusal_of (widened y) ≡ plain_refusal y
unfolding widened wrong_size plain_wrong_size refusal_of plain_refusal
plain_refusal_lem y =
    rw (or-false (ltb 32 y.n), plain_count y.start, plain_count y.step, plain_count y.bad)
    (test (plain_wrong_counts y.start y.step y.bad)
    (λ e. rw e)
    (λ e.
    let first = (or_fails (plain_wrong_count y.start) _).0 e in
    let second = (or_fails (plain_wrong_count y.step) (plain_wrong_count y.bad)).0 first.1 in
    rw (
      plain_bit y.n 0 y.start (plain_even y.start first.0),
      plain_bit y.n y.n y.step (plain_even y.step second.0),
      plain_bit y.n 0 y.bad (plain_even y.bad second.1),
    )))

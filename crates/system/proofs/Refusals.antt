-- The refusals, as the code finds them. A chain of `||` stops at its first true test. Refusal 3 walks a list: from index i on, a clause with a
-- wrong mask decides and any other is passed. Assumes nothing.
use mathlib.Core.Path.{◌≡◌, refl, sym, ap, ◌∙◌}
use mathlib.Core.Bool.{Bool, true, false, ◌||◌}
use mathlib.Core.List.{List, [], ◌∷◌}
use Prim.Native.Nat.{ℕ, ◌+◌, ◌^◌, ◌≤◌, ◌<◌}
use native.Mathlib.Omega.{arith}
use borrow.Author.Tests.{ltb-false, le-ltb, eqb-false, lt-leb}
use lib.Dec.{eqb, ltb, leb}
use lib.ListN.{length, get_or, drop}
use Rattle.base.specs.Refusals.{◌if◌, ◌else◌}
use Rattle.base.proofs.Refusals.{else_none, if_none}
use Rattle.masks.proofs.Somewhere.{or_fails}
use Rattle.system.specs.System.{System, wrong_size, wrong_counts, wrong_clause, wrong_bit, wrong_bits, refusal_of}
use Rattle.system.proofs.Lists.{next_four, few_left}

-- ---- the first of the tests a, b and c that is true decides; p, q and r are what the code finds
pub or_first : {a p : Bool} (b : Bool) → p ≡ a → p ≡ true → p ≡ (a || b)
or_first b e t = t ∙ sym (ap (λ x. x || b) (sym e ∙ t))

-- a test that is false leaves it to the next
pub or_next : {a b p q : Bool} → p ≡ a → p ≡ false → q ≡ b → q ≡ (a || b)
or_next {b = b} e f g = g ∙ sym (ap (λ x. x || b) (sym e ∙ f))

module _ {a b p q : Bool} (e : p ≡ a) (f : p ≡ false) (g : q ≡ b) where
  pub or_second : (c : Bool) → q ≡ true → q ≡ (a || (b || c))
  or_second c t = or_next e f (or_first c g t)

  pub or_third : {c r : Bool} → q ≡ false → r ≡ c → r ≡ (a || (b || c))
  or_third h k = or_next e f (or_next g h k)

-- ---- `k < 64 && 2 ^ k <= x`, for k up to 64
pub reaches_not : (k x : ℕ) → 64 ≤ k → k ≤ 64 → x < 2 ^ 64 → ltb k 64 ≡ leb (2 ^ k) x
reaches_not k x g l h =
    let e : k ≡ 64 = omega arith in
    le-ltb k 64 g ∙ rw e (sym (lt-leb (2 ^ 64) x h))

-- a clause at the front, with what is said of it
pub bit_clause : (low high wires : ℕ) (t : Bool) (a b c d : ℕ) (rest : List ℕ) → wrong_clause low high wires a b c d ≡ t
    → wrong_bit low high wires (a ∷ (b ∷ (c ∷ (d ∷ rest)))) ≡ (elim t as (λ z. Bool) [ true ↦ true | false ↦ wrong_bit low high wires rest ])
unfolding wrong_bit
bit_clause low high wires t a b c d rest e = ap (λ z. elim z as (λ y. Bool) [ true ↦ true | false ↦ wrong_bit low high wires rest ]) e

module _ (low high wires : ℕ) (l : List ℕ) (i : ℕ) where
  -- the clause at i is wrong
  abbrev pub wrong_at : Bool
  wrong_at = wrong_clause low high wires (get_or l i 0) (get_or l (i + 1) 0) (get_or l (i + 2) 0) (get_or l (i + 3) 0)

  -- a wrong clause decides
  pub bit_stops : i + 3 < length l → wrong_at ≡ true → wrong_bit low high wires (drop i l) ≡ true
  bit_stops h e = rw (next_four l i h) (bit_clause low high wires true _ _ _ _ _ e)

  -- any other is passed
  pub bit_passes : i + 3 < length l → wrong_at ≡ false → wrong_bit low high wires (drop i l) ≡ wrong_bit low high wires (drop (i + 4) l)
  bit_passes h e = rw (next_four l i h) (bit_clause low high wires false _ _ _ _ _ e)

  -- the end of the list is reached
  pub bit_ends : length l ≤ i + 3 → wrong_bit low high wires (drop i l) ≡ false
  unfolding wrong_bit
  bit_ends h = short (drop i l) (few_left l i h)
    where
      short : (d : List ℕ) → length d ≤ 3 → wrong_bit low high wires d ≡ false
      short [] b = refl
      short (p ∷ []) b = refl
      short (p ∷ (q ∷ [])) b = refl
      short (p ∷ (q ∷ (r ∷ []))) b = refl
      short (p ∷ (q ∷ (r ∷ (t ∷ d)))) b = absurd (omega arith)

-- n is from 1 to 32, and w is at most 64, where refusal 1 does not apply
pub size_right : (n w : ℕ) → wrong_size n w ≡ false → (1 ≤ n) × (n ≤ 32) × (w ≤ 64)
unfolding wrong_size
size_right n w e =
    let first = (or_fails (eqb n 0) (ltb 32 n || ltb 64 w)).0 e in
    let second = (or_fails (ltb 32 n) (ltb 64 w)).0 first.1 in
    (omega (arith, eqb-false n 0 first.0), ltb-false 32 n second.0, ltb-false 64 w second.1)

-- a system that is not refused fails all three tests
pub refusal_none : (y : System) → refusal_of y ≡ 0
    → (wrong_size y.n y.w ≡ false) × (wrong_counts y.start y.step y.bad ≡ false) × (wrong_bits y.n y.w y.start y.step y.bad ≡ false)
unfolding refusal_of
refusal_none y e =
    let a = wrong_size y.n y.w in
    let b = wrong_counts y.start y.step y.bad in
    let c = wrong_bits y.n y.w y.start y.step y.bad in
    let first = else_none (1 if a) (2 if b else 3 if c) e in
    let second = else_none (2 if b) (3 if c) first.1 in
    (if_none 0 a first.0, if_none 1 b second.0, if_none 2 c second.1)

-- Sentences of the scope, as theorems about the definitions. Those of clauses go by their literals, those of pairs and of refusal 3 by the bits
-- of a number's two halves: a half is below a power of two exactly if it has no bit from there on. Assumes nothing.
use mathlib.Core.Path.{◌≡◌, refl, sym, ◌∙◌}
use mathlib.Core.Bool.{Bool, true, false, ◌||◌, not-eq-not}
use mathlib.Core.List.{List, [], ◌∷◌}
use mathlib.Core.Logic.{◌↔◌, ⊎_elim}
use Prim.Native.Nat.{ℕ, ◌+◌, ◌/◌, ◌%◌, ◌^◌, ◌≤◌, ◌<◌}
use native.Mathlib.Nat.{mod-lt}
use native.Mathlib.Omega.{arith}
use borrow.Author.Tests.{leb-false, lt-leb}
use lib.Dec.{leb}
use lib.Pow.{pow_pos, shr_lt}
use Rattle.base.proofs.Tests.{clash, lt_or_ge}
use Rattle.masks.specs.Bit.{bit}
use Rattle.masks.proofs.Bits.{bit_le, bit_of_zero, bit_past}
use Rattle.masks.proofs.Halves.{bit_low, bit_high, bit_mod, bit_div}
use Rattle.masks.proofs.Order.{width_bits}
use Rattle.masks.proofs.Somewhere.{or_fails, somewhere_at, somewhere_true}
use Rattle.system.specs.System.{System, clause_true, list_true, some_true, pair, model, wrong_mask, wrong_clause, wrong_bit}
use Rattle.system.proofs.Clauses.{clause_literals}
use Rattle.system.proofs.Refusals.{bit_clause}

-- "A clause with a bit in both masks is always true."
pub bit_in_both : (ones zeros i : ℕ) → i < 64 → bit ones i ≡ 1 → bit zeros i ≡ 1 → (w : ℕ) → clause_true ones zeros w ≡ true
bit_in_both ones zeros i l o z w = not-eq-not.0 (λ e. omega (arith, (clause_literals ones zeros w).0 e i l))

-- "A clause with both masks zero is false": of four, each two.
pub both_zero : (w : ℕ) → clause_true 0 0 w ≡ false
both_zero w = (clause_literals 0 0 w).1 (λ i l. (omega (arith, bit_of_zero i, bit_le w i), omega (arith, bit_of_zero i)))

-- "An empty list is true everywhere:"
pub empty_list : (s x : ℕ) → list_true [] s x ≡ true
unfolding list_true
empty_list s x = refl

-- some setting of w wires makes the list true of the pair s
abbrev pub SomeSetting : ℕ → List ℕ → ℕ → Type 0
SomeSetting w l s = (x : ℕ) × (x < 2 ^ w) × (list_true l s x ≡ true)

pub some_setting : (w : ℕ) (l : List ℕ) (s : ℕ) → (some_true w l s ≡ true) ↔ SomeSetting w l s
unfolding some_true
some_setting w l s = (somewhere_true (2 ^ w) (list_true l s), λ e. somewhere_at (2 ^ w) (list_true l s) e.0 e.1 e.2)

-- "A step exists if some setting of the wires makes T true,"
pub step_exists : (y : System) (s t : ℕ) → ((model y).step s t ≡ true) ↔ SomeSetting y.w y.step (pair s t)
unfolding model
step_exists y s t = some_setting y.w y.step (pair s t)

-- "a state is bad if some setting makes B true:"
pub state_bad : (y : System) (s : ℕ) → ((model y).bad s ≡ true) ↔ SomeSetting y.w y.bad s
unfolding model
state_bad y s = some_setting y.w y.bad s

-- "an empty B makes every state bad."
pub empty_bad : (y : System) → y.bad ≡ [] → (s : ℕ) → (model y).bad s ≡ true
empty_bad y e s = (state_bad y s).1 (0, pow_pos y.w, rw e (empty_list s 0))

-- "Positions 0 to 31 are the state's bits, 32 to 63 the same bits one step later."
pub pair_bits : (s t i : ℕ) → s < 2 ^ 32 → i < 32 → (bit (pair s t) i ≡ bit s i) × (bit (pair s t) (32 + i) ≡ bit t i)
unfolding pair
pair_bits s t i h l = (bit_low 32 i s t l, bit_high 32 i s t h)

-- the mask x uses only bits below `low`, and later bits below `high`
abbrev pub UsesBelow : ℕ → ℕ → ℕ → Type 0
UsesBelow low high x = (i : ℕ) → i < 32 → (low ≤ i → bit x i ≡ 0) × (high ≤ i → bit x (32 + i) ≡ 0)

-- the comparisons of refusal 3 say so
pub mask_uses : (low high x : ℕ) → x < 2 ^ 64 → ((x % 2 ^ 32 < 2 ^ low) × (x / 2 ^ 32 < 2 ^ high)) ↔ UsesBelow low high x
mask_uses low high x h = (
  λ p i l. (
    λ g. sym (bit_mod 32 i x l) ∙ bit_past low (x % 2 ^ 32) i p.0 g,
    λ g. sym (bit_div 32 i x) ∙ bit_past high (x / 2 ^ 32) i p.1 g,
  ),
  λ f. (
    (width_bits low (x % 2 ^ 32)).1 (λ i g. half (x % 2 ^ 32) i (mod-lt x (pow_pos 32)) (λ l. bit_mod 32 i x l ∙ (f i l).0 g)),
    (width_bits high (x / 2 ^ 32)).1 (λ i g. half (x / 2 ^ 32) i (shr_lt 32 32 h) (λ l. bit_div 32 i x ∙ (f i l).1 g)),
  ),
)
  where
    -- a half has no bit from 32 on
    half : (z i : ℕ) → z < 2 ^ 32 → (i < 32 → bit z i ≡ 0) → bit z i ≡ 0
    half z i b f = ⊎_elim f (bit_past 32 z i b) (lt_or_ge i 32)

-- a mask passes refusal 3 exactly if it uses no other bits
pub mask_right : (low high x : ℕ) → x < 2 ^ 64 → (wrong_mask low high x ≡ false) ↔ UsesBelow low high x
unfolding wrong_mask
mask_right low high x h = (
  λ e.
      let both = (or_fails (leb (2 ^ low) (x % 2 ^ 32)) (leb (2 ^ high) (x / 2 ^ 32))).0 e in
      (mask_uses low high x h).0 (leb-false (2 ^ low) (x % 2 ^ 32) both.0, leb-false (2 ^ high) (x / 2 ^ 32) both.1),
  λ f.
      let p = (mask_uses low high x h).1 f in
      (or_fails (leb (2 ^ low) (x % 2 ^ 32)) (leb (2 ^ high) (x / 2 ^ 32))).1
      (lt-leb (2 ^ low) (x % 2 ^ 32) p.0, lt-leb (2 ^ high) (x / 2 ^ 32) p.1),
)

-- Refusal 3, "a clause uses a bit not below n, or a later bit in I or B", and "a wire not declared or used in I": what a clause uses that passes. `high` is n
-- for T, and 0 for I and B; `wires` is w for T and B, and 0 for I.
pub clause_uses : (low high wires a b c d : ℕ) → a < 2 ^ 64 → b < 2 ^ 64
    → (wrong_clause low high wires a b c d ≡ false)
    ↔ (UsesBelow low high a × UsesBelow low high b × (c < 2 ^ wires) × (d < 2 ^ wires))
unfolding wrong_clause
clause_uses low high wires a b c d ha hb = (
  λ e.
      let one = (or_fails (wrong_mask low high a) (wrong_mask low high b || (leb (2 ^ wires) c || leb (2 ^ wires) d))).0 e in
      let two = (or_fails (wrong_mask low high b) (leb (2 ^ wires) c || leb (2 ^ wires) d)).0 one.1 in
      let three = (or_fails (leb (2 ^ wires) c) (leb (2 ^ wires) d)).0 two.1 in (
        (mask_right low high a ha).0 one.0,
        (mask_right low high b hb).0 two.0,
        leb-false (2 ^ wires) c three.0,
        leb-false (2 ^ wires) d three.1,
      ),
  λ f.
      (or_fails (wrong_mask low high a) (wrong_mask low high b || (leb (2 ^ wires) c || leb (2 ^ wires) d))).1 (
        (mask_right low high a ha).1 f.0,
        (or_fails (wrong_mask low high b) (leb (2 ^ wires) c || leb (2 ^ wires) d)).1 (
          (mask_right low high b hb).1 f.1,
          (or_fails (leb (2 ^ wires) c) (leb (2 ^ wires) d)).1 (lt-leb (2 ^ wires) c f.2, lt-leb (2 ^ wires) d f.3),
        ),
      ),
)

-- a list passes exactly if each of its clauses does
pub list_uses : (low high wires a b c d : ℕ) (rest : List ℕ)
    → (wrong_bit low high wires (a ∷ (b ∷ (c ∷ (d ∷ rest)))) ≡ false)
    ↔ ((wrong_clause low high wires a b c d ≡ false) × (wrong_bit low high wires rest ≡ false))
list_uses low high wires a b c d rest = by (wrong_clause low high wires a b c d) refl
  where
    by : (t : Bool) → wrong_clause low high wires a b c d ≡ t
        → (wrong_bit low high wires (a ∷ (b ∷ (c ∷ (d ∷ rest)))) ≡ false) ↔ ((t ≡ false) × (wrong_bit low high wires rest ≡ false))
    by true e = (
      λ f. clash (bit_clause low high wires true a b c d rest e) f,
      λ f. clash refl f.0,
    )
    by false e = (
      λ f. (refl, sym (bit_clause low high wires false a b c d rest e) ∙ f),
      λ f. bit_clause low high wires false a b c d rest e ∙ f.1,
    )

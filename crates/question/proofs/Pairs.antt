-- A condition looks at the positions of a word and at nothing else: those of the pair, and those of the wires. Assumes nothing.
use Prim.Native.Nat.{ℕ, ◌+◌, ◌/◌, ◌%◌, ◌^◌, ◌<◌}
use mathlib.Core.Bool.{Bool, true, false}
use mathlib.Core.List.{List, [], ◌∷◌}
use mathlib.Core.Path.{◌≡◌, refl, sym, ap, ◌∙◌}
use native.Mathlib.Nat.{mod-lt}
use native.Mathlib.Omega.{arith}
use lib.Pow.{pow_pos}
use Rattle.masks.specs.Bit.{bit}
use Rattle.masks.specs.Word.{width}
use Rattle.masks.proofs.Bits.{bits_below}
use Rattle.masks.proofs.Halves.{bit_div, bit_mod}
use Rattle.masks.proofs.Somewhere.{somewhere_same}
use Rattle.masks.proofs.Words.{low_width, high_width}
use Rattle.system.specs.System.{literal_true, clause_true, four_true, list_true}
use Rattle.system.proofs.Lists.{list_clause}
use Rattle.look.specs.Condition.{state_of, word_true, allowed, Condition, fulfils}

-- the numbers w and v have the same bits below the width
abbrev pub Same : ℕ → ℕ → ℕ → Type 0
Same width w v = (j : ℕ) → j < width → bit w j ≡ bit v j

clause_same : (ones zeros w v : ℕ) → Same 64 w v → clause_true ones zeros w ≡ clause_true ones zeros v
unfolding clause_true literal_true
clause_same ones zeros w v h =
    somewhere_same 64 (literal_true ones zeros w) (literal_true ones zeros v) (λ i l. rw (h i l, literal_true))

-- of the pairs s and t, with the wires x and y
pub list_same : (l : List ℕ) (s t x y : ℕ) → Same 64 s t → Same 64 x y → list_true l s x ≡ list_true l t y
unfolding list_true four_true
list_same [] s t x y h g = refl
list_same (a ∷ []) s t x y h g = refl
list_same (a ∷ (b ∷ [])) s t x y h g = refl
list_same (a ∷ (b ∷ (c ∷ []))) s t x y h g = refl
list_same (a ∷ (b ∷ (c ∷ (d ∷ rest)))) s t x y h g =
    list_clause (four_true a b c d t y) a b c d rest s x (rw (clause_same a b s t h, clause_same c d x y g))
    ∙ ap (λ (z : Bool). elim (four_true a b c d t y) as (λ y. Bool) [ true ↦ z | false ↦ false ]) (list_same rest s t x y h g)

module _ (w v : ℕ) (h : Same width w v) where
  pub word_same : (l : List ℕ) → word_true l w ≡ word_true l v
  unfolding word_true
  word_same l =
      list_same l (w % 2 ^ 64) (v % 2 ^ 64) (w / 2 ^ 64) (v / 2 ^ 64)
      (λ j l. bit_mod 64 j w l ∙ h j (low_width j l) ∙ sym (bit_mod 64 j v l))
      (λ j l. bit_div 64 j w ∙ h (64 + j) (high_width j l) ∙ sym (bit_div 64 j v))

  state_same : state_of w ≡ state_of v
  state_same =
      bits_below 32 (w % 2 ^ 32) (v % 2 ^ 32) (mod-lt w (pow_pos 32)) (mod-lt v (pow_pos 32))
      (λ j l. bit_mod 32 j w l ∙ h j (low_width j (omega arith)) ∙ sym (bit_mod 32 j v l))

pub fulfils_same : (c : Condition) (w v : ℕ) → Same width w v → fulfils c w ≡ fulfils c v
unfolding fulfils allowed
fulfils_same c w v h = rw (state_same w v h, word_same w v h c.whole)

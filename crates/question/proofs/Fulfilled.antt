-- Whether a word fulfils the condition, test by test: the state is none of the region, or `whole` decides. The first looks at the state alone,
-- so a failure there rests on the state's bits. Assumes nothing.
use Prim.Native.Nat.{ℕ, ◌-◌, ◌%◌, ◌^◌}
use mathlib.Core.Bool.{Bool, true, false, not, ◌&&◌, ◌||◌, and-true, and-false}
use mathlib.Core.List.{List}
use mathlib.Core.Path.{◌≡◌, refl, sym, ap, ◌∙◌}
use lib.Bits.{and_mask}
use Rattle.base.proofs.Tests.{clash}
use Rattle.masks.specs.Word.{word_of}
use Rattle.masks.specs.declared.Mask.{Mask}
use Rattle.masks.proofs.Halves.{bit_mod}
use Rattle.masks.proofs.Words.{pair_of, wires_of}
use Rattle.system.specs.System.{list_true}
use Rattle.look.specs.Excluded.{excluded}
use Rattle.look.specs.Condition.{state_of, word_true, allowed, Condition, outside, fulfils}
use Rattle.look.specs.Reason.{Agree, Among, Setting, Reason}
use Rattle.question.proofs.Pairs.{list_same}

-- a list of a mask's word is the list of its two words
module _ (l : List ℕ) (m : Mask) where
  pub word_true_lem : word_true l (word_of m) ≡ list_true l m.pair m.wires
  unfolding word_true
  word_true_lem =
      rw (pair_of m, wires_of m)
      (list_same l (m.pair % 2 ^ 64) m.pair (m.wires % 2 ^ 64) m.wires (λ j h. bit_mod 64 j m.pair h) (λ j h. bit_mod 64 j m.wires h))

-- by what is said of the state, l and e, and of the whole word, f
outside_no : (l e f : Bool) → (not l || e) ≡ true → (l && (f && not e)) ≡ false
outside_no true true f h = and-false f
outside_no true false f h = clash h refl
outside_no false e f h = refl

outside_yes : (l e f : Bool) → (not l || e) ≡ false → (l && (f && not e)) ≡ f
outside_yes true true f h = clash refl h
outside_yes true false f h = and-true f
outside_yes false e f h = clash refl h

module _ (c : Condition) (w : ℕ) where
  -- a state outside fulfils nothing
  pub fulfils_outside : outside c (state_of w) ≡ true → fulfils c w ≡ false
  unfolding fulfils allowed outside
  fulfils_outside = outside_no (word_true c.low (state_of w)) (excluded c.i c.states c.levels (state_of w)) (word_true c.whole w)

  -- of any other state `whole` decides
  pub fulfils_inside : outside c (state_of w) ≡ false → fulfils c w ≡ word_true c.whole w
  unfolding fulfils allowed outside
  fulfils_inside = outside_yes (word_true c.low (state_of w)) (excluded c.i c.states c.levels (state_of w)) (word_true c.whole w)

-- words that agree on the state's bits have the same state
pub outside_fails : (c : Condition) (s : Setting) → Among (2 ^ 32 - 1) s.bits → outside c (state_of s.values) ≡ true
    → Reason (fulfils c) s (2 ^ 32 - 1)
unfolding Agree
outside_fails c s a e =
    record {
      among = a;
      why = λ w g. fulfils_outside c w (ap (outside c) (sym (and_mask w 32) ∙ g ∙ and_mask s.values 32) ∙ e);
    }

-- The kinds of lines, by comparing: which are in place behind a stage, and how many bytes each has. Assumes nothing.
use Prim.Native.Nat.{ℕ, zero, suc, ◌+◌, ◌*◌, ◌≤◌, ◌<◌}
use mathlib.Core.Bool.{true, false, ◌&&◌, ◌||◌}
use mathlib.Core.Logic.{◌⊎◌, inr, ⊎_elim}
use mathlib.Core.Path.{◌≡◌, refl, sym, ◌∙◌}
use native.Mathlib.Omega.{arith}
use borrow.Author.Tests.{le-leb, lt-leb, eqb-true, eqb-false, eq-eqb, ne_eqb}
use lib.Dec.{eqb, leb}
use Rattle.base.proofs.Tests.{test, clash, lt_or_ge}
use Rattle.line.specs.Says.{in_place, width, length_for}
use Rattle.line.proofs.Digits.{outside}

module _ (kind : ℕ) where
  pub place_first : (stage : ℕ) → stage ≡ 0 → in_place stage kind ≡ eqb kind 0
  unfolding in_place
  place_first zero e = refl
  place_first (suc s) e = absurd (omega arith)

  -- behind the 00 line
  place_later : (stage : ℕ) → 1 ≤ stage → in_place stage kind ≡ (leb stage kind && ((leb 1 kind && leb kind 3) || eqb kind 15))
  unfolding in_place
  place_later zero h = absurd (omega arith)
  place_later (suc s) h = refl

  module _ (stage : ℕ) (h : 1 ≤ stage) where
    pub place_below : kind < stage → in_place stage kind ≡ false
    place_below k = rw (place_later stage h, lt-leb stage kind k)

    pub place_clause : stage ≤ kind → kind ≤ 3 → in_place stage kind ≡ true
    place_clause k l = rw (place_later stage h, le-leb stage kind k, le-leb 1 kind (omega arith), le-leb kind 3 l)

    pub place_last : stage ≤ kind → (kind < 1) ⊎ (3 < kind) → in_place stage kind ≡ eqb kind 15
    place_last k l = rw (place_later stage h, le-leb stage kind k, outside 1 3 kind l)

  -- a kind in its place, not of the size and not of the count, is a clause's
  pub place_listed : (stage : ℕ) → in_place stage kind ≡ true → (kind ≡ 0 → ⊥) → (kind ≡ 15 → ⊥) → kind ≤ 3
  place_listed zero e f g = absurd (f (eqb-true kind 0 (sym (place_first zero refl) ∙ e)))
  place_listed (suc s) e f g =
      ⊎_elim
      (λ past. ⊎_elim (λ below. clash e (place_below (suc s) (omega arith) below))
      (λ from. absurd (g (eqb-true kind 15 (sym (place_last (suc s) (omega arith) from (inr past)) ∙ e)))) (lt_or_ge kind (suc s)))
      (λ l. l) (lt_or_ge 3 kind)

  -- a mask has eight bytes in a step and four elsewhere
  pub width_step : kind ≡ 2 → width kind ≡ 8
  unfolding width
  width_step e = rw (eq-eqb kind 2 e, width)

  pub width_other : (kind ≡ 2 → ⊥) → width kind ≡ 4
  unfolding width
  width_other e = rw (ne_eqb kind 2 e, width)

  pub width_most : {w : ℕ} → w ≡ width kind → w ≤ 8
  width_most e =
      test (eqb kind 2) (λ f. omega (arith, e, width_step (eqb-true kind 2 f))) (λ f. omega (arith, e, width_other (eqb-false kind 2 f)))

  -- a frame has its kind, its numbers and its sum byte
  pub length_size : kind ≡ 0 → length_for kind ≡ 3
  unfolding length_for
  length_size e = rw (eq-eqb kind 0 e, length_for)

  pub length_count : kind ≡ 15 → length_for kind ≡ 4
  unfolding length_for
  length_count e = rw (ne_eqb kind 0 (λ f. omega arith), eq-eqb kind 15 e, length_for)

  pub length_clause : (kind ≡ 0 → ⊥) → (kind ≡ 15 → ⊥) → length_for kind ≡ 2 + 2 * width kind
  unfolding length_for
  length_clause e f = rw (ne_eqb kind 0 e, ne_eqb kind 15 f, length_for)

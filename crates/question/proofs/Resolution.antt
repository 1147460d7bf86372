-- One bit, given one value and then the other. What fails for both values fails, for what the two reasons rest on without the bit: a word has
-- one value there or the other, and in either case it agrees with what that reason rests on. A reason that does without the bit stands by itself.
-- Forced bits and tried bits are resolved by the same law. Assumes nothing.
use Prim.Native.Nat.{ℕ, ◌+◌, ◌-◌, ◌^◌, ◌≤◌, ◌<◌}
use mathlib.Core.Bool.{Bool, true, false}
use mathlib.Core.Logic.{◌⊎◌, inl, inr, ⊎_elim}
use mathlib.Core.Path.{◌≡◌, sym, ◌∙◌}
use native.Mathlib.Nat.{lt_of_le_of_lt}
use native.Mathlib.Omega.{arith}
use borrow.Author.Tests.{eqb-true}
use lib.Bits.{bit_and, bit_or, or_lt}
use lib.Dec.{eqb}
use Rattle.base.proofs.Tests.{test, eq_or_ne}
use Rattle.masks.specs.Bit.{bit}
use Rattle.masks.proofs.Bits.{bit_le}
use Rattle.masks.proofs.Operations.{join, less}
use Rattle.masks.proofs.OneBit.{and_pow}
use Rattle.look.specs.Reason.{Agree, Among, Reason, more, Setting}
use Rattle.look.proofs.Agreement.{agree_at, agree_by, among_at, among_by, among_le}
use Rattle.look.proofs.Values.{Choice, b_here, b_other, value_here, value_other, other, other_here}
use Rattle.question.specs.Reason.{Sound, resolved}
use Rattle.question.proofs.More.{b_fits, settled_other, more_sound}

-- the first reason does without the bit, or both are taken
module _ (width x y b : ℕ) where
  pub resolved_first : eqb (bit_and x b) 0 ≡ true → resolved width x y b ≡ x
  unfolding resolved
  resolved_first e = rw (e, resolved)

  pub resolved_both : eqb (bit_and x b) 0 ≡ false → resolved width x y b ≡ bit_and (bit_or x y) (2 ^ width - 1 - b)
  unfolding resolved
  resolved_both e = rw (e, resolved)

-- Bit b is open, and x is a value for it; P is the condition.
module _ {width : ℕ} {s : Setting} {b x : ℕ} (C : Choice width s b x) (P : ℕ → Bool) where
  abbrev k : ℕ
  k = C.free.k

  -- a reason without the bit, as the engine tests it
  pub without : (a : ℕ) → bit_and a b ≡ 0 → bit a k ≡ 0
  without a e = (and_pow a k).0 (rw C.free.is at e)

  -- a mask without the bit that is settled was settled before
  among_without : (a : ℕ) → bit a k ≡ 0 → Among a (bit_or s.bits b) → Among a s.bits
  among_without a z h =
      among_by a s.bits (λ j. ⊎_elim
      (λ q. rw q (omega arith))
      (λ f. omega (arith, among_at a (bit_or s.bits b) h j, settled_other C j f))
      (eq_or_ne j k))

  -- a reason that does without the bit holds whatever its value
  pub reason_without : (a : ℕ) → bit a k ≡ 0 → Reason P (more s b x) a → Reason P s a
  reason_without a z r =
      record {
        among = among_without a z r.among;
        why = λ w g.
            r.why w (agree_by a w (bit_or s.values x) (λ j o. ⊎_elim
            (λ e. absurd (omega (arith, rw e at o)))
            (λ f. agree_at a w s.values g j o ∙ sym (value_other C j f))
            (eq_or_ne j k)));
      }

  -- a reason for the value, and a word that has it
  pub reason_with : (a m : ℕ) → Reason P (more s b x) a → ((j : ℕ) → (j ≡ k → ⊥) → bit a j ≤ bit m j) → (w : ℕ) → Agree m w s.values
      → bit w k ≡ bit x k → P w ≡ false
  reason_with a m r l w g e =
      r.why w (agree_by a w (bit_or s.values x) (λ j o. ⊎_elim
      (λ q. rw q (e ∙ sym (value_here C)))
      (λ f. agree_at m w s.values g j (omega (arith, l j f, bit_le m j)) ∙ sym (value_other C j f))
      (eq_or_ne j k)))

-- a word has the one value or the other
pub eq_or_other : (v a c : ℕ) → v ≤ 1 → c + a ≡ 1 → (v ≡ a) ⊎ (v ≡ c)
eq_or_other v a c h e = ⊎_elim inl (λ f. inr (omega (arith, f))) (eq_or_ne v a)

-- RESOLUTION: y is the reason of the one value, z that of the other
module _ {width : ℕ} {s : Setting} {b x : ℕ} (ok : Sound width s) (C : Choice width s b x) (P : ℕ → Bool)
    (y z : ℕ) (ry : Reason P (more s b x) y) (rz : Reason P (more s b (b - x)) z) where
  -- the two reasons together, without the bit
  both : ℕ
  both = bit_and (bit_or y z) (2 ^ width - 1 - b)

  -- a reason is a mask of the width
  fits : (a : ℕ) → Among a (bit_or s.bits b) → a < 2 ^ width
  fits a h = lt_of_le_of_lt (among_le a (bit_or s.bits b) h) (more_sound C ok).fits

  both_at : (j : ℕ) → bit both j ≡ bit (bit_or y z) j - bit b j
  unfolding both
  both_at j = less width (bit_or y z) b j (or_lt width y z (fits y ry.among) (fits z rz.among)) (b_fits C.free)

  both_reason : Reason P s both
  both_reason =
      record {
        among =
            among_without C P both
            (omega (arith, both_at C.free.k, b_here C.free, bit_le (bit_or y z) C.free.k))
            (among_by both (bit_or s.bits b) (λ j.
            omega (
              arith,
              both_at j,
              join y z j,
              among_at y (bit_or s.bits b) ry.among j,
              among_at z (bit_or s.bits b) rz.among j,
            )));
        why = λ w g.
            ⊎_elim
            (λ q. reason_with C P y both ry (λ j f. omega (arith, both_at j, join y z j, b_other C.free j f)) w g q)
            (λ q. reason_with (other C) P z both rz (λ j f. omega (arith, both_at j, join y z j, b_other C.free j f)) w g q)
            (eq_or_other (bit w C.free.k) _ _ (bit_le w C.free.k) (other_here C));
      }

  pub resolved_reason : Reason P s (resolved width y z b)
  unfolding both
  resolved_reason =
      test (eqb (bit_and y b) 0)
      (λ e. rw (resolved_first width y z b e) (reason_without C P y (without C P y (eqb-true (bit_and y b) 0 e)) ry))
      (λ e. rw (resolved_both width y z b e) both_reason)

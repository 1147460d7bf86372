-- One bit more is settled, by a choice. At its position k all is settled then, and elsewhere what was; so a word that agrees with more settled bits
-- agrees with fewer, and one that has the value at k agrees with more. Assumes nothing.
use Prim.Native.Nat.{ℕ, ◌^◌, ◌<◌}
use mathlib.Core.Logic.{⊎_elim}
use mathlib.Core.Path.{◌≡◌, sym, ◌∙◌}
use native.Mathlib.Omega.{arith}
use lib.Bits.{bit_or, or_lt}
use lib.Count.{ones-le}
use lib.Pow.{pow-lt}
use Rattle.base.proofs.Tests.{eq_or_ne}
use Rattle.masks.specs.Bit.{bit}
use Rattle.masks.proofs.Bits.{bit_le}
use Rattle.masks.proofs.Operations.{join}
use Rattle.masks.proofs.Count.{ones_or}
use Rattle.look.specs.Reason.{Open, more, Setting}
use Rattle.look.proofs.Agreement.{agree_at, agree_by, among_at, among_by}
use Rattle.look.proofs.Values.{Choice, b_here, b_other, value_here, value_other}
use Rattle.question.specs.Reason.{Agrees, Sound, Falls}

-- an open bit is a mask of the width
pub b_fits : {width : ℕ} {s : Setting} {b : ℕ} → (free : Open width s b) → b < 2 ^ width
b_fits free = rw free.is (pow-lt free.low)

module _ {width : ℕ} {s : Setting} {b x : ℕ} (C : Choice width s b x) where
  abbrev k : ℕ
  k = C.free.k

  pub settled_here : bit (bit_or s.bits b) k ≡ 1
  settled_here = omega (arith, join s.bits b k, b_here C.free)

  pub settled_other : (j : ℕ) → (j ≡ k → ⊥) → bit (bit_or s.bits b) j ≡ bit s.bits j
  settled_other j f = omega (arith, join s.bits b j, b_other C.free j f)

  -- the invariant is kept
  pub more_sound : Sound width s → Sound width (more s b x)
  more_sound ok =
      record {
        fits = or_lt width s.bits b ok.fits (b_fits C.free);
        within =
            among_by (bit_or s.values x) (bit_or s.bits b)
            (λ j. ⊎_elim
            (λ e. rw e (omega (arith, settled_here, bit_le (bit_or s.values x) k)))
            (λ f. omega (arith, settled_other j f, value_other C j f, among_at s.values s.bits ok.within j))
            (eq_or_ne j k));
      }

  -- the number of open bits falls
  pub more_falls : Sound width s → Falls width s (more s b x)
  more_falls ok =
      record {
        one = rw C.free.is (ones_or k s.bits C.free.unsettled);
        most = ones-le width (bit_or s.bits b) (more_sound ok).fits;
      }

  -- a word that agrees with more settled bits agrees with fewer
  pub agrees_fewer : (w : ℕ) → Agrees (more s b x) w → Agrees s w
  agrees_fewer w g =
      agree_by s.bits w s.values
      (λ j o. ⊎_elim
      (λ e. absurd (omega (arith, C.free.unsettled, rw e at o)))
      (λ f. agree_at (bit_or s.bits b) w (bit_or s.values x) g j (settled_other j f ∙ o) ∙ value_other C j f)
      (eq_or_ne j k))

  -- a word that has the value at k agrees with more
  pub agrees_more : (w : ℕ) → Agrees s w → bit w k ≡ bit x k → Agrees (more s b x) w
  agrees_more w g e =
      agree_by (bit_or s.bits b) w (bit_or s.values x)
      (λ j o. ⊎_elim
      (λ q. rw q (e ∙ sym (value_here C)))
      (λ f. agree_at s.bits w s.values g j (sym (settled_other j f) ∙ o) ∙ sym (value_other C j f))
      (eq_or_ne j k))

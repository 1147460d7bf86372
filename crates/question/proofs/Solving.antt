-- What is said of settled bits, from what is known with one bit more settled, by force or by trial, and with no bit open. P is the condition. Assumes
-- nothing.
use Prim.Native.Nat.{ℕ, ◌-◌, ◌^◌, ◌≤◌, ◌<◌}
use mathlib.Core.Bool.{Bool, true, false}
use mathlib.Core.Logic.{inl, inr, ⊎_elim}
use mathlib.Core.Path.{◌≡◌, refl, ◌∙◌}
use native.Mathlib.Nat.{lt_of_le_of_lt, mod-eq_of_lt}
use native.Mathlib.Omega.{arith}
use lib.Bits.{bit_and, and_comm, and_mask}
use lib.Pow.{pow_pos, ones_lt}
use Rattle.base.proofs.Tests.{lt_or_ge}
use Rattle.masks.specs.Bit.{bit}
use Rattle.masks.proofs.Bits.{bit_past, at_bit}
use Rattle.masks.proofs.Operations.{full}
use Rattle.look.specs.Reason.{Agree, Among, Open, Reason, Forces, more, Setting}
use Rattle.look.proofs.Agreement.{agree_at, among_at, among_by, among_le}
use Rattle.look.proofs.Values.{Choice}
use Rattle.question.specs.Reason.{Sound, Passing, open_of}
use Rattle.question.proofs.More.{agrees_fewer}
use Rattle.question.proofs.Resolution.{without, reason_without}
use Rattle.question.proofs.Pairs.{Same}

-- a bit that is not settled is 0 among the values
pub no_value : {width : ℕ} {s : Setting} {b : ℕ} → Sound width s → (O : Open width s b) → bit s.values O.k ≡ 0
no_value {s = s} ok O = omega (arith, among_at s.values s.bits ok.within O.k, O.unsettled)

-- a word that passes with one bit more settled
pub more_passes : {width : ℕ} {s : Setting} {b x : ℕ} → Choice width s b x → (P : ℕ → Bool) (w : ℕ) → Passing width P (more s b x) w
    → Passing width P s w
more_passes C P w p = record { fits = p.fits; agrees = agrees_fewer C w p.agrees; true_of = p.true_of }

-- ---- a forced bit
abbrev pub forced : {width : ℕ} {P : ℕ → Bool} {s : Setting} {reason b value : ℕ} → Sound width s → Forces width P s reason b value
    → Choice width s b value
forced ok F = record { free = F.free; empty = no_value ok F.free; either = F.either }

-- ---- a tried bit
module _ {width : ℕ} {s : Setting} {b : ℕ} (ok : Sound width s) (O : Open width s b) where
  abbrev pub at_zero : Choice width s b 0
  at_zero = record { free = O; empty = no_value ok O; either = inl refl }

  abbrev pub at_one : Choice width s b b
  at_one = record { free = O; empty = no_value ok O; either = inr refl }

  -- the bit is no part of the reason
  pub zero_enough : (P : ℕ → Bool) (a : ℕ) → Reason P (more s b 0) a → bit_and a b ≡ 0 → Reason P s a
  zero_enough P a r e = reason_without at_zero P a (without at_zero P a e) r

  -- a bit whose 0 is refuted is forced to 1
  pub refuted : {P : ℕ → Bool} {a : ℕ} → Reason P (more s b 0) a → Forces width P s a b b
  refuted r =
      let e : b - b ≡ 0 = omega arith in
      record { free = O; either = inr refl; fails = rw e r }

-- not all bits are settled: one is open
pub some_open : (width : ℕ) (s : Setting) → s.bits < 2 ^ width - 1 → 0 < open_of width (2 ^ width - 1) s
some_open width s h =
    let e : bit_and (2 ^ width - 1) (2 ^ width - 1 - s.bits) ≡ 2 ^ width - 1 - s.bits =
    and_comm (2 ^ width - 1) (2 ^ width - 1 - s.bits)
    ∙ and_mask (2 ^ width - 1 - s.bits) width
    ∙ mod-eq_of_lt (omega (arith, pow_pos width)) in
    rw e (omega arith)

-- ---- no bit is open
module _ (width : ℕ) (P : ℕ → Bool) (s : Setting) (ok : Sound width s) where
  pub full_passes : P s.values ≡ true → Passing width P s s.values
  unfolding Agree
  full_passes e =
      record { fits = lt_of_le_of_lt (among_le s.values s.bits ok.within) ok.fits; agrees = refl; true_of = e }

  pub full_nothing : ((w v : ℕ) → Same width w v → P w ≡ P v) → s.bits ≡ 2 ^ width - 1 → P s.values ≡ false → Reason P s s.bits
  full_nothing same all e =
      record {
        among = among_by s.bits s.bits (λ j. omega arith);
        why = λ w g. same w s.values (λ j l. agree_at s.bits w s.values g j (rw all (full width j l))) ∙ e;
      }

  -- the state's bits are settled then
  pub state_among : (k : ℕ) → k ≤ width → s.bits ≡ 2 ^ width - 1 → Among (2 ^ k - 1) s.bits
  state_among k h all =
      among_by (2 ^ k - 1) s.bits (λ j. ⊎_elim
      (λ l. omega (arith, full k j l, at_bit j all, full width j (omega arith)))
      (λ g. omega (arith, bit_past k (2 ^ k - 1) j (ones_lt k) g))
      (lt_or_ge j k))

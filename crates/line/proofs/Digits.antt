-- The value of a digit, by comparing: from 48 to 57, from 65 to 70, or none. It is at most 16, so a byte that two make is at most 272, and below 256
-- if both are digits. Assumes nothing.
use Prim.Native.Nat.{ℕ, ◌+◌, ◌-◌, ◌≤◌, ◌<◌}
use mathlib.Core.Bool.{false, ◌&&◌, and-false}
use mathlib.Core.List.{List}
use mathlib.Core.Logic.{◌⊎◌, inr, ⊎_elim}
use mathlib.Core.Path.{◌≡◌, refl}
use native.Mathlib.Omega.{arith}
use borrow.Author.Tests.{leb-true, le-leb, lt-leb}
use lib.Dec.{leb}
use lib.ListN.{get_or}
use Rattle.base.proofs.Tests.{test, both, eq_or_ne}
use Rattle.line.specs.Text.{digit}
use Rattle.line.specs.Inner.{byte_at}

-- a number that is not from a to b
pub outside : (a b c : ℕ) → (c < a) ⊎ (b < c) → (leb a c && leb c b) ≡ false
outside a b c =
    ⊎_elim (λ h. rw (lt-leb a c h)) (λ h. rw (lt-leb c b h, and-false (leb a c)))

module _ (c : ℕ) where
  pub digit_number : 48 ≤ c → c ≤ 57 → digit c ≡ c - 48
  unfolding digit
  digit_number h k = rw (le-leb 48 c h, le-leb c 57 k, digit)

  pub digit_letter : 65 ≤ c → c ≤ 70 → digit c ≡ c - 55
  unfolding digit
  digit_letter h k = rw (outside 48 57 c (inr (omega arith)), le-leb 65 c h, le-leb c 70 k, digit)

  pub digit_none : (c < 48) ⊎ (57 < c) → (c < 65) ⊎ (70 < c) → digit c ≡ 16
  unfolding digit
  digit_none h k = rw (outside 48 57 c h, outside 65 70 c k, digit)

  pub digit_most : {r : ℕ} → r ≡ digit c → r ≤ 16
  unfolding digit
  digit_most q =
      rw q
      (test (leb 48 c && leb c 57)
      (λ e. rw (e, digit) (omega (arith, leb-true c 57 (both (leb 48 c) (leb c 57) e).1)))
      (λ e. test (leb 65 c && leb c 70)
      (λ f. rw (e, f, digit) (omega (arith, leb-true c 70 (both (leb 65 c) (leb c 70) f).1)))
      (λ f. rw (e, f, digit) (omega arith))))

-- the first n bytes are digits
abbrev pub AllDigits : List ℕ → ℕ → Type 0
AllDigits line n = (j : ℕ) → j < n → digit (get_or line j 0) < 16

pub digits_more : (line : List ℕ) (n : ℕ) {r : ℕ} → AllDigits line n → r ≡ digit (get_or line n 0) → (r ≡ 16 → ⊥) → AllDigits line (n + 1)
digits_more line n all e f j h =
    ⊎_elim
    (λ q. rw q (omega (arith, digit_most (get_or line n 0) e, e, f)))
    (λ g. all j (omega (arith, g)))
    (eq_or_ne j n)

module _ (text : List ℕ) (i : ℕ) where
  pub byte_most : {b : ℕ} → b ≡ byte_at text i → b ≤ 272
  unfolding byte_at
  byte_most e = omega (arith, e, digit_most (get_or text i 0) refl, digit_most (get_or text (i + 1) 0) refl)

  pub byte_small : digit (get_or text i 0) < 16 → digit (get_or text (i + 1) 0) < 16 → byte_at text i < 256
  unfolding byte_at
  byte_small h k = omega arith

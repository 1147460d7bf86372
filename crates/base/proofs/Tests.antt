-- How a proof goes by a test: both values are tried, and each keeps the equation that says which it was; and by the order of two numbers.
-- Assumes nothing.
use Prim.Native.Nat.{ℕ, ◌-◌, ◌≤◌, ◌<◌}
use mathlib.Core.Bool.{Bool, true, false, ◌&&◌, true≢false}
use mathlib.Core.Logic.{◌⊎◌, inl, inr, ⊎_elim}
use mathlib.Core.Path.{◌≡◌, refl, sym, ◌∙◌}
use native.Mathlib.Nat.{eq-zero-or-pos, eq-or-lt_of_le}
use native.Mathlib.Omega.{arith}

pub test {ℓ} : {C : Type ℓ} (b : Bool) → (b ≡ true → C) → (b ≡ false → C) → C
test true f g = f refl
test false f g = g refl

-- no test is both
pub clash {ℓ} : {C : Type ℓ} {b : Bool} → b ≡ true → b ≡ false → C
clash p q = absurd (true≢false (sym p ∙ q))

pub both : (a b : Bool) → (a && b) ≡ true → (a ≡ true) × (b ≡ true)
both true b e = (refl, e)
both false b e = clash e refl

-- of two that are not both true, the first is false where the second is true
pub first_false : (a b : Bool) → (a && b) ≡ false → b ≡ true → a ≡ false
first_false true b e f = clash f e
first_false false b e f = refl

-- a number is below another or not
pub lt_or_ge : (a b : ℕ) → (a < b) ⊎ (b ≤ a)
lt_or_ge a b = ⊎_elim (λ e. inr (omega arith)) (λ p. inl (omega arith)) (eq-zero-or-pos (b - a))

-- a number is another or not
pub eq_or_ne : (a b : ℕ) → (a ≡ b) ⊎ (a ≡ b → ⊥)
eq_or_ne a b =
    ⊎_elim
    (λ l. inr (omega arith))
    (λ g. ⊎_elim (λ e. inl (sym e)) (λ l. inr (omega arith)) (eq-or-lt_of_le g))
    (lt_or_ge a b)

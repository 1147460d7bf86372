-- The first refusal. One that applies is the first, whatever follows; where none is given, none applies; and none is above the greatest number. Assumes
-- nothing.
use Prim.Native.Nat.{ℕ, zero, suc, ◌≤◌}
use mathlib.Core.Bool.{Bool, true, false}
use mathlib.Core.Path.{◌≡◌, refl}
use native.Mathlib.Omega.{arith}
use Rattle.base.specs.Refusals.{◌if◌, ◌else◌}
use Rattle.base.specs.Numbers.{number_of}
use Rattle.base.specs.declared.Refusal.{Refusal}
use Rattle.base.specs.declared.Refusal.TheVariants.{Size, Masks, Bits, Stores, Evidence, Digits, Sum, Kind, Length, Room, Count, Form, TooFew, Latches, Wires, Variables, Loop, Watched, Justice, StartValue, Given, Store, ClauseStore}

-- a refusal as code has it, a number that is not 0
pub else_first : (r a b : ℕ) → r ≡ a → (r ≡ 0 → ⊥) → r ≡ a else b
else_first zero a b e f = absurd (f refl)
else_first (suc r) zero b e f = absurd (omega arith)
else_first (suc r) (suc a) b e f = e

-- none of two
pub else_none : (a b : ℕ) → a else b ≡ 0 → (a ≡ 0) × (b ≡ 0)
else_none zero b e = (refl, e)
else_none (suc a) b e = absurd (omega arith)

-- the test of one that is not given
pub if_none : (k : ℕ) (t : Bool) → suc k if t ≡ 0 → t ≡ false
if_none k true e = absurd (omega arith)
if_none k false e = refl

-- no number above the greatest
pub else_most : (k a b : ℕ) → a ≤ k → b ≤ k → (a else b) ≤ k
else_most k zero b h l = l
else_most k (suc a) b h l = h

pub if_most : (k : ℕ) (t : Bool) → (k if t) ≤ k
if_most k true = omega arith
if_most k false = omega arith

-- the number of a refusal is none that says there is no refusal
pub number_not_none : (r : Refusal) → number_of r ≡ 0 → ⊥
number_not_none Size e = absurd (omega arith)
number_not_none Masks e = absurd (omega arith)
number_not_none Bits e = absurd (omega arith)
number_not_none Stores e = absurd (omega arith)
number_not_none Evidence e = absurd (omega arith)
number_not_none Digits e = absurd (omega arith)
number_not_none Sum e = absurd (omega arith)
number_not_none Kind e = absurd (omega arith)
number_not_none Length e = absurd (omega arith)
number_not_none Room e = absurd (omega arith)
number_not_none Count e = absurd (omega arith)
number_not_none Form e = absurd (omega arith)
number_not_none TooFew e = absurd (omega arith)
number_not_none Latches e = absurd (omega arith)
number_not_none Wires e = absurd (omega arith)
number_not_none Variables e = absurd (omega arith)
number_not_none Loop e = absurd (omega arith)
number_not_none Watched e = absurd (omega arith)
number_not_none Justice e = absurd (omega arith)
number_not_none StartValue e = absurd (omega arith)
number_not_none Given e = absurd (omega arith)
number_not_none Store e = absurd (omega arith)
number_not_none ClauseStore e = absurd (omega arith)

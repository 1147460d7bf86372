-- What a look says of one condition it says of every condition that fails wherever that one does. Assumes nothing.
use Prim.Native.Nat.{ℕ}
use mathlib.Core.Bool.{Bool, false}
use mathlib.Core.Path.{◌≡◌}
use Rattle.look.specs.Reason.{Setting, Reason}
use Rattle.look.specs.Look.{Scanned}
use Rattle.look.specs.declared.Look.{Look}
use Rattle.look.specs.declared.Look.TheVariants.{Rest, Failed, Forced}
use Rattle.look.specs.declared.Settled.{Settled}

module _ (P Q : ℕ → Bool) (h : (w : ℕ) → P w ≡ false → Q w ≡ false) where
  reason_by : (s : Setting) (bits : ℕ) → Reason P s bits → Reason Q s bits
  reason_by s bits r = record { among = r.among; why = λ w a. h w (r.why w a) }

  pub scanned_by : (s : Settled) (r : Look) → Scanned P s r → Scanned Q s r
  scanned_by s Rest l = tt
  scanned_by s (Failed reason) l = reason_by _ _ l
  scanned_by s (Forced reason b value next) l = record { free = l.free; either = l.either; fails = reason_by _ _ l.fails }

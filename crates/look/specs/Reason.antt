-- What a look finds, of words of any width, as numbers that are read bit by bit: settled bits for which nothing passes, and bits that are forced. P is
-- the condition.
use Rattle.std.specs.Prelude.{ℕ, ◌-◌, ◌^◌, ◌<◌, Bool, false, ◌⊎◌, ◌≡◌}
use Rattle.std.specs.Int.Bits.{bit_and, bit_or}
use Rattle.masks.specs.Bit.{bit}

-- the words w and v agree on the bits of m
unfoldable pub Agree : ℕ → ℕ → ℕ → Type 0
Agree m w v = bit_and w m ≡ bit_and v m

-- the bits of m are among those of s
unfoldable pub Among : ℕ → ℕ → Type 0
Among m s = bit_and m s ≡ m

-- ---- a setting
-- settled bits, and their values
pub record Setting : Type 0 where
  pub bits : ℕ
  pub values : ℕ

-- b is the mask of one position, k, that is open
pub record Open (width : ℕ) (s : Setting) (b : ℕ) : Type 0 where
  pub k : ℕ
  pub low : k < width
  pub is : b ≡ 2 ^ k
  pub unsettled : bit s.bits k ≡ 0

-- one bit more is settled, b at `value`
abbrev pub more : Setting → ℕ → ℕ → Setting
more s b value = record { bits = bit_or s.bits b; values = bit_or s.values value }

-- ---- why nothing passes
-- A REASON: settled bits such that no word that agrees with the values on them passes P
pub record Reason (P : ℕ → Bool) (s : Setting) (bits : ℕ) : Type 0 where
  pub among : Among bits s.bits
  pub why : (w : ℕ) → Agree bits w s.values → P w ≡ false

-- The open bit b is forced to `value`, which is 0 or b: settled at the other value it fails, for `reason`.
pub record Forces (width : ℕ) (P : ℕ → Bool) (s : Setting) (reason b value : ℕ) : Type 0 where
  pub free : Open width s b
  pub either : (value ≡ 0) ⊎ (value ≡ b)
  pub fails : Reason P (more s b (b - value)) reason

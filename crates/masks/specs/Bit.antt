-- A mask is a number, read bit by bit; bit 0 is the lowest. Nothing here depends on a width.
use Rattle.std.specs.Prelude.{ℕ, zero, suc, ◌/◌, ◌%◌, ◌^◌, Bool, true, false}

-- bit i of the mask m, 0 or 1
unfoldable pub bit : ℕ → ℕ → ℕ
bit m i = m / 2 ^ i % 2

-- some position below k passes the test
unfoldable pub somewhere : ℕ → (ℕ → Bool) → Bool
somewhere zero p = false
somewhere (suc k) p = elim (p k) [ true ↦ true | false ↦ somewhere k p ]

-- The random numbers (xorshift): a number with itself shifted up or down, three times.
use Rattle.std.specs.Prelude.{ℕ, ◌*◌, ◌/◌, ◌%◌, ◌^◌, bit_xor}

abbrev pub with_up : ℕ → ℕ → ℕ
with_up k x = bit_xor x (x * 2 ^ k % 2 ^ 64)

abbrev pub with_down : ℕ → ℕ → ℕ
with_down k x = bit_xor x (x / 2 ^ k)

unfoldable pub next_of : ℕ → ℕ
next_of seed = with_up 17 (with_down 7 (with_up 13 seed))

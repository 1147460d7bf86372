-- A mask of two words is one number of 128 positions: the pair in positions 0 to 63, the wires in 64 to 127.
use Rattle.std.specs.Prelude.{ℕ, ◌+◌, ◌*◌, ◌%◌, ◌^◌, ◌<◌, ◌≡◌}
use Rattle.masks.specs.declared.Mask.{Mask}

unfoldable pub width : ℕ
width = 64 + 64

-- of each word the 64 positions that it has
unfoldable pub word_of : Mask → ℕ
word_of m = m.wires % 2 ^ 64 * 2 ^ 64 + m.pair % 2 ^ 64

-- m has a 1 at one position, below w, alone
pub record OneBit (w m : ℕ) : Type 0 where
  pub k : ℕ
  pub low : k < w
  pub is : m ≡ 2 ^ k

-- The ends of a mask: the positions of its lowest and of its highest 1.
use Rattle.std.specs.Prelude.{ℕ, ◌<◌, ◌≡◌}
use Rattle.masks.specs.Bit.{bit}

-- k is the position of the lowest bit of m that is 1
pub record Lowest (m k : ℕ) : Type 0 where
  pub here : bit m k ≡ 1
  pub below : (j : ℕ) → j < k → bit m j ≡ 0

-- k is the position of the highest bit of m that is 1
pub record Highest (m k : ℕ) : Type 0 where
  pub here : bit m k ≡ 1
  pub above : (j : ℕ) → k < j → bit m j ≡ 0

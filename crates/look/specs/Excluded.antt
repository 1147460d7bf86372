-- Which states are excluded, out of two lent lists: states, and their levels.
use Rattle.std.specs.Prelude.{ℕ, Bool, ◌&&◌, List, leb, length, get_or}
use Rattle.masks.specs.Bit.{somewhere}
use Rattle.ic3.specs.Model.{holds}

-- s is stored with a level of i or more; an entry with no level beside it has every level
unfoldable pub excluded : ℕ → List ℕ → List ℕ → ℕ → Bool
excluded i states levels s = somewhere (length states) (λ j. holds (get_or states j 0) s && leb i (get_or levels j i))

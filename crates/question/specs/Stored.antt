-- The store of the search, out of two lent lists: the states in order of first storing, and their levels.
use Rattle.std.specs.Prelude.{ℕ, List, [], ◌∷◌}
use Rattle.ic3.specs.Search.{Entry}

-- each state with the level beside it; what one list has more than the other is no part
unfoldable pub stored : List ℕ → List ℕ → List Entry
stored [] levels = []
stored (s ∷ states) [] = []
stored (s ∷ states) (k ∷ levels) = record { state = s; level = k } ∷ stored states levels

-- Lent stores: a list in front of one, and zeros behind it.
use Rattle.std.specs.Prelude.{ℕ, ◌-◌, List, ◌++◌, length, replicate}

-- the store starts with `front`, and everything behind that is zero
unfoldable pub over : List ℕ → List ℕ → List ℕ
over front store = front ++ replicate (length store - length front) 0

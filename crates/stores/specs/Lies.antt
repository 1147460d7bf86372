-- A list in front of a store.
use Rattle.std.specs.Prelude.{ℕ, ◌≤◌, List, ◌≡◌, length, take}
use Rattle.stores.specs.Over.{over}

-- the first `count` numbers of a store are a list, and all behind it is zero
pub record Lies (count : ℕ) (store : List ℕ) : Type 0 where
  pub fits : count ≤ length store
  pub rest : store ≡ over (take count store) store

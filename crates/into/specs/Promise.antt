-- What the call promises: there is one list of the states that step into the given one, and what is told is told of it.
use Rattle.std.specs.Prelude.{ℕ, Bool, List, ◌≡◌}
use Rattle.std.specs.Prelude as std
use Rattle.base.specs.Numbers.{number_of}
use Rattle.system.specs.System.{System, model}
use Rattle.into.specs.Into.{Lists, Into, Result, result, written, told}
use Rattle.into.specs.declared.Listing.{Listing}
use Rattle.into.specs.declared.Unlisted.{Unlisted}

-- what is told, with its number
abbrev pub result_of : std.Result Listing Unlisted → List ℕ → Result
result_of (std.Ok l) after = result 0 l.count l.questions after
result_of (std.Err u) after = result (number_of u.refusal) 0 u.questions after

pub record Promised (y : System) (t : ℕ) (lent : List ℕ) (r : std.Result Listing Unlisted) (after : List ℕ) : Type 0 where
  pub list : List ℕ
  pub is : Into (model y) t list
  pub only : (xs : List ℕ) → Into (model y) t xs → xs ≡ list
  pub equation : result_of r after ≡ told y t list lent

-- the same of a store that is filled with the numbers below `size` that pass p
abbrev pub Filled : ℕ → (ℕ → Bool) → List ℕ → std.Result Listing Unlisted → List ℕ → Type 0
Filled size p lent r after = (xs : List ℕ) → Lists size p xs → result_of r after ≡ written xs lent

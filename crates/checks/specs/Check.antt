-- Which check is for the evidence of an outcome, and its number.
use Rattle.std.specs.Prelude.{ℕ, Option, Some, None}
use Rattle.call.specs.declared.Outcome.{Outcome}
use Rattle.call.specs.declared.Outcome.TheVariants.{Safe, Unsafe, GaveUp, Refused}
use Rattle.checks.specs.declared.Check.{Check}
use Rattle.checks.specs.declared.Check.TheVariants.{Excluded, Path}

abbrev pub check_of : Outcome → Option Check
check_of (Safe _ _) = Some Excluded
check_of (Unsafe _ _) = Some Path
check_of (GaveUp _ _) = None
check_of (Refused _) = None

abbrev pub number_of : Option Check → ℕ
number_of (Some Excluded) = 0
number_of (Some Path) = 1
number_of None = 2

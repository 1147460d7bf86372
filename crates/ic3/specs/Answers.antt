-- What makes an answer to a question right.
use Rattle.std.specs.Prelude.{ℕ, ◌<◌, Bool, true, false, ◌≡◌}
use Rattle.std.proofs.Math.Option.{Option, none, some}

-- s is the least of the numbers below k that fulfil the condition
pub record Least (k : ℕ) (p : ℕ → Bool) (s : ℕ) : Type 0 where
  pub state : s < k
  pub fulfils : p s ≡ true
  pub first : (t : ℕ) → t < s → p t ≡ false

-- what makes an answer right: "none" is said exactly if none exists
abbrev pub Answers : ℕ → (ℕ → Bool) → Option ℕ → Type 0
Answers k p none = (s : ℕ) → s < k → p s ≡ false
Answers k p (some s) = Least k p s

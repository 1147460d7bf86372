-- What the evidence check promises: the equation with its definition; yes and no exactly as demand 2 says; what a yes means; and that the search's
-- own evidence is accepted.
use Rattle.std.specs.Prelude.{ℕ, suc, ◌≤◌, true, false, List, ◌↔◌, ◌≡◌, length}
use Rattle.ic3.specs.Model.{Model}
use Rattle.ic3.specs.Demands.{Reach, IsPath, covers, Excludes}
use Rattle.system.specs.System.{System, model}
use Rattle.call.specs.Call.{Stores, Said, says_safe, says_unsafe, called}
use Rattle.evidence.specs.Check.{Checked, Yes, No, Refused, number_of, questions_of, refused, excluded_states, path_of, checked}

abbrev pub SaysYes : Checked → Type 0
SaysYes (Yes questions) = Unit {0}
SaysYes (No questions) = ⊥
SaysYes (Refused number) = ⊥

abbrev pub SaysNo : Checked → Type 0
SaysNo (Yes questions) = ⊥
SaysNo (No questions) = Unit {0}
SaysNo (Refused number) = ⊥

-- Yes exactly if the evidence is right, no exactly if it is not; a refusal says neither. What the search hands back with this verdict is accepted.
pub record Judged (y : System) (xs : List ℕ) (Right : Type 0) (verdict : Said) (r : Checked) : Type 0 where
  pub number : number_of r ≡ refused y xs
  pub accepts : SaysYes r ↔ ((refused y xs ≡ 0) × Right)
  pub rejects : SaysNo r ↔ ((refused y xs ≡ 0) × (Right → ⊥))
  pub own : (lent : Stores) (allowance : ℕ) → (called y lent allowance).said ≡ verdict → (called y lent allowance).evidence ≡ xs → SaysYes r

-- of excluded states
pub record ExcludedChecked (y : System) (xs : List ℕ) (r : Checked) : Type 0 where
  pub equation : r ≡ checked excluded_states y xs
  pub judged : Judged y xs (Excludes (model y) (covers xs)) says_safe r
  pub never : SaysYes r → (k s : ℕ) → Reach (model y) k s → (model y).bad s ≡ false
  pub few : questions_of r ≤ suc (length xs)

-- a bad state is reachable
pub record BadReached (M : Model) : Type 0 where
  pub steps : ℕ
  pub state : ℕ
  pub reached : Reach M steps state
  pub bad : M.bad state ≡ true

-- of a path
pub record PathChecked (y : System) (xs : List ℕ) (r : Checked) : Type 0 where
  pub equation : r ≡ checked path_of y xs
  pub judged : Judged y xs (IsPath (model y) xs) says_unsafe r
  pub reached : SaysYes r → BadReached (model y)
  pub none : questions_of r ≡ 0

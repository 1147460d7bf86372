-- Beyond demand 2: which of the shortest paths is handed back, said without the search.
use Rattle.std.specs.Prelude.{ℕ, suc, ◌≤◌, ◌<◌, true, List, [], ◌∷◌, ◌≡◌}
use Rattle.ic3.specs.Model.{Model}
use Rattle.ic3.specs.Search.{Verdict, safe, unsafe, gave_up}
use Rattle.ic3.specs.Demands.{Reach}

-- s is reached within k steps
pub record Within (M : Model) (k s : ℕ) : Type 0 where
  pub distance : ℕ
  pub few : distance ≤ k
  pub reach : Reach M distance s

-- Of the states s, then xs, of which s is reached in k steps: the last is the least bad state reached as soon, and each before it is the
-- least that steps to the one after it and is reached as soon.
abbrev pub LeastFrom : Model → ℕ → ℕ → List ℕ → Type 0
LeastFrom M k s [] = (u : ℕ) → u < s → M.bad u ≡ true → Within M k u → ⊥
LeastFrom M k s (t ∷ xs) = ((u : ℕ) → u < s → M.step u t ≡ true → Within M k u → ⊥) × LeastFrom M (suc k) t xs

-- With d the smallest distance of a bad state: the last state is the least bad state at distance d, and before each state stands the least
-- one that steps to it and is reached within one step less.
abbrev pub Canonical : Model → List ℕ → Type 0
Canonical M [] = ⊥
Canonical M (s ∷ xs) = LeastFrom M 0 s xs

abbrev pub CanonicalPath : Model → Verdict → Type 0
CanonicalPath M (safe evidence) = Unit {0}
CanonicalPath M (unsafe path) = Canonical M path
CanonicalPath M (gave_up why) = Unit {0}

-- What demands 2 and 3 speak of, said of a model: reachable states and paths, evidence that is right, and the number m.
use Rattle.std.specs.Prelude.{ℕ, zero, suc, ◌≤◌, ◌<◌, Bool, true, false, List, [], ◌∷◌, ◌↔◌, ◌≡◌, eqb, length}
use Rattle.ic3.specs.Model.{Model}

-- the state s is reached from a start state in k steps
pub data Reach (M : Model) : ℕ → ℕ → Type 0 where
  starts : {s : ℕ} → s < M.size → M.start s ≡ true → Reach M zero s
  steps : {k s t : ℕ} → Reach M k s → t < M.size → M.step s t ≡ true → Reach M (suc k) t

-- the state s steps to the first of xs, each of them steps to the next, and the last is bad
abbrev pub Leads : Model → ℕ → List ℕ → Type 0
Leads M s [] = (s < M.size) × (M.bad s ≡ true)
Leads M s (t ∷ xs) = (s < M.size) × (M.step s t ≡ true) × Leads M t xs

-- a path: not empty, it begins with a start state, each state steps to the next, and the last is bad
abbrev pub IsPath : Model → List ℕ → Type 0
IsPath M [] = ⊥
IsPath M (s ∷ xs) = (M.start s ≡ true) × Leads M s xs

-- s is listed
unfoldable pub listed : List ℕ → ℕ → Bool
listed [] s = false
listed (x ∷ xs) s = elim (eqb x s) [ true ↦ true | false ↦ listed xs s ]

-- some of a list holds s; while what is stored is a state, that is to be listed
abbrev pub covers : List ℕ → ℕ → Bool
covers xs s = listed xs s

-- a set of excluded states, given as a test, is right
pub record Excludes (M : Model) (out : ℕ → Bool) : Type 0 where
  pub no_start : (s : ℕ) → s < M.size → M.start s ≡ true → out s ≡ false
  pub all_bad : (s : ℕ) → s < M.size → M.bad s ≡ true → out s ≡ true
  pub closed : (s t : ℕ) → s < M.size → t < M.size → out s ≡ false → M.step s t ≡ true → out t ≡ false

-- no reachable state is bad, with evidence that is right and lists states
pub record Safe (M : Model) (evidence : List ℕ) : Type 0 where
  pub states : (s : ℕ) → listed evidence s ≡ true → s < M.size
  pub excludes : Excludes M (covers evidence)
  pub never : (k s : ℕ) → Reach M k s → M.bad s ≡ false

-- a real path, start to bad, and none is shorter
pub record Unsafe (M : Model) (path : List ℕ) : Type 0 where
  pub real : IsPath M path
  pub shortest : (other : List ℕ) → IsPath M other → length path ≤ length other

-- there is a start state, and there is none
pub record HasStart (M : Model) : Type 0 where
  pub state : ℕ
  pub inside : state < M.size
  pub starts : M.start state ≡ true

abbrev pub NoStart : Model → Type 0
NoStart M = (s : ℕ) → s < M.size → M.start s ≡ false

-- s is no start state and leads to a bad one in any number of steps, none included
pub record Doomed (M : Model) (s : ℕ) : Type 0 where
  pub no_start : M.start s ≡ false
  pub onward : List ℕ
  pub leads : Leads M s onward

-- no number stands twice
abbrev pub Distinct : List ℕ → Type 0
Distinct [] = Unit {0}
Distinct (x ∷ xs) = (listed xs x ≡ false) × Distinct xs

-- m is the number of those with the property P: some list has exactly these, none twice, and m of them
pub record Number (P : ℕ → Type 0) (m : ℕ) : Type 0 where
  pub those : List ℕ
  pub distinct : Distinct those
  pub exact : (s : ℕ) → (listed those s ≡ true) ↔ P s
  pub many : length those ≡ m

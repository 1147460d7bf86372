-- The evidence check of the scope: for every system and every list of states what it answers, and how many questions it asks.
use Rattle.std.specs.Prelude.{ℕ, zero, suc, ◌^◌, Bool, true, false, not, ◌&&◌, List, [], ◌∷◌, ltb}
use Rattle.std.proofs.Math.Option.{Option, none, some}
use Rattle.base.specs.Refusals.{◌if◌, ◌else◌}
use Rattle.ic3.specs.Model.{Model, least}
use Rattle.ic3.specs.Demands.{covers}
use Rattle.system.specs.System.{System, model, refusal_of}

-- yes or no, with the count of questions; or the number of a refusal, which says neither
pub data Checked : Type 0 where
  Yes : ℕ → Checked
  No : ℕ → Checked
  Refused : ℕ → Checked

-- the scope's number, and the count of questions; a refusal reports none
abbrev pub number_of : Checked → ℕ
number_of (Yes questions) = 0
number_of (No questions) = 0
number_of (Refused number) = number

abbrev pub questions_of : Checked → ℕ
questions_of (Yes questions) = questions
questions_of (No questions) = questions
questions_of (Refused number) = 0

-- each of a list passes a test
unfoldable pub each : (ℕ → Bool) → List ℕ → Bool
each p [] = true
each p (x ∷ xs) = elim (p x) [ true ↦ each p xs | false ↦ false ]

-- The refusals in the order 1, 2, 3, 7; 0 if there is none. Refusal 7: some listed state is not below 2^n.
unfoldable pub refused : System → List ℕ → ℕ
refused y xs = refusal_of y else 7 if not (each (λ x. ltb x (2 ^ y.n)) xs)

-- the question of the check: the least state below `size` outside the list that passes a test
unfoldable pub outside : ℕ → List ℕ → (ℕ → Bool) → Option ℕ
outside size xs p = least size (λ s. not (covers xs s) && p s)

-- For each t of ts in turn, whether a state outside the list xs steps to it; `asked` questions led here.
unfoldable pub closed_from : ℕ → (ℕ → ℕ → Bool) → List ℕ → List ℕ → ℕ → Checked
closed_from size step xs [] asked = Yes asked
closed_from size step xs (t ∷ ts) asked =
    elim (outside size xs (λ s. step s t)) [ none ↦ closed_from size step xs ts (suc asked) | some s ↦ No (suc asked) ]

-- Excluded states: no start state is listed, which takes no question; every bad state is; and no state outside the list steps into it.
unfoldable pub excluded_states : Model → List ℕ → Checked
excluded_states M xs =
    elim (each (λ x. not (M.start x)) xs) [
      | true ↦ elim (outside M.size xs M.bad) [ none ↦ closed_from M.size M.step xs xs 1 | some s ↦ No 1 ]
      | false ↦ No 0
    ]

-- each state steps to the next, and the last is bad
unfoldable pub leads_on : (ℕ → ℕ → Bool) → (ℕ → Bool) → List ℕ → Bool
leads_on step bad [] = false
leads_on step bad (s ∷ []) = bad s
leads_on step bad (s ∷ (t ∷ xs)) = elim (step s t) [ true ↦ leads_on step bad (t ∷ xs) | false ↦ false ]

-- A path: it is not empty, begins with a start state, each state steps to the next, and the last is bad. No question is asked.
unfoldable pub path_of : Model → List ℕ → Checked
path_of M [] = No 0
path_of M (s ∷ xs) =
    elim (M.start s) [ true ↦ elim (leads_on M.step M.bad (s ∷ xs)) [ true ↦ Yes 0 | false ↦ No 0 ] | false ↦ No 0 ]

-- THE CHECK, of either kind of evidence
unfoldable pub checked : (Model → List ℕ → Checked) → System → List ℕ → Checked
checked judge y xs = elim (refused y xs) [ zero ↦ judge (model y) xs | suc r ↦ Refused (suc r) ]

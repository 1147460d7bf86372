-- Every state that steps into a given one: the list by what it has, and the call for every input.
use Rattle.std.specs.Prelude.{ℕ, zero, suc, ◌+◌, ◌^◌, ◌<◌, Bool, true, false, not, List, [], ◌∷◌, ◌↔◌, ◌≡◌, ltb, length}
use Rattle.base.specs.Refusals.{◌if◌, ◌else◌}
use Rattle.stores.specs.Over.{over}
use Rattle.ic3.specs.Model.{Model}
use Rattle.ic3.specs.Demands.{listed}
use Rattle.system.specs.System.{System, refusal_of}

-- each number is below all that follow it
abbrev pub Rising : List ℕ → Type 0
Rising [] = Unit {0}
Rising (x ∷ xs) = ((s : ℕ) → listed xs s ≡ true → x < s) × Rising xs

-- xs has exactly the numbers below `size` that pass p, in rising order, so each once
pub record Lists (size : ℕ) (p : ℕ → Bool) (xs : List ℕ) : Type 0 where
  pub rising : Rising xs
  pub exact : (s : ℕ) → (listed xs s ≡ true) ↔ ((s < size) × (p s ≡ true))

-- THE LIST: every state that steps into t
abbrev pub Into : Model → ℕ → List ℕ → Type 0
Into M t xs = Lists M.size (λ s. M.step s t) xs

-- the refusals that need no question, in the order 1, 2, 3, 29; 0 if there is none. Refusal 29: the given state is not below 2^n.
unfoldable pub refused : System → ℕ → ℕ
refused y t = refusal_of y else 29 if not (ltb t (2 ^ y.n))

-- the number, 0 or a refusal; how many states are listed; the questions asked; and what the store holds afterwards
pub record Result : Type 0 where
  pub number : ℕ
  pub count : ℕ
  pub questions : ℕ
  pub after : List ℕ

abbrev pub result : ℕ → ℕ → ℕ → List ℕ → Result
result number count questions after = record { number = number; count = count; questions = questions; after = after }

-- The list stands in front of the store, with zeros behind. Refusal 30: its states outnumber the store, which is then all zero.
unfoldable pub written : List ℕ → List ℕ → Result
written xs lent =
    elim (ltb (length lent) (length xs)) [
      | true ↦ result 30 0 (length lent + 1) (over [] lent)
      | false ↦ result 0 (length xs) (length xs + 1) (over xs lent)
    ]

-- THE CALL, where xs is the list. A refusal that needs no question leaves the store untouched.
unfoldable pub told : System → ℕ → List ℕ → List ℕ → Result
told y t xs lent = elim (refused y t) [ zero ↦ written xs lent | suc r ↦ result (suc r) 0 0 lent ]

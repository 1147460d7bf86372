-- The whole call of the scope: for every system, stores and allowance what it returns, and what the lent stores hold afterwards.
use Rattle.std.specs.Prelude.{ℕ, zero, suc, ◌+◌, Bool, not, ◌||◌, List, [], eqb, ltb, length}
use Rattle.base.specs.Refusals.{◌if◌, ◌else◌, most_stored}
use Rattle.stores.specs.Over.{over}
use Rattle.ic3.specs.Search.{Why, no_room, spent, no_start, Verdict, safe, unsafe, gave_up, Rounds, shortened, searched}
use Rattle.system.specs.System.{System, model, refusal_of}

-- the state store, the level store and the path store
pub record Stores : Type 0 where
  pub states : List ℕ
  pub levels : List ℕ
  pub path : List ℕ

-- refusal 4: state store and level store differ in length, or are longer than 65,536, or the path store is shorter than their length plus 2
unfoldable pub wrong_stores : Stores → Bool
wrong_stores s =
    not (eqb (length s.states) (length s.levels))
    || (ltb most_stored (length s.states) || ltb (length s.path) (length s.states + 2))

-- the refusals in the order 1, 2, 3, 4; 0 if there is none
unfoldable pub refused : System → Stores → ℕ
refused y s = refusal_of y else 4 if wrong_stores s

-- what is said: a verdict, with the number 0; or that the search gave up; or a refusal
pub data Said : Type 0 where
  says_safe : Said
  says_unsafe : Said
  gives_up : Said
  refuses : Said

pub record Result : Type 0 where
  pub number : ℕ
  pub said : Said
  pub questions : ℕ
  pub evidence : List ℕ
  pub after : Stores

-- the state store and the path store start with these, and everything else is zero
unfoldable pub leaves : Stores → List ℕ → List ℕ → Stores
leaves s front path = record { states = over front s.states; levels = over [] s.levels; path = over path s.path }

abbrev pub result : ℕ → Said → ℕ → List ℕ → Stores → Result
result number said q evidence after = record { number = number; said = said; questions = q; evidence = evidence; after = after }

-- the number of a search that gave up
abbrev pub why_number : Why → ℕ
why_number spent = 5
why_number no_room = 6
why_number no_start = 14

-- The evidence is the front part of the state store after safe, of the path store after unsafe, and else the empty front of the state store.
unfoldable pub ended : Stores → ℕ → Verdict → Result
ended s q (safe evidence) = result 0 says_safe q evidence (leaves s evidence [])
ended s q (unsafe path) = result 0 says_unsafe q path (leaves s [] path)
ended s q (gave_up why) = result (why_number why) gives_up q [] (leaves s [] [])

-- the rounds of step 4
abbrev pub rounds : Rounds
rounds = shortened

-- THE CALL. The room is the length of the state store. A refusal reports zero questions and leaves the stores untouched.
unfoldable pub called : System → Stores → ℕ → Result
called y s allowance =
    elim (refused y s) [
      | zero ↦ (let e = searched rounds (model y) (length s.states) allowance in ended s e.questions e.verdict)
      | suc r ↦ result (suc r) refuses 0 [] s
    ]

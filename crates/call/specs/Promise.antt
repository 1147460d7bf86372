-- What the public search promises: the equation with the call's definition, and demands 2 and 3 for the system given.
use Rattle.std.specs.Prelude.{ℕ, ◌+◌, ◌*◌, ◌≤◌, List, ◌↔◌, ◌≡◌, length, take}
use Rattle.std.specs.Borrow.{Bor}
use Rattle.ic3.specs.Model.{Model}
use Rattle.ic3.specs.Demands.{HasStart, NoStart, Doomed, Number}
use Rattle.ic3.specs.Demands as demands
use Rattle.system.specs.System.{System, model}
use Rattle.call.specs.Call.{Stores, refused, Said, says_safe, says_unsafe, gives_up, refuses, Result, result, called}
use Rattle.call.specs.declared.Outcome.{Outcome}
use Rattle.call.specs.declared.Outcome.TheVariants.{Safe, Unsafe, GaveUp, Refused}

-- the three lent stores
abbrev pub stores : List ℕ → List ℕ → List ℕ → Stores
stores ss ls path = record { states = ss; levels = ls; path = path }

-- Of each outcome the scope's number, what is said, and the questions asked.
abbrev pub number_of : Outcome → ℕ
number_of (Safe count questions) = 0
number_of (Unsafe count questions) = 0
number_of (GaveUp number questions) = number
number_of (Refused number) = number

abbrev pub said_of : Outcome → Said
said_of (Safe count questions) = says_safe
said_of (Unsafe count questions) = says_unsafe
said_of (GaveUp number questions) = gives_up
said_of (Refused number) = refuses

abbrev pub questions_of : Outcome → ℕ
questions_of (Safe count questions) = questions
questions_of (Unsafe count questions) = questions
questions_of (GaveUp number questions) = questions
questions_of (Refused number) = 0

-- how many states the evidence has
abbrev pub count_of : Outcome → ℕ
count_of (Safe count questions) = count
count_of (Unsafe count questions) = count
count_of (GaveUp number questions) = 0
count_of (Refused number) = 0

-- the store of which it is the front, the state store or the path store; of the state store where there is none
abbrev pub evidence_store : {A : Type 0} → Outcome → A → A → A
evidence_store (Safe count questions) states path = states
evidence_store (Unsafe count questions) states path = path
evidence_store (GaveUp number questions) states path = states
evidence_store (Refused number) states path = states

abbrev pub evidence_of : Outcome → List ℕ → List ℕ → List ℕ
evidence_of o states path = take (count_of o) (evidence_store o states path)

-- What is handed back is the evidence, and no copy: it starts where its store starts.
pub record HandedBack (o : Outcome) (states path part : Bor (List ℕ)) : Type 0 where
  pub content : part.now ≡ evidence_of o states.now path.now
  pub place : part.ref_ptr ≡ (evidence_store o states path).ref_ptr

abbrev pub result_of : Outcome → Stores → Result
result_of o after = result (number_of o) (said_of o) (questions_of o) (evidence_of o after.states after.path) after

-- demand 2, of what is said and its evidence
abbrev pub Right : Model → Said → List ℕ → Type 0
Right M says_safe evidence = demands.Safe M evidence
Right M says_unsafe evidence = demands.Unsafe M evidence
Right M gives_up evidence = Unit {0}
Right M refuses evidence = Unit {0}

-- demand 3, of a call: m is the number of states that are no start state and lead to a bad one
pub record Within (y : System) (lent : Stores) (allowance : ℕ) (r : Result) (m : ℕ) : Type 0 where
  pub few : r.questions ≤ 3 * ((m + 2) * (m + 2))
  pub answers : refused y lent ≡ 0 → HasStart (model y) → m ≤ length lent.states → 3 * ((m + 2) * (m + 2)) ≤ allowance → r.number ≡ 0

-- the question for a start state, of a call: it ends with 14 exactly if nothing is refused, there is leave to ask and no start state; and with a verdict
-- only if there is a start state
pub record StartAsked (y : System) (lent : Stores) (allowance : ℕ) (r : Result) : Type 0 where
  pub none : (r.number ≡ 14) ↔ ((refused y lent ≡ 0) × (1 ≤ allowance) × NoStart (model y))
  pub verdict : r.number ≡ 0 → HasStart (model y)

pub record Promised (y : System) (lent : Stores) (allowance : ℕ) (o : Outcome) (after : Stores) : Type 0 where
  pub equation : result_of o after ≡ called y lent allowance
  pub evidence_length : count_of o ≡ length (called y lent allowance).evidence
  pub demand_2 : Right (model y) (said_of o) (evidence_of o after.states after.path)
  pub demand_3 : (m : ℕ) → Number (Doomed (model y)) m → Within y lent allowance (result_of o after) m
  pub start_asked : StartAsked y lent allowance (result_of o after)
  pub exists_m : (m : ℕ) × Number (Doomed (model y)) m

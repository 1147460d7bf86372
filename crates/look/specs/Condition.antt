-- What is asked of a word: a pair, the state in its low half and the same bits one step later in its high half; and above it the wires.
use Rattle.std.specs.Prelude.{ℕ, zero, suc, ◌/◌, ◌%◌, ◌^◌, Bool, not, ◌&&◌, ◌||◌, List, []}
use Rattle.std.specs.Borrow.{Bor}
use Rattle.system.specs.System.{list_true}
use Rattle.look.specs.Excluded.{excluded}
use Rattle.look.specs.declared.Region.{Region}

-- the state of a word
abbrev pub state_of : ℕ → ℕ
state_of w = w % 2 ^ 32

-- the list is true of a word
unfoldable pub word_true : List ℕ → ℕ → Bool
word_true l w = list_true l (w % 2 ^ 64) (w / 2 ^ 64)

-- the state of a word is not excluded
unfoldable pub allowed : List ℕ → List ℕ → ℕ → ℕ → Bool
allowed states levels i w = not (excluded i states levels (state_of w))

-- A condition: `low` is asked of the state, `whole` of the whole word, and the state must not be stored with a level of i or more.
pub record Condition : Type 0 where
  pub low : List ℕ
  pub whole : List ℕ
  pub states : List ℕ
  pub levels : List ℕ
  pub i : ℕ

abbrev pub condition : List ℕ → List ℕ → List ℕ → List ℕ → ℕ → Condition
condition low whole states levels i = record { low = low; whole = whole; states = states; levels = levels; i = i }

-- what is asked of a state of R(i): for R(0) `within` is the start list, and above it are the stored states
abbrev pub region : List ℕ → List ℕ → List ℕ → ℕ → Condition
region within whole levels zero = condition within whole [] levels 0
region within whole levels (suc i) = condition [] whole within levels (suc i)

-- the same of a lent region and a lent list
abbrev pub lent : Region → Bor (List ℕ) → Condition
lent r whole = region r.within.now whole.now r.levels.now r.i

-- the state s is none of the region
unfoldable pub outside : Condition → ℕ → Bool
outside c s = not (word_true c.low s) || excluded c.i c.states c.levels s

-- the word w fulfils the condition
unfoldable pub fulfils : Condition → ℕ → Bool
fulfils c w = word_true c.low (state_of w) && (word_true c.whole w && allowed c.states c.levels c.i w)

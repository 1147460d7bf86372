-- What the private functions require and ensure, with a name for each fact. Nothing here has to be believed: no public promise mentions it.
use Rattle.std.specs.Prelude.{Option, None, Some, ℕ, ◌+◌, ◌-◌, ◌≤◌, ◌<◌, true, false, List, ◌≡◌, eqb, leb, length, get_or, take}
use Rattle.std.specs.declared.ops.ControlFlow.{ControlFlow}
use Rattle.std.specs.declared.ops.ControlFlow.TheVariants.{Continue, Break}
use Rattle.ic3.specs.Search.{put, states, fits, tested}
use Rattle.ic3.specs.Search as ic3
use Rattle.ic3.specs.Shape.{Tidy, Shape}
use Rattle.call.specs.Call.{Stores, ended, rounds}
use Rattle.call.specs.Promise.{count_of, result_of}
use Rattle.call.specs.declared.Outcome.{Outcome}
use Rattle.search.specs.Lent.{window, store_of, config_of, verdict_of, move_of}
use Rattle.search.specs.declared.store.Lent.{Lent}
use Rattle.search.specs.declared.react.Phase.{Phase}
use Rattle.search.specs.declared.react.Phase.TheVariants.{Look, Settle, Raise}
use Rattle.search.specs.declared.react.Config.{Config}
use Rattle.search.specs.declared.react.Verdict.{Verdict}
use Rattle.search.specs.declared.react.Verdict.TheVariants.{Safe, Unsafe, GaveUp}

-- ---- the lent stores
-- after is lent the same three slices as before, with whatever content
pub record SameSlices (before after : Lent) : Type 0 where
  pub states : after.states.ghost_name ≡ before.states.ghost_name
  pub levels : after.levels.ghost_name ≡ before.levels.ghost_name
  pub path : after.path.ghost_name ≡ before.path.ghost_name
  pub states_length : length after.states.now ≡ length before.states.now
  pub levels_length : length after.levels.now ≡ length before.levels.now
  pub path_length : length after.path.now ≡ length before.path.now

-- ---- the store
-- `count` entries, in a state store and a level store of one length
pub record Holds (count : ℕ) (ss ls : List ℕ) : Type 0 where
  pub same : length ls ≡ length ss
  pub within : count ≤ length ss

-- s does not stand at the indices from i up to below m
abbrev pub Absent : List ℕ → ℕ → ℕ → ℕ → Type 0
Absent xs i m s = (l : ℕ) → i ≤ l → l < m → get_or xs l 0 ≡ s → ⊥

-- r is the first index from j up to below count at which s stands, or count
pub record FirstAt (xs : List ℕ) (j count s r : ℕ) : Type 0 where
  pub from : j ≤ r
  pub within : r ≤ count
  pub here : r < count → get_or xs r 0 ≡ s
  pub before : Absent xs j r s

-- the first index, if there is one
abbrev pub First : List ℕ → ℕ → ℕ → ℕ → Option ℕ → Type 0
First xs j count s None = FirstAt xs j count s count
First xs j count s (Some r) = FirstAt xs j count s r × (r < count)

-- a walk over the levels of `count` entries begins at entry j
pub record Walks (ls : List ℕ) (count j : ℕ) : Type 0 where
  pub within : count ≤ length ls
  pub from : j ≤ count

-- s got level k: the store is now that of c entries in the stores ss' and ls', and fits
pub record Stays (ss ls : List ℕ) (count s k : ℕ) (ss' ls' : List ℕ) (c : ℕ) : Type 0 where
  pub fit : fits (length ss) (put (store_of count ss ls) s k) ≡ true
  pub store : store_of c ss' ls' ≡ put (store_of count ss ls) s k
  pub within : c ≤ length ss

-- s got level k, or there was no room
abbrev pub KeptAs : List ℕ → List ℕ → ℕ → ℕ → ℕ → List ℕ → List ℕ → Option ℕ → Type 0
KeptAs ss ls count s k ss' ls' (Some c) = Stays ss ls count s k ss' ls' c
KeptAs ss ls count s k ss' ls' None = fits (length ss) (put (store_of count ss ls) s k) ≡ false

-- the levels from 1 up to below N are looked at, over `count` entries
pub record Judges (ls : List ℕ) (count N : ℕ) : Type 0 where
  pub within : count ≤ length ls
  pub above : 1 ≤ N

-- r is the smallest level from 1 up to below N at which no stored state sits exactly, or N
pub record LeastGap (ls : List ℕ) (count N r : ℕ) : Type 0 where
  pub from_one : 1 ≤ r
  pub to_N : r ≤ N
  pub taken : (l : ℕ) → 1 ≤ l → l < r → (Absent ls 0 count l → ⊥)
  pub free : r < N → Absent ls 0 count r

-- the first r states of ss' are those stored with a level of i or more
pub record FrontOf (ss ls : List ℕ) (count i : ℕ) (ss' : List ℕ) (r : ℕ) : Type 0 where
  pub front : take r ss' ≡ states (leb i) (store_of count ss ls)
  pub few : r ≤ count

-- ---- an answer taken in
-- the entry that step 4 tests is one of the stored
abbrev pub Indexed : Phase → ℕ → Type 0
Indexed Look count = Unit {0}
Indexed (Settle k) count = Unit {0}
Indexed (Raise i j) count = j < count

-- what a verdict counts, stored states or states of the path, lies within the stores
abbrev pub Counted : Verdict → Stores → Type 0
Counted (Safe i count) s = count ≤ length s.levels
Counted (Unsafe k) s = k ≤ length s.path
Counted (GaveUp why) s = Unit {0}

abbrev pub Bounded : ControlFlow Verdict Config → Stores → Type 0
Bounded (Continue c) s = Indexed c.phase c.count
Bounded (Break v) s = Counted v s

-- over the stores s as they are left, the move is the definition's
pub record Moves (r : ControlFlow Verdict Config) (s : Stores) (move : ic3.Move) : Type 0 where
  pub onward : move_of r s ≡ move
  pub bounded : Bounded r s

-- the duty of level k + 1 is open, and those up to N have room in the path store
pub record Opens (N k : ℕ) (path : List ℕ) : Type 0 where
  pub below : k < N
  pub enough : N < length path

-- the duty of level k + 1 is open, and its state can be stored
pub record Blocks (N k count : ℕ) (ss ls : List ℕ) : Type 0 where
  pub below : k < N
  pub holds : Holds count ss ls

-- step 4 can come to level i; if that is N, step 5
pub record Enters (ls : List ℕ) (N count i : ℕ) : Type 0 where
  pub within : count ≤ length ls
  pub above : 1 ≤ i
  pub below : i ≤ N

-- step 4 at level i, with the entries before j behind it
unfoldable pub tested_from : ℕ → ℕ → ℕ → ℕ → List ℕ → List ℕ → ic3.Move
tested_from N count i j ss ls = tested rounds N (store_of count ss ls) i (states (eqb i) (window (count - j) j ss ls))

-- step 4 can go on at entry j of level i
pub record Tests (ls : List ℕ) (N count i j : ℕ) : Type 0 where
  pub walks : Walks ls count j
  pub above : 1 ≤ i
  pub below : i < N

-- ---- a question, asked and taken in
-- a question's store is tidy; and n is one that is not refused
pub record Asks (n count : ℕ) (ss ls : List ℕ) : Type 0 where
  pub small : n ≤ 32
  pub holds : Holds count ss ls
  pub tidy : Tidy (store_of count ss ls)

-- the stores of a search that was not refused
pub record Lends (n room : ℕ) (s : Stores) : Type 0 where
  pub small : n ≤ 32
  pub most : room ≤ 65536
  pub states : length s.states ≡ room
  pub levels : length s.levels ≡ room
  pub enough : room + 2 ≤ length s.path

-- where a search can stand: at any configuration that has the shape, in stores that hold it
pub record Ready (n room : ℕ) (c : Config) (s : Stores) : Type 0 where
  pub lends : Lends n room s
  pub shape : Shape room (config_of c s)
  pub indexed : Indexed c.phase c.count

-- step 4 can test entry j at level i
pub record Raises (n N count i j : ℕ) (ss ls : List ℕ) : Type 0 where
  pub asks : Asks n count ss ls
  pub indexed : j < count
  pub here : get_or ls j 0 ≡ i
  pub below : i < N

-- ---- a run
-- it can begin at c, which `asked` questions led to
pub record Begins (n room : ℕ) (c : Config) (asked allowance : ℕ) (s : Stores) : Type 0 where
  pub ready : Ready n room c s
  pub within : asked ≤ allowance

-- it ended as the definition's: with its verdict, read off the stores, and its number of questions
pub record Ends (n room : ℕ) (ending : ic3.Ending) (v : Verdict) (asked : ℕ) (s : Stores) : Type 0 where
  pub verdict : verdict_of v s ≡ ending.verdict
  pub questions : asked ≡ ending.questions
  pub counted : Counted v s
  pub lends : Lends n room s

-- ---- closing
-- `front` of the states and `len` of the path can stay
pub record Finishes (front len : ℕ) (s : Stores) : Type 0 where
  pub states : front ≤ length s.states
  pub path : len ≤ length s.path

-- a run that ended with v can be closed
pub record Closing (v : Verdict) (s : Stores) : Type 0 where
  pub same : length s.levels ≡ length s.states
  pub counted : Counted v s

-- the outcome and the stores left are those that the call's definition gives for the verdict
pub record Closes (s : Stores) (v : Verdict) (asked : ℕ) (o : Outcome) (after : Stores) : Type 0 where
  pub equation : result_of o after ≡ ended s asked (verdict_of v s)
  pub evidence_length : count_of o ≡ length (ended s asked (verdict_of v s)).evidence

-- The shape of a configuration: what code needs so that its indices and sums hold. It speaks of no model. Every answer keeps it, whatever the
-- system, so a search can go on from any configuration that has it; what the levels mean is another matter, and holds from the beginning on.
use Rattle.std.specs.Prelude.{ℕ, suc, ◌+◌, ◌≤◌, ◌<◌, List, [], ◌∷◌, ◌≡◌, length}
use Rattle.ic3.specs.Search.{Entry, level_of, Phase, look, settle, raise, Config, Verdict, safe, unsafe, gave_up, Move, go, stop}

-- each level is at least 1, and no state is stored twice
abbrev pub Tidy : List Entry → Type 0
Tidy [] = Unit {0}
Tidy (e ∷ es) = (1 ≤ e.level) × (level_of es e.state ≡ 0) × Tidy es

-- step 4 tests s at level i
pub record Sits (N : ℕ) (st : List Entry) (i s : ℕ) : Type 0 where
  pub above : 1 ≤ i
  pub below : i < N
  pub here : level_of st s ≡ i

-- step 3: the open duties, that of s and those of ds, are one for each level from k + 1 up to N; step 4: s sits at level i, below N
abbrev pub Placed : ℕ → List Entry → Phase → Type 0
Placed N st look = Unit {0}
Placed N st (settle k s ds) = N ≡ suc (k + length ds)
Placed N st (raise i s todo) = Sits N st i s

-- The most that N can be. Step 5 goes on to step 2 only with a stored state at each level below N, so N - 1 is within the room; step 4 begins
-- with one more.
abbrev pub highest : ℕ → Phase → ℕ
highest room look = suc room
highest room (settle k s ds) = suc room
highest room (raise i s todo) = suc (suc room)

-- THE SHAPE: a tidy store within the room, N near the room, and a phase that fits them
pub record Shape (room : ℕ) (c : Config) : Type 0 where
  pub tidy : Tidy c.store
  pub stored : length c.store ≤ room
  pub low : c.N ≤ highest room c.phase
  pub placed : Placed c.N c.store c.phase

-- evidence and path fit the lent stores
abbrev pub FitsEnding : ℕ → Verdict → Type 0
FitsEnding room (safe evidence) = length evidence ≤ room
FitsEnding room (unsafe path) = length path ≤ room + 2
FitsEnding room (gave_up why) = Unit {0}

-- where an answer leads
abbrev pub Shaped : ℕ → Move → Type 0
Shaped room (go c) = Shape room c
Shaped room (stop v) = FitsEnding room v

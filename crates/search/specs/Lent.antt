-- The definition's configurations and moves, read out of the code's records and the lent stores: what is to be believed of a run while it goes
-- on. The store is the first `count` entries of the state store and the level store. The open duties stand in the path store, that of level k at
-- index k.
use Rattle.std.specs.Prelude.{ℕ, zero, suc, ◌-◌, List, [], ◌∷◌, eqb, leb, get_or}
use Rattle.std.specs.declared.ops.ControlFlow.{ControlFlow}
use Rattle.std.specs.declared.ops.ControlFlow.TheVariants.{Continue, Break}
use Rattle.ic3.specs.Search.{Entry, look, settle, raise, at, no_room, spent, no_start, safe, unsafe, gave_up, go, stop, states}
use Rattle.ic3.specs.Search as ic3
use Rattle.call.specs.Call.{Stores}
use Rattle.call.specs.Promise.{stores}
use Rattle.search.specs.declared.store.Lent.{Lent}
use Rattle.search.specs.declared.react.Phase.{Phase}
use Rattle.search.specs.declared.react.Phase.TheVariants.{Look, Settle, Raise}
use Rattle.search.specs.declared.react.Config.{Config}
use Rattle.search.specs.declared.react.Why.{Why}
use Rattle.search.specs.declared.react.Why.TheVariants.{NoRoom, Spent, NoStart}
use Rattle.search.specs.declared.react.Verdict.{Verdict}
use Rattle.search.specs.declared.react.Verdict.TheVariants.{Safe, Unsafe, GaveUp}

-- what the lent stores hold
abbrev pub stores_of : Lent → Stores
stores_of s = stores s.states.now s.levels.now s.path.now

-- the `left` entries from index i on
unfoldable pub window : ℕ → ℕ → List ℕ → List ℕ → List Entry
window zero i ss ls = []
window (suc left) i ss ls = record { state = get_or ss i 0; level = get_or ls i 0 } ∷ window left (suc i) ss ls

-- the store
unfoldable pub store_of : ℕ → List ℕ → List ℕ → List Entry
store_of count ss ls = window count 0 ss ls

-- the `left` numbers of a list from index i on
unfoldable pub part : ℕ → ℕ → List ℕ → List ℕ
part zero i xs = []
part (suc left) i xs = get_or xs i 0 ∷ part left (suc i) xs

-- the states of the open duties above level k + 1, up to N
unfoldable pub duties : ℕ → ℕ → List ℕ → List ℕ
duties N k path = part (N - suc k) (suc (suc k)) path

abbrev pub config : ℕ → ℕ → Phase → Config
config N count phase = record { N = N; count = count; phase = phase }

-- the store, as it lies in the lent stores
abbrev pub store_in : Config → Lent → List Entry
store_in c s = store_of c.count s.states.now s.levels.now

abbrev pub phase_of : Phase → ℕ → ℕ → Stores → ic3.Phase
phase_of Look N count s = look
phase_of (Settle k) N count s = settle k (get_or s.path (suc k) 0) (duties N k s.path)
phase_of (Raise i j) N count s = raise i (get_or s.states j 0) (states (eqb i) (window (count - suc j) (suc j) s.states s.levels))

abbrev pub config_of : Config → Stores → ic3.Config
config_of c s = at c.N (store_of c.count s.states s.levels) (phase_of c.phase c.N c.count s)

abbrev pub why_of : Why → ic3.Why
why_of NoRoom = no_room
why_of Spent = spent
why_of NoStart = no_start

abbrev pub verdict_of : Verdict → Stores → ic3.Verdict
verdict_of (Safe i count) s = safe (states (leb i) (store_of count s.states s.levels))
verdict_of (Unsafe length) s = unsafe (part length 0 s.path)
verdict_of (GaveUp why) s = gave_up (why_of why)

abbrev pub move_of : ControlFlow Verdict Config → Stores → ic3.Move
move_of (Continue c) s = go (config_of c s)
move_of (Break v) s = stop (verdict_of v s)

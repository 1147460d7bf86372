-- The search of the scope, made exact: a machine in which every configuration awaits one question. So a unit of the allowance is a
-- question, the search recurs on the allowance, and what holds of a search is shown for one question at a time.
use Rattle.std.specs.Prelude.{ℕ, zero, suc, ◌-◌, Bool, true, false, ◌&&◌, List, [], ◌∷◌, eqb, ltb, leb, length}
use Rattle.std.proofs.Math.Option.{Option, none, some}
use Rattle.ic3.specs.Model.{Model, holds, least}

-- a stored state and its level
pub record Entry : Type 0 where
  pub state : ℕ
  pub level : ℕ

-- the level of s, 0 if nothing stored holds it
unfoldable pub level_of : List Entry → ℕ → ℕ
level_of [] s = 0
level_of (e ∷ es) s = elim (holds e.state s) [ true ↦ e.level | false ↦ level_of es s ]

-- s gets level k: its level is changed in place, or it is stored anew, behind all others. A state is stored once.
unfoldable pub put : List Entry → ℕ → ℕ → List Entry
put [] s k = record { state = s; level = k } ∷ []
put (e ∷ es) s k = elim (eqb e.state s) [ true ↦ record { state = s; level = k } ∷ es | false ↦ e ∷ put es s k ]

-- the states stored with a level that passes the test, in order of first storing
unfoldable pub states : (ℕ → Bool) → List Entry → List ℕ
states p [] = []
states p (e ∷ es) = elim (p e.level) [ true ↦ e.state ∷ states p es | false ↦ states p es ]

-- R(0) is the set of start states. For i above 0, R(i) is every state except those with a level of i or more; f gives the levels.
unfoldable pub R : Model → (ℕ → ℕ) → ℕ → ℕ → Bool
R M f zero s = M.start s
R M f (suc i) s = ltb (f s) (suc i)

-- What the awaited question is asked for.
--   look            step 2; with N = 0, step 1
--   settle k s ds   step 3 for the duty (s, k + 1); ds are the states of the open duties above it, for levels k + 2 up to N
--   raise i s todo  step 4 at level i for the stored state s; todo are those of its level that stand behind it
pub data Phase : Type 0 where
  look : Phase
  settle : ℕ → ℕ → List ℕ → Phase
  raise : ℕ → ℕ → List ℕ → Phase

-- where a search stands
pub record Config : Type 0 where
  pub N : ℕ
  pub store : List Entry
  pub phase : Phase

abbrev pub at : ℕ → List Entry → Phase → Config
at N st phase = record { N = N; store = st; phase = phase }

-- the condition that is asked for: a state of R(N) that is bad, or a state of R(i) that can step to a given state
unfoldable pub wanted : Model → ℕ → List Entry → Phase → ℕ → Bool
wanted M N st look s = R M (level_of st) N s && M.bad s
wanted M N st (settle k t ds) s = R M (level_of st) k s && M.step s t
wanted M N st (raise i t todo) s = R M (level_of st) i s && M.step s t

-- why a search gives up: no room for a further state, the allowance used up, or no start state
pub data Why : Type 0 where
  no_room : Why
  spent : Why
  no_start : Why

-- how a search ends: safe with the excluded states, unsafe with the path, or given up
pub data Verdict : Type 0 where
  safe : List ℕ → Verdict
  unsafe : List ℕ → Verdict
  gave_up : Why → Verdict

-- what an answer leads to
pub data Move : Type 0 where
  go : Config → Move
  stop : Verdict → Move

-- Step 5, from level i on, with `left` levels below N to look at. The smallest level at which no stored state sits exactly makes the answer
-- safe; the evidence is all states stored with at least that level, in order of first storing. Otherwise step 2.
unfoldable pub judge : ℕ → ℕ → ℕ → List Entry → Move
judge N zero i st = go (at N st look)
judge N (suc left) i st = elim (states (eqb i) st) [ [] ↦ stop (safe (states (leb i) st)) | s ∷ more ↦ judge N left (suc i) st ]

-- Step 4 goes through all levels below N, or only as far as each still has a state once its states are tested.
pub data Rounds : Type 0 where
  full : Rounds
  shortened : Rounds

-- whether a round goes on past a level: all its states are tested, and `here` sit there still
unfoldable pub goes_on : Rounds → List ℕ → Bool
goes_on full here = true
goes_on shortened [] = false
goes_on shortened (s ∷ here) = true

-- Step 4, from level i on, with `left` levels below N to go through: every stored state whose level is exactly i, in stored order. Where the
-- round does not go on, step 5 decides.
unfoldable pub round : Rounds → ℕ → ℕ → ℕ → List Entry → Move
round r N zero i st = judge N (N - 1) 1 st
round r N (suc left) i st =
    elim (states (eqb i) st) [
      | [] ↦ elim (goes_on r []) [ true ↦ round r N left (suc i) st | false ↦ judge N (N - 1) 1 st ]
      | s ∷ todo ↦ go (at N st (raise i s todo))
    ]

-- step 4 at level i: the next of todo that sits at level i, which all of them do while a test takes out no other entry; then the next level
unfoldable pub tested : Rounds → ℕ → List Entry → ℕ → List ℕ → Move
tested r N st i [] = elim (goes_on r (states (eqb i) st)) [ true ↦ round r N (N - suc i) (suc i) st | false ↦ judge N (N - 1) 1 st ]
tested r N st i (s ∷ todo) = elim (eqb (level_of st s) i) [ true ↦ go (at N st (raise i s todo)) | false ↦ tested r N st i todo ]

-- a bad state s of R(N): in step 1 it is the path, in step 2 the duty (s, N) is to be settled
unfoldable pub found : ℕ → List Entry → ℕ → Move
found zero st s = stop (unsafe (s ∷ []))
found (suc k) st s = go (at (suc k) st (settle k s []))

-- Step 3, t of R(k) steps to s. With k = 0 the path is t, then the states of the open duties from level 1 up to N; else settle (t, k) first.
unfoldable pub deeper : ℕ → List Entry → ℕ → ℕ → List ℕ → ℕ → Move
deeper N st zero s ds t = stop (unsafe (t ∷ (s ∷ ds)))
deeper N st (suc k) s ds t = go (at N st (settle k t (s ∷ ds)))

-- a duty for level k + 1 is settled: the duty above it again, or step 2 if it was the last
unfoldable pub settled : ℕ → List Entry → ℕ → List ℕ → Config
settled N st k [] = at N st look
settled N st k (d ∷ ds) = at N st (settle (suc k) d ds)

-- The store after storing or raising. It outgrows the room exactly if a state was stored anew and the store was full; raising needs no room.
unfoldable pub fits : ℕ → List Entry → Bool
fits room st = leb (length st) room

unfoldable pub kept : ℕ → ℕ → List Entry → ℕ → List ℕ → Move
kept room N st k ds = elim (fits room st) [ true ↦ go (settled N st k ds) | false ↦ stop (gave_up no_room) ]

-- The answer taken in. With no bad state N grows by 1 and step 4 begins; with none that steps to s, s gets its level.
unfoldable pub react : Rounds → ℕ → ℕ → List Entry → Phase → Option ℕ → Move
react r room N st look (some s) = found N st s
react r room N st look none = round r (suc N) N 1 st
react r room N st (settle k s ds) (some t) = deeper N st k s ds t
react r room N st (settle k s ds) none = kept room N (put st s (suc k)) k ds
react r room N st (raise i s todo) (some t) = tested r N st i todo
react r room N st (raise i s todo) none = tested r N (put st s (suc i)) i todo

-- one question, asked and taken in
unfoldable pub next : Rounds → Model → ℕ → Config → Move
next r M room c = react r room c.N c.store c.phase (least M.size (wanted M c.N c.store c.phase))

-- the number of questions asked stands in every ending
pub record Ending : Type 0 where
  pub verdict : Verdict
  pub questions : ℕ

-- The search from c, which `asked` questions led to. Before each ask, if the allowance, of which `left` is left, is used up, it ends.
unfoldable pub search_from : Rounds → ℕ → Model → ℕ → Config → ℕ → Ending
search_from r zero M room c asked = record { verdict = gave_up spent; questions = asked }
search_from r (suc left) M room c asked =
    elim (next r M room c) [ go d ↦ search_from r left M room d (suc asked) | stop v ↦ record { verdict = v; questions = suc asked } ]

-- The question for a start state, taken in: with none the search ends. Step 1 is step 2 with N = 0; step 4 has no level to go through after it.
unfoldable pub begun : Rounds → ℕ → Model → ℕ → Option ℕ → Ending
begun r left M room none = record { verdict = gave_up no_start; questions = 1 }
begun r left M room (some s) = search_from r left M room (at 0 [] look) 1

-- The whole search: before step 1 it asks for a start state.
unfoldable pub searched : Rounds → Model → ℕ → ℕ → Ending
searched r M room zero = record { verdict = gave_up spent; questions = 0 }
searched r M room (suc left) = begun r left M room (least M.size M.start)

-- The worked sequencers that the scope marks, as one list, and the one statement over it. They have no wires, so their lists have two masks a clause and are
-- widened.
use Rattle.std.specs.Prelude.{ℕ, zero, suc, ◌+◌, ◌-◌, ◌*◌, ◌^◌, ◌<◌, Bool, true, false, ◌&&◌, ◌||◌, List, [], ◌∷◌, ◌++◌, ◌≡◌, eqb, length}
use Rattle.system.specs.System.{System, model}
use Rattle.system.specs.Plain.{widened}
use Rattle.call.specs.Call.{Stores, wrong_stores, Said, says_safe, says_unsafe, gives_up, Result, called}

-- a step, from one state to another
pub record Step : Type 0 where
  pub from : ℕ
  pub to : ℕ

abbrev pub ◌⟶◌ : ℕ → ℕ → Step
s ⟶ t = record { from = s; to = t }

infix 40 ◌⟶◌
abbrev pub given : List Step → ℕ → ℕ → Bool
given [] s t = false
given (x ∷ xs) s t = eqb x.from s && eqb x.to t || given xs s t

-- Of two state bits: the clause that is false of the step from s to t alone, and such a clause for every step that is not given.
abbrev pub except : ℕ → ℕ → List ℕ
except s t = ((3 - s) + 2 ^ 32 * (3 - t)) ∷ ((s + 2 ^ 32 * t) ∷ [])

abbrev pub row : List Step → ℕ → ℕ → List ℕ
row xs s zero = []
row xs s (suc t) = elim (given xs s t) [ true ↦ row xs s t | false ↦ except s t ++ row xs s t ]

abbrev pub rows : List Step → ℕ → List ℕ
rows xs zero = []
rows xs (suc s) = row xs s 4 ++ rows xs s

-- steps given state by state
abbrev pub only : List Step → List ℕ
only xs = rows xs 4

-- n = 2, start {0}
abbrev pub starting : List ℕ → List ℕ → System
starting step bad = widened (record { n = 2; start = 0 ∷ (1 ∷ (0 ∷ (2 ∷ []))); step = step; bad = bad })

-- bad {3}
abbrev pub three : List ℕ
three = 1 ∷ (0 ∷ (2 ∷ (0 ∷ [])))

-- Ring: 0→1→2→0, 3→3, in the clauses of the scope's example file
abbrev pub ring_given : List Step
ring_given = (0 ⟶ 1) ∷ ((1 ⟶ 2) ∷ ((2 ⟶ 0) ∷ ((3 ⟶ 3) ∷ [])))

abbrev pub ring_steps : List ℕ
ring_steps =
    0x0000_0002_0000_0000 ∷ (0x0000_0000_0000_0001
    ∷ (0x0000_0000_0000_0001 ∷ (0x0000_0002_0000_0000
    ∷ (0x0000_0001_0000_0003 ∷ (0x0000_0000_0000_0000
    ∷ (0x0000_0001_0000_0000 ∷ (0x0000_0000_0000_0003
    ∷ (0x0000_0000_0000_0001 ∷ (0x0000_0001_0000_0002
    ∷ (0x0000_0000_0000_0002 ∷ (0x0000_0001_0000_0001 ∷ [])))))))))))

abbrev pub ring : System
ring = starting ring_steps three

-- Late: as Ring, and 2→3
abbrev pub late_given : List Step
late_given = (2 ⟶ 3) ∷ ring_given

abbrev pub late : System
late = starting (only late_given) three

-- Chain: 0→0, 2→1→3→0
abbrev pub chain_given : List Step
chain_given = (0 ⟶ 0) ∷ ((2 ⟶ 1) ∷ ((1 ⟶ 3) ∷ ((3 ⟶ 0) ∷ [])))

abbrev pub chain : System
chain = starting (only chain_given) three

-- Ring's steps with I and B empty lists
abbrev pub empty_lists : System
empty_lists = widened (record { n = 2; start = []; step = ring_steps; bad = [] })

-- Ring with B one clause of two zero masks
abbrev pub bad_false : System
bad_false = starting ring_steps (0 ∷ (0 ∷ []))

-- Ring with I one clause of two zero masks: no start state
abbrev pub no_start : System
no_start = widened (record { n = 2; start = 0 ∷ (0 ∷ []); step = ring_steps; bad = three })

-- the system has start {0}, bad {3} and the steps given, and no others
pub record Given (y : System) (steps : List Step) : Type 0 where
  pub start : (s : ℕ) → s < 4 → (model y).start s ≡ eqb s 0
  pub step : (s t : ℕ) → s < 4 → t < 4 → (model y).step s t ≡ given steps s t
  pub bad : (s : ℕ) → s < 4 → (model y).bad s ≡ eqb s 3

-- a sequencer with its room and allowance, and what the scope says of it
pub record Sequencer : Type 0 where
  pub system : System
  pub room : ℕ
  pub allowance : ℕ
  pub number : ℕ
  pub said : Said
  pub evidence : List ℕ
  pub questions : ℕ

abbrev pub sequencer : System → ℕ → ℕ → ℕ → Said → List ℕ → ℕ → Sequencer
sequencer y room allowance number said evidence questions =
    record {
      system = y;
      room = room;
      allowance = allowance;
      number = number;
      said = said;
      evidence = evidence;
      questions = questions;
    }

abbrev pub late_path : List ℕ
late_path = 0 ∷ (1 ∷ (2 ∷ (3 ∷ [])))

-- room 4 and allowance 1,000 where the scope names none, and any room where it says so
abbrev pub sequencers : ℕ → List Sequencer
sequencers any =
    sequencer ring 4 1000 0 says_safe (3 ∷ []) 6
    ∷ (sequencer late 4 1000 0 says_unsafe late_path 17
    ∷ (sequencer late 2 1000 0 says_unsafe late_path 17
    ∷ (sequencer late 1 1000 6 gives_up [] 9
    ∷ (sequencer late 4 17 0 says_unsafe late_path 17
    ∷ (sequencer late 4 16 5 gives_up [] 16
    ∷ (sequencer late 4 0 5 gives_up [] 0
    ∷ (sequencer chain 4 1000 0 says_safe (3 ∷ (1 ∷ (2 ∷ []))) 21
    ∷ (sequencer empty_lists 4 1000 0 says_unsafe (0 ∷ []) 2
    ∷ (sequencer bad_false 4 1000 0 says_safe [] 3
    ∷ (sequencer no_start any 1000 14 gives_up [] 1
    ∷ (sequencer no_start any 0 5 gives_up [] 0 ∷ [])))))))))))

-- the call ends so
pub record Ends (x : Sequencer) (r : Result) : Type 0 where
  pub number : r.number ≡ x.number
  pub said : r.said ≡ x.said
  pub evidence : r.evidence ≡ x.evidence
  pub questions : r.questions ≡ x.questions

-- THE STATEMENT: whatever the lent stores hold
abbrev pub Worked : List Sequencer → Type 0
Worked [] = Unit {0}
Worked (x ∷ xs) =
    ((s : Stores) → length s.states ≡ x.room → wrong_stores s ≡ false → Ends x (called x.system s x.allowance))
    × Worked xs

-- What the private contracts say of the code's own types, in terms of Reason. A mask is a word.
use Rattle.std.specs.Prelude.{ℕ, ◌+◌, ◌-◌, ◌^◌, ◌≤◌, ◌<◌, Bool, List, ◌≡◌, Option, Some, None, Result, Ok, Err}
use Rattle.std.specs.Int.Bits.{bit_and}
use Rattle.std.specs.Int.Count.{ones}
use Rattle.masks.specs.Bit.{bit}
use Rattle.masks.specs.Word.{width, word_of}
use Rattle.masks.specs.declared.Mask.{Mask}
use Rattle.look.specs.Reason.{Reason, Forces}
use Rattle.look.specs.Condition.{Condition, lent, fulfils}
use Rattle.look.specs.Look.{setting}
use Rattle.look.specs.declared.Settled.{Settled}
use Rattle.question.specs.Reason.{Sound, LongEnough, Follows, Passing, Unfinished, Descends, LeastWord}
use Rattle.question.specs.declared.Descent.{Descent}
use Rattle.question.specs.declared.engine.Asked.{Asked}
use Rattle.question.specs.declared.engine.Said.{Said}
use Rattle.question.specs.declared.engine.Said.TheVariants.{Word, Failed, Forced}
use Rattle.question.specs.declared.trail.Entry.{Entry}

-- the condition that is asked, and what it says of a word
abbrev pub condition_of : Asked → Condition
condition_of a = lent a.region a.whole

abbrev pub asked_of : Asked → ℕ → Bool
asked_of a = fulfils (condition_of a)

-- the invariant of the setting that the code holds
abbrev pub Valid : Settled → Type 0
Valid s = Sound width (setting s)

-- no more bits are open than a state and the wires have
abbrev pub Few : Settled → Type 0
Few s = width - ones (setting s).bits ≤ 96

-- the invariant, and few bits are open
pub record Starts (s : Settled) : Type 0 where
  pub valid : Valid s
  pub few : Few s

-- the invariant, and the trail is long enough
pub record Begins (s : Settled) (trail : List Entry) : Type 0 where
  pub valid : Valid s
  pub long : LongEnough width (setting s) trail

-- some bit is open
abbrev pub Unfull : Settled → Type 0
Unfull s = bit_and s.bits.pair s.bits.wires ≡ 2 ^ 64 - 1 → ⊥

-- the word is one wire, of those that `wires` has
pub record OneOf (wires word : ℕ) : Type 0 where
  pub k : ℕ
  pub low : k < 64
  pub here : bit wires k ≡ 1
  pub is : word ≡ 2 ^ (64 + k)

-- the invariant, the trail is long enough, and some bit is open
pub record HasOpen (s : Settled) (trail : List Entry) : Type 0 where
  pub begins : Begins s trail
  pub some : Unfull s

-- the invariant, and no bit is open
pub record Full (s : Settled) : Type 0 where
  pub valid : Valid s
  pub all : (setting s).bits ≡ 2 ^ width - 1

-- some word, or nothing and the settled bits that this rests on
abbrev pub Solved : (ℕ → Bool) → Settled → Result Mask Mask → Type 0
Solved P s (Ok w) = Passing width P (setting s) (word_of w)
Solved P s (Err reason) = Reason P (setting s) (word_of reason)

-- what a look, a test or a try may say
abbrev pub Says : (ℕ → Bool) → Settled → Said → Type 0
Says P s (Word w) = Passing width P (setting s) (word_of w)
Says P s (Failed reason) = Reason P (setting s) (word_of reason)
Says P s (Forced reason b value waiting) = Forces width P (setting s) (word_of reason) (word_of b) (word_of value)

-- what r has settled follows from s
abbrev pub Comes : (ℕ → Bool) → Settled → Settled → Type 0
Comes P s r = Follows width P (setting s) (setting r)

-- forced bits come to rest, or nothing passes, for all that is settled
abbrev pub Rests : (ℕ → Bool) → Settled → Option Settled → Type 0
Rests P s (Some r) = Comes P s r
Rests P s None = Reason P (setting s) (setting s).bits

-- the walk stands at d, and goes on
abbrev pub GoesOn : (ℕ → Bool) → ℕ → Descent → Type 0
GoesOn P front d = Unfinished width P front (setting d.settled) (word_of d.word)

-- one bit of the walk, from d to r
abbrev pub Walks : (ℕ → Bool) → ℕ → Descent → Descent → Type 0
Walks P front d r = Descends width P front (setting d.settled) (setting r.settled) (word_of r.word)

-- a word with the least front, or nothing and the settled bits that this rests on
abbrev pub LeastFront : (ℕ → Bool) → ℕ → Settled → Result Mask Mask → Type 0
LeastFront P front s (Ok w) = LeastWord width P front (setting s) (word_of w)
LeastFront P front s (Err reason) = Reason P (setting s) (word_of reason)

-- What the engine's laws speak of beyond what a look finds: of words of any width, as numbers that are read bit by bit. P is the condition.
use Rattle.std.specs.Prelude.{ℕ, ◌+◌, ◌-◌, ◌^◌, ◌≤◌, ◌<◌, Bool, true, false, List, [], ◌∷◌, ◌⊎◌, ◌≡◌, eqb, length}
use Rattle.std.specs.Int.Bits.{bit_and, bit_or}
use Rattle.std.specs.Int.Count.{ones}
use Rattle.masks.specs.Bit.{bit}
use Rattle.masks.specs.Word.{word_of}
use Rattle.look.specs.Reason.{Agree, Among, Setting, Open}
use Rattle.question.specs.declared.trail.Entry.{Entry}

-- ---- a setting
-- the invariant: the settled bits are positions of a word, and the values are within them
pub record Sound (width : ℕ) (s : Setting) : Type 0 where
  pub fits : s.bits < 2 ^ width
  pub within : Among s.values s.bits

-- the word w agrees on the settled bits
abbrev pub Agrees : Setting → ℕ → Type 0
Agrees s w = Agree s.bits w s.values

-- r has one bit more settled than s
pub record Falls (width : ℕ) (s r : Setting) : Type 0 where
  pub one : ones r.bits ≡ ones s.bits + 1
  pub most : ones r.bits ≤ width

-- ---- why nothing passes
-- the reason that is left when bit b is given up: with its one value `x` failed, and with its other value `y`
unfoldable pub resolved : ℕ → ℕ → ℕ → ℕ → ℕ
resolved width x y b = elim (eqb (bit_and x b) 0) [ true ↦ x | false ↦ bit_and (bit_or x y) (2 ^ width - 1 - b) ]

-- ---- a trail
-- the reason that is left when the bits of these entries are given up, from the last back
unfoldable pub resolved_along : ℕ → List Entry → ℕ → ℕ
resolved_along width [] reason = reason
resolved_along width (e ∷ entries) reason = resolved width (resolved_along width entries reason) (word_of e.reason) (word_of e.bit)

-- long enough for every open bit
abbrev pub LongEnough : ℕ → Setting → List Entry → Type 0
LongEnough width s trail = width - ones s.bits ≤ length trail

-- ---- what follows
-- What r has settled beyond s follows from it: a word that passes and agrees with s agrees with r.
pub record Follows (width : ℕ) (P : ℕ → Bool) (s r : Setting) : Type 0 where
  pub sound : Sound width r
  pub beyond : ones s.bits ≤ ones r.bits
  pub narrower : (w : ℕ) → Agrees r w → Agrees s w
  pub kept : (w : ℕ) → P w ≡ true → Agrees s w → Agrees r w

-- ---- what passes, and the walk to the least front
-- the word w agrees on the settled bits and passes
pub record Passing (width : ℕ) (P : ℕ → Bool) (s : Setting) (w : ℕ) : Type 0 where
  pub fits : w < 2 ^ width
  pub agrees : Agrees s w
  pub true_of : P w ≡ true

-- the bits of the front that are open
abbrev pub open_of : ℕ → ℕ → Setting → ℕ
open_of width front s = bit_and front (2 ^ width - 1 - s.bits)

-- b is the highest open bit of the front
pub record TopOpen (width front : ℕ) (s : Setting) (b : ℕ) : Type 0 where
  pub free : Open width s b
  pub inside : bit front free.k ≡ 1
  pub above : (j : ℕ) → free.k < j → bit front j ≤ bit s.bits j

-- the walk stands at s, with the word w in hand
pub record Stands (width : ℕ) (P : ℕ → Bool) (s : Setting) (w : ℕ) : Type 0 where
  pub sound : Sound width s
  pub word : Passing width P s w

-- it has not settled all of the front
pub record Unfinished (width : ℕ) (P : ℕ → Bool) (front : ℕ) (s : Setting) (w : ℕ) : Type 0 where
  pub stands : Stands width P s w
  pub some : 0 < open_of width front s

-- From s to r no word that passes is lost: each agrees still, or its front is above that of all that do.
pub record Keeps (P : ℕ → Bool) (front : ℕ) (s r : Setting) : Type 0 where
  pub narrower : (w : ℕ) → Agrees r w → Agrees s w
  pub kept : (w : ℕ) → P w ≡ true → Agrees s w → Agrees r w ⊎ ((x : ℕ) → Agrees r x → bit_and x front < bit_and w front)

-- one bit of the walk, from s to r, where it has the word w in hand
pub record Descends (width : ℕ) (P : ℕ → Bool) (front : ℕ) (s r : Setting) (w : ℕ) : Type 0 where
  pub stands : Stands width P r w
  pub falls : Falls width s r
  pub keeps : Keeps P front s r

-- of the words that agree on the settled bits and pass, w has the least front
pub record LeastWord (width : ℕ) (P : ℕ → Bool) (front : ℕ) (s : Setting) (w : ℕ) : Type 0 where
  pub word : Passing width P s w
  pub least : (t : ℕ) → Agrees s t → P t ≡ true → bit_and w front ≤ bit_and t front

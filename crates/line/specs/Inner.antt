-- What the private functions require and ensure, with a name for each fact. A line is read by index. Nothing here has to be believed: no public
-- promise mentions it.
use Rattle.std.specs.Prelude.{Option, None, Some, ℕ, zero, suc, ◌+◌, ◌*◌, ◌≤◌, ◌<◌, List, [], ◌∷◌, ◌≡◌, length, get_or}
use Rattle.std.proofs.Math.Option.{some}
use Rattle.line.specs.Text.{digit, bytes}
use Rattle.line.specs.Says.{says, Wrong}

-- the byte that the pair of digits at index i makes
unfoldable pub byte_at : List ℕ → ℕ → ℕ
byte_at text i = 16 * digit (get_or text i 0) + digit (get_or text (i + 1) 0)

-- the `count` bytes of a frame from index i on
unfoldable pub frame_at : List ℕ → ℕ → ℕ → List ℕ
frame_at text i zero = []
frame_at text i (suc count) = byte_at text i ∷ frame_at text (i + 2) count

-- the bytes of a frame lie within the line, and there are at most 18: their sum fits 32 bits
pub record SumAt (line : List ℕ) (count : ℕ) : Type 0 where
  pub most : count ≤ 18
  pub within : 2 * count ≤ length line

-- at most eight bytes from index i on, each below 256: their number fits 64 bits
pub record NumberAt (text : List ℕ) (i count : ℕ) : Type 0 where
  pub most : count ≤ 8
  pub within : i + 2 * count ≤ length text
  pub small : (j : ℕ) → j < count → byte_at text (i + 2 * j) < 256

-- the line makes a frame of `count` bytes
pub record FrameAt (line : List ℕ) (count : ℕ) : Type 0 where
  pub filled : 0 < count
  pub most : count ≤ 18
  pub within : 2 * count ≤ length line
  pub small : (j : ℕ) → j < count → byte_at line (2 * j) < 256
  pub frame : bytes line ≡ some (frame_at line 0 count)

-- the line makes a frame, or is refused with 8
abbrev pub Framed : List ℕ → Option ℕ → Type 0
Framed line None = (stage : ℕ) → says line stage ≡ Wrong 8
Framed line (Some count) = FrameAt line count

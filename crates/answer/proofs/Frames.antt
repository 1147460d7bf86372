-- The frames of the answer as code writes them: numbers byte by byte, the high byte first, states one line after the other, and the frames that begin
-- with 80, 90, A0 and F0. Assumes nothing.
use Prim.Native.Nat.{ℕ, ◌+◌, ◌/◌, ◌%◌, ◌^◌, ◌<◌}
use mathlib.Core.List.{List, [], ◌∷◌, ◌++◌, append_assoc, append-nil}
use mathlib.Core.Path.{◌≡◌, refl, sym}
use native.Mathlib.Nat.{div-one}
use native.Mathlib.Numerals.{add-one}
use lib.ListN.{length, get_or, take}
use lib.Seq.{take-suc}
use Rattle.text.proofs.Laying.{writes_then}
use Rattle.text.specs.Writing.{Writes}
use Rattle.answer.specs.Output.{line_of, one, two, four}
use Rattle.answer.specs.Answer.{state_lines, verdict_lines, gave_up_line, refusal_line}

-- ---- a number in bytes
one_is : (x : ℕ) {a : ℕ} → a ≡ x / 2 ^ 0 % 256 → a ∷ [] ≡ one x
unfolding one
one_is x e = rw (e, div-one)

two_is : (x : ℕ) {a b : ℕ} → a ≡ x / 2 ^ 8 % 256 → b ≡ x / 2 ^ 0 % 256 → a ∷ (b ∷ []) ≡ two x
unfolding two
two_is x e f = rw (e, one_is x f)

four_is : (x : ℕ) {a b c d : ℕ} → a ≡ x / 2 ^ 24 % 256 → b ≡ x / 2 ^ 16 % 256 → c ≡ x / 2 ^ 8 % 256 → d ≡ x / 2 ^ 0 % 256
    → a ∷ (b ∷ (c ∷ (d ∷ []))) ≡ four x
unfolding four
four_is x e f g h = rw (e, f, two_is x g h)

-- ---- one frame
module _ {i r : ℕ} {before after : List ℕ} where
  pub writes_refusal : (number line : ℕ) {a b c : ℕ} → a ≡ number / 2 ^ 0 % 256 → b ≡ line / 2 ^ 8 % 256 → c ≡ line / 2 ^ 0 % 256
      → Writes i (line_of (240 ∷ (a ∷ (b ∷ (c ∷ []))))) before r after → Writes i (refusal_line number line) before r after
  unfolding refusal_line
  writes_refusal number line e f g w = rw (← one_is number e, ← two_is line f g) w

  pub writes_gave_up : (number questions : ℕ) {a b c d e : ℕ} → a ≡ number / 2 ^ 0 % 256
      → b ≡ questions / 2 ^ 24 % 256 → c ≡ questions / 2 ^ 16 % 256 → d ≡ questions / 2 ^ 8 % 256 → e ≡ questions / 2 ^ 0 % 256
      → Writes i (line_of (160 ∷ (a ∷ (b ∷ (c ∷ (d ∷ (e ∷ []))))))) before r after → Writes i (gave_up_line number questions) before r after
  unfolding gave_up_line
  writes_gave_up number questions f g h k l w = rw (← one_is number f, ← four_is questions g h k l) w

  pub writes_state : (kind state : ℕ) {a b c d : ℕ}
      → a ≡ state / 2 ^ 24 % 256 → b ≡ state / 2 ^ 16 % 256 → c ≡ state / 2 ^ 8 % 256 → d ≡ state / 2 ^ 0 % 256
      → Writes i (line_of (kind ∷ (a ∷ (b ∷ (c ∷ (d ∷ [])))))) before r after → Writes i (line_of (kind ∷ four state)) before r after
  writes_state kind state e f g h w = rw (← four_is state e f g h) w

-- ---- states
states_append : (kind : ℕ) (v w : List ℕ) → state_lines kind (v ++ w) ≡ state_lines kind v ++ state_lines kind w
unfolding state_lines
states_append kind [] w = refl
states_append kind (s ∷ v) w = rw (states_append kind v w) (sym (append_assoc (line_of (kind ∷ four s)) (state_lines kind v) (state_lines kind w)))

state_alone : (kind s : ℕ) → state_lines kind (s ∷ []) ≡ line_of (kind ∷ four s)
unfolding state_lines
state_alone kind s = append-nil (line_of (kind ∷ four s))

-- one state more
pub states_more : (kind : ℕ) (states : List ℕ) (j : ℕ) → j < length states → {i r r' : ℕ} {before after after' : List ℕ}
    → Writes i (state_lines kind (take j states)) before r after → Writes r (line_of (kind ∷ four (get_or states j 0))) after r' after'
    → Writes i (state_lines kind (take (j + 1) states)) before r' after'
states_more kind states j h first second =
    rw (add-one j, take-suc states j 0 h, states_append kind (take j states) (get_or states j 0 ∷ []), state_alone kind (get_or states j 0))
    (writes_then first second)

-- safe or unsafe: the first line, and the states
pub writes_verdict : (kind questions : ℕ) (evidence : List ℕ) {a b c d a' b' c' d' i r r' : ℕ} {before after after' : List ℕ}
    → a ≡ questions / 2 ^ 24 % 256 → b ≡ questions / 2 ^ 16 % 256 → c ≡ questions / 2 ^ 8 % 256 → d ≡ questions / 2 ^ 0 % 256
    → a' ≡ length evidence / 2 ^ 24 % 256 → b' ≡ length evidence / 2 ^ 16 % 256 → c' ≡ length evidence / 2 ^ 8 % 256
    → d' ≡ length evidence / 2 ^ 0 % 256
    → Writes i (line_of (kind ∷ (a ∷ (b ∷ (c ∷ (d ∷ (a' ∷ (b' ∷ (c' ∷ (d' ∷ [])))))))))) before r after
    → Writes r (state_lines (kind + 1) evidence) after r' after' → Writes i (verdict_lines kind questions evidence) before r' after'
unfolding verdict_lines
writes_verdict kind questions evidence e f g h e' f' g' h' first second =
    rw (← four_is questions e f g h, ← four_is (length evidence) e' f' g' h', ← add-one kind) (writes_then first second)

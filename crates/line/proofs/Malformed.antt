-- A line that makes no frame of 1 to 18 bytes is refused with 8, and a line makes one exactly if it has the form of pairs of digits with a line feed.
-- Assumes nothing.
use Prim.Native.Nat.{ℕ, suc, ◌+◌, ◌-◌, ◌*◌, ◌≤◌, ◌<◌}
use mathlib.Core.List.{List}
use mathlib.Core.Option.{Option, none, some}
use mathlib.Core.Path.{◌≡◌, refl, sym, ap, ◌∙◌}
use native.Mathlib.Omega.{arith}
use borrow.Author.Tests.{eqb-true, eqb-false, ltb-true, ltb-false, lt-ltb, eq-eqb, ne_eqb}
use lib.Dec.{eqb, ltb}
use lib.ListN.{length, get_or, take, length-take}
use lib.Seq.{take_all, get_or-take}
use Rattle.base.proofs.Tests.{test}
use Rattle.line.specs.Text.{bytes}
use Rattle.line.specs.Says.{says, Wrong}
use Rattle.line.specs.Inner.{FrameAt}
use Rattle.line.proofs.Digits.{AllDigits, byte_small}
use Rattle.line.proofs.Frames.{frame_whole, Form, form}

module _ (line : List ℕ) (stage : ℕ) where
  says_none : bytes line ≡ none → says line stage ≡ Wrong 8
  unfolding says
  says_none e = rw (e, says)

  says_empty : (frame : List ℕ) → bytes line ≡ some frame → length frame ≡ 0 → says line stage ≡ Wrong 8
  unfolding says
  says_empty frame e h = rw (e, says) (rw (eq-eqb (length frame) 0 h))

  says_long : (frame : List ℕ) → bytes line ≡ some frame → 18 < length frame → says line stage ≡ Wrong 8
  unfolding says
  says_long frame e h = rw (e, says) (rw (ne_eqb (length frame) 0 (λ f. omega (arith, f)), lt-ltb 18 (length frame) h))

  pub malformed : ((frame : List ℕ) → bytes line ≡ some frame → 0 < length frame → length frame ≤ 18 → ⊥) → says line stage ≡ Wrong 8
  malformed never = by (bytes line) refl
    where
      by : (o : Option (List ℕ)) → bytes line ≡ o → says line stage ≡ Wrong 8
      by none e = says_none e
      by (some frame) e =
          test (eqb (length frame) 0)
          (λ f. says_empty frame e (eqb-true (length frame) 0 f))
          (λ f. test (ltb 18 (length frame))
          (λ g. says_long frame e (ltb-true 18 (length frame) g))
          (λ g. absurd (never frame e (omega (arith, eqb-false (length frame) 0 f)) (ltb-false 18 (length frame) g))))

module _ (line : List ℕ) where
  -- the last byte of a line that makes a frame
  pub last_byte : (frame : List ℕ) → Form line frame → get_or line (length line - 1) 0 ≡ 10
  last_byte frame w = ap (λ x. get_or line x 0) (omega (arith, w.size)) ∙ w.last

  -- the bytes before the last
  pub inner_length : length (take (length line - 1) line) ≡ length line - 1
  inner_length = omega (arith, length-take (length line - 1) line)

  pub inner_byte : (k : ℕ) → k < length line - 1 → get_or (take (length line - 1) line) k 0 ≡ get_or line k 0
  inner_byte k h = get_or-take (length line - 1) line k 0 h

  pub inner_digits : (n : ℕ) → n ≤ length line - 1 → AllDigits (take (length line - 1) line) n → AllDigits line n
  inner_digits n h all k l =
      let e = inner_byte k (omega arith) in
      rw e at (all k l)

  -- a line that has not the form
  pub no_frame : ((frame : List ℕ) → Form line frame → 0 < length frame → length frame ≤ 18 → ⊥) → (stage : ℕ) → says line stage ≡ Wrong 8
  no_frame never stage = malformed line stage (λ frame f. never frame (form line frame f))

  -- a line that has the form
  pub a_frame : (count : ℕ) → 0 < count → length line ≡ suc (2 * count) → count ≤ 18 → get_or line (length line - 1) 0 ≡ 10
      → AllDigits line (2 * count) → FrameAt line count
  a_frame count filled size most last digits = record {
    filled = filled;
    most = most;
    within = omega arith;
    small = λ j h. byte_small line (2 * j) (digits (2 * j) (omega arith)) (digits (2 * j + 1) (omega arith));
    frame =
        ap bytes (sym (take_all (suc (2 * count)) line (omega arith)))
        ∙ frame_whole line count 0 (omega arith) (λ j h. digits j (omega arith)) (ap (λ x. get_or line x 0) (omega arith) ∙ last);
  }

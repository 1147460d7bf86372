-- What a line says: its frame is read by index, and its kind, its sum, its length and its numbers are those that were computed. Assumes nothing.
use Prim.Native.Nat.{ℕ, ◌+◌, ◌*◌, ◌%◌, ◌≤◌}
use mathlib.Core.Bool.{Bool, true, false}
use mathlib.Core.List.{List}
use mathlib.Core.Path.{◌≡◌, refl, sym, ap, ◌∙◌}
use native.Mathlib.Omega.{arith}
use lib.ListN.{length}
use Rattle.line.specs.Text.{sum, number}
use Rattle.line.specs.Says.{in_place, width, length_for, says, Size, Clause, Count, Wrong}
use Rattle.line.specs.Inner.{byte_at, frame_at, NumberAt, FrameAt}
use Rattle.line.proofs.Placing.{length_size, length_count, length_clause}
use Rattle.line.proofs.Numbers.{frame_size, frame_byte, frame_field}
use Rattle.line.proofs.Judging.{Makes, says_sum, says_place, says_length, says_size, says_count, says_clause}

-- a number within the frame
pub number_within : (line : List ℕ) (count : ℕ) → FrameAt line count
    → (j k : ℕ) {a : ℕ} → a ≡ 2 * j → j + k ≤ count → k ≤ 8 → NumberAt line a k
number_within line count w j k {a} e h most = record {
  most = most;
  within = omega (arith, e, w.within);
  small = λ m g.
      let f : a + 2 * m ≡ 2 * (j + m) = omega arith in
      rw f (w.small (j + m) (omega arith));
}

-- a frame whose sum, kind and length are right
pub record Right (line : List ℕ) (count stage kind : ℕ) : Type 0 where
  pub frame : Makes line (frame_at line 0 count) kind
  pub sums : sum (frame_at line 0 count) % 256 ≡ 0
  pub place : in_place stage kind ≡ true
  pub size : count ≡ length_for kind

module _ (line : List ℕ) (count stage : ℕ) (w : FrameAt line count) where
  makes : (kind : ℕ) → kind ≡ byte_at line 0 → Makes line (frame_at line 0 count) kind
  makes kind k = record {
    made = w.frame;
    least = rw (frame_size line count 0) w.filled;
    most = rw (frame_size line count 0) w.most;
    first = frame_byte line count 0 0 w.filled ∙ ap (byte_at line) (omega arith) ∙ sym k;
  }

  pub sum_wrong : {t : ℕ} → t ≡ sum (frame_at line 0 count) → (t % 256 ≡ 0 → ⊥) → Wrong 9 ≡ says line stage
  sum_wrong e f = sym (says_sum line (frame_at line 0 count) stage (byte_at line 0) (makes (byte_at line 0) refl) (λ g. f (rw e g)))

  module _ {t kind : ℕ} (e : t ≡ sum (frame_at line 0 count)) (right : t % 256 ≡ 0) (k : kind ≡ byte_at line 0) where
    pub place_wrong : {b : Bool} → b ≡ in_place stage kind → b ≡ false → Wrong 10 ≡ says line stage
    place_wrong p f = sym (says_place line (frame_at line 0 count) stage kind (makes kind k) (rw e at right) (sym p ∙ f))

    module _ {b : Bool} {m : ℕ} (p : b ≡ in_place stage kind) (place : b ≡ true) (q : m ≡ length_for kind) where
      pub length_wrong : (count ≡ m → ⊥) → Wrong 11 ≡ says line stage
      length_wrong f =
          sym (says_length line (frame_at line 0 count) stage kind (makes kind k) (rw e at right) (sym p ∙ place)
          (λ g. f (sym (frame_size line count 0) ∙ g ∙ sym q)))

      pub right_at : count ≡ m → Right line count stage kind
      right_at f = record { frame = makes kind k; sums = rw e at right; place = sym p ∙ place; size = f ∙ q }

module _ {line : List ℕ} {count stage kind : ℕ} (w : Right line count stage kind) where
  size : length (frame_at line 0 count) ≡ length_for kind
  size = frame_size line count 0 ∙ w.size

  pub size_said : kind ≡ 0 → {n : ℕ} → n ≡ byte_at line 2 → Size n ≡ says line stage
  size_said e f =
      rw (f ∙ sym (frame_byte line count 0 1 (omega (arith, w.size, length_size kind e))))
      (sym (says_size line (frame_at line 0 count) stage kind w.frame w.sums w.place size e))

  pub count_said : kind ≡ 15 → {n : ℕ} → n ≡ number 0 (frame_at line 2 2) → Count n ≡ says line stage
  count_said e f =
      rw (f ∙ sym (frame_field line count 0 1 2 (omega (arith, w.size, length_count kind e))))
      (sym (says_count line (frame_at line 0 count) stage kind w.frame w.sums w.place size e))

  pub clause_said : (kind ≡ 0 → ⊥) → (kind ≡ 15 → ⊥) → {m ones zeros : ℕ} → m ≡ width kind → ones ≡ number 0 (frame_at line 2 m)
      → zeros ≡ number 0 (frame_at line (2 + 2 * m) m) → Clause kind ones zeros ≡ says line stage
  clause_said e f {m} wide one zero =
      let long : count ≡ 2 + 2 * m = omega (arith, w.size, length_clause kind e f, wide) in
      let there : 2 + 2 * m ≡ 0 + 2 * (1 + m) = omega arith in
      rw (one ∙ sym (frame_field line count 0 1 m (omega arith)))
      (rw (zero ∙ ap (λ x. number 0 (frame_at line x m)) there ∙ sym (frame_field line count 0 (1 + m) m (omega arith)))
      (rw wide (sym (says_clause line (frame_at line 0 count) stage kind w.frame w.sums w.place size e f))))

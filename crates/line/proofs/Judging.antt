-- A frame of 1 to 18 bytes is judged, case by case in the order of the refusals: by its sum, its kind and its length. Each case takes one way
-- through the definition. Assumes nothing.
use Prim.Native.Nat.{ℕ, ◌+◌, ◌%◌, ◌≤◌, ◌<◌}
use mathlib.Core.Bool.{true, false}
use mathlib.Core.List.{List}
use mathlib.Core.Option.{some}
use mathlib.Core.Path.{◌≡◌, ◌∙◌}
use native.Mathlib.Omega.{arith}
use borrow.Author.Tests.{le-ltb, eq-eqb, ne_eqb}
use lib.ListN.{length, get_or}
use Rattle.line.specs.Text.{bytes, sum}
use Rattle.line.specs.Says.{in_place, width, length_for, field, content, frame_says, says, Size, Clause, Count, Wrong}

-- the line makes this frame, whose first byte is the kind
pub record Makes (line frame : List ℕ) (kind : ℕ) : Type 0 where
  pub made : bytes line ≡ some frame
  pub least : 0 < length frame
  pub most : length frame ≤ 18
  pub first : get_or frame 0 0 ≡ kind

module _ (line frame : List ℕ) (stage kind : ℕ) (w : Makes line frame kind) where
  says_judged : says line stage ≡ frame_says frame stage
  unfolding says
  says_judged =
      rw (w.made, says) (rw (ne_eqb (length frame) 0 (λ e. omega (arith, w.least, e)), le-ltb 18 (length frame) w.most))

  judged_sum : (sum frame % 256 ≡ 0 → ⊥) → frame_says frame stage ≡ Wrong 9
  unfolding frame_says
  judged_sum f = rw (ne_eqb (sum frame % 256) 0 f, frame_says)

  content_size : kind ≡ 0 → content kind frame ≡ Size (get_or frame 1 0)
  unfolding content
  content_size e = rw (eq-eqb kind 0 e, content)

  content_count : kind ≡ 15 → content kind frame ≡ Count (field frame 1 2)
  unfolding content
  content_count e = rw (ne_eqb kind 0 (λ f. omega arith), eq-eqb kind 15 e, content)

  content_clause : (kind ≡ 0 → ⊥) → (kind ≡ 15 → ⊥)
      → content kind frame ≡ Clause kind (field frame 1 (width kind)) (field frame (1 + width kind) (width kind))
  unfolding content
  content_clause e f = rw (ne_eqb kind 0 e, ne_eqb kind 15 f, content)

  -- what the line says
  pub says_sum : (sum frame % 256 ≡ 0 → ⊥) → says line stage ≡ Wrong 9
  says_sum f = says_judged ∙ judged_sum f

  module _ (right : sum frame % 256 ≡ 0) where
    judged_place : in_place stage kind ≡ false → frame_says frame stage ≡ Wrong 10
    unfolding frame_says
    judged_place f = rw (eq-eqb (sum frame % 256) 0 right, w.first, f, frame_says)

    pub says_place : in_place stage kind ≡ false → says line stage ≡ Wrong 10
    says_place f = says_judged ∙ judged_place f

    module _ (place : in_place stage kind ≡ true) where
      judged_length : (length frame ≡ length_for kind → ⊥) → frame_says frame stage ≡ Wrong 11
      unfolding frame_says
      judged_length g = rw (eq-eqb (sum frame % 256) 0 right, w.first, place, w.first, ne_eqb (length frame) (length_for kind) g, frame_says)

      pub says_length : (length frame ≡ length_for kind → ⊥) → says line stage ≡ Wrong 11
      says_length g = says_judged ∙ judged_length g

      module _ (size : length frame ≡ length_for kind) where
        judged_right : frame_says frame stage ≡ content kind frame
        unfolding frame_says
        judged_right = rw (eq-eqb (sum frame % 256) 0 right, w.first, place, w.first, eq-eqb (length frame) (length_for kind) size, w.first, frame_says)

        pub says_size : kind ≡ 0 → says line stage ≡ Size (get_or frame 1 0)
        says_size e = says_judged ∙ judged_right ∙ content_size e

        pub says_count : kind ≡ 15 → says line stage ≡ Count (field frame 1 2)
        says_count e = says_judged ∙ judged_right ∙ content_count e

        pub says_clause : (kind ≡ 0 → ⊥) → (kind ≡ 15 → ⊥)
            → says line stage ≡ Clause kind (field frame 1 (width kind)) (field frame (1 + width kind) (width kind))
        says_clause e f = says_judged ∙ judged_right ∙ content_clause e f

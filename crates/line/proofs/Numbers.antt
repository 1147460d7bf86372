-- The bytes of a frame, read by index: its length, each byte, a part of it, its sum and its numbers. A walk adds a byte at the end
-- of what it has read. A number of k bytes that are below 256 is below 256^k. Assumes nothing.
use Prim.Native.Nat.{ℕ, zero, suc, ◌+◌, ◌-◌, ◌*◌, ◌^◌, ◌≤◌, ◌<◌}
use mathlib.Core.List.{List, [], ◌∷◌, ◌++◌}
use mathlib.Core.Path.{◌≡◌, refl, ap, ◌∙◌}
use native.Mathlib.Nat.{pow-suc, pow-le-pow_right}
use native.Mathlib.Numerals.{add-one}
use native.Mathlib.Omega.{arith}
use lib.ListN.{length, get_or, take, drop}
use Rattle.line.specs.Text.{sum, number}
use Rattle.line.specs.Says.{field}
use Rattle.line.specs.Inner.{byte_at, frame_at, NumberAt}

sum_last : (l : List ℕ) (b : ℕ) → sum (l ++ (b ∷ [])) ≡ sum l + b
unfolding sum
sum_last [] b = omega arith
sum_last (x ∷ xs) b = omega (arith, sum_last xs b)

number_last : (high : ℕ) (l : List ℕ) (b : ℕ) → number high (l ++ (b ∷ [])) ≡ 256 * number high l + b
unfolding number
number_last high [] b = omega arith
number_last high (x ∷ xs) b = number_last (256 * high + x) xs b

module _ (text : List ℕ) where
  pub frame_size : (count i : ℕ) → length (frame_at text i count) ≡ count
  unfolding frame_at
  frame_size zero i = refl
  frame_size (suc count) i = ap suc (frame_size count (i + 2))

  pub frame_byte : (count i j : ℕ) → j < count → get_or (frame_at text i count) j 0 ≡ byte_at text (i + 2 * j)
  unfolding frame_at
  frame_byte zero i j h = absurd (omega arith)
  frame_byte (suc count) i zero h = ap (byte_at text) (omega arith)
  frame_byte (suc count) i (suc j) h = frame_byte count (i + 2) j (omega arith) ∙ ap (byte_at text) (omega arith)

  frame_last : (count i : ℕ) → frame_at text i (suc count) ≡ frame_at text i count ++ (byte_at text (i + 2 * count) ∷ [])
  unfolding frame_at
  frame_last zero i = ap (λ x. byte_at text x ∷ []) (omega arith)
  frame_last (suc count) i =
      ap (λ l. byte_at text i ∷ l)
      (frame_last count (i + 2) ∙ ap (λ x. frame_at text (i + 2) count ++ (byte_at text x ∷ [])) (omega arith))

  frame_drop : (j k i : ℕ) → drop j (frame_at text i (j + k)) ≡ frame_at text (i + 2 * j) k
  unfolding frame_at
  frame_drop zero k i =
      let e : 0 + k ≡ k = omega arith in
      let f : i + 0 ≡ i = omega arith in
      rw (e, f)
  frame_drop (suc j) k i =
      let e : suc j + k ≡ suc (j + k) = omega arith in
      ap (λ x. drop (suc j) (frame_at text i x)) e ∙ frame_drop j k (i + 2) ∙ ap (λ x. frame_at text x k) (omega arith)

  frame_take : (k count i : ℕ) → k ≤ count → take k (frame_at text i count) ≡ frame_at text i k
  unfolding frame_at
  frame_take zero count i h = refl
  frame_take (suc k) zero i h = absurd (omega arith)
  frame_take (suc k) (suc count) i h = ap (λ l. byte_at text i ∷ l) (frame_take k count (i + 2) (omega arith))

  -- a field is the number that is read at its place
  pub frame_field : (count i j k : ℕ) → j + k ≤ count → field (frame_at text i count) j k ≡ number 0 (frame_at text (i + 2 * j) k)
  unfolding field
  frame_field count i j k h =
      let e : count ≡ j + (count - j) = omega arith in
      ap (number 0)
      (ap (λ x. take k (drop j (frame_at text i x))) e ∙ ap (take k) (frame_drop j (count - j) i) ∙ frame_take k (count - j) (i + 2 * j) (omega arith))

  -- a byte more of the whole frame's sum, and of a number within it
  pub sum_more : (j : ℕ) {t b : ℕ} → t ≡ sum (frame_at text 0 j) → b ≡ byte_at text (2 * j) → t + b ≡ sum (frame_at text 0 (j + 1))
  sum_more j e f =
      let g : 0 + 2 * j ≡ 2 * j = omega arith in
      rw (add-one j, frame_last j 0, sum_last (frame_at text 0 j) (byte_at text (0 + 2 * j)), g) (omega (arith, e, f))

  pub number_more : (i j : ℕ) {t b : ℕ} → t ≡ number 0 (frame_at text i j) → b ≡ byte_at text (i + 2 * j)
      → 256 * t + b ≡ number 0 (frame_at text i (j + 1))
  number_more i j e f = rw (add-one j, frame_last j i, number_last 0 (frame_at text i j) (byte_at text (i + 2 * j))) (omega (arith, e, f))

  number_below : (k i : ℕ) → ((j : ℕ) → j < k → byte_at text (i + 2 * j) < 256) → number 0 (frame_at text i k) < 256 ^ k
  unfolding number frame_at
  number_below zero i small = omega arith
  number_below (suc k) i small =
      rw (frame_last k i, number_last 0 (frame_at text i k) (byte_at text (i + 2 * k)))
      (omega (arith, pow-suc 256 k, small k (omega arith), number_below k i (λ j h. small j (omega arith))))

  -- up to seven bytes leave room for one more in 64 bits
  pub number_seven : (i j : ℕ) {t : ℕ} → j ≤ 7 → ((k : ℕ) → k < j → byte_at text (i + 2 * k) < 256) → t ≡ number 0 (frame_at text i j) → t < 2 ^ 56
  number_seven i j h small e =
      let most : 256 ^ j ≤ 256 ^ 7 = pow-le-pow_right (omega arith) h in
      omega (arith, e, number_below j i small)

  -- two bytes fit 32 bits
  pub number_two : (i : ℕ) {t : ℕ} → NumberAt text i 2 → t ≡ number 0 (frame_at text i 2) → t < 2 ^ 16
  number_two i w e = omega (arith, e, number_below 2 i w.small)

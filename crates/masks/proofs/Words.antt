-- A mask of two words as one number: its positions below 64 are those of the pair, and those from 64 on are those of the wires. So what is done word by word is
-- done with the number, position by position. Assumes nothing.
use mathlib.Core.Bool.{◌&&◌}
use mathlib.Core.Path.{◌≡◌, refl, sym, ap, ap₂, ◌∙◌}
use mathlib.Core.Logic.{◌⊎◌, inl, inr, ◌↔◌, ⊎_elim}
use Prim.Native.Nat.{ℕ, suc, ◌+◌, ◌-◌, ◌*◌, ◌/◌, ◌%◌, ◌^◌, ◌≤◌, ◌<◌}
use native.Mathlib.Nat.{mul-le-mul_right, suc-mul, mul_comm, add_comm, mod-lt, mod-eq_of_lt, lt_of_le_of_lt, lt_of_lt_of_le}
use native.Mathlib.Omega.{arith}
use lib.Bits.{bit_and, bit_or, and_block, or_block, and_mod, or_mod, or_add_and, and_le_l, and_le_r}
use borrow.Author.Tests.{eqb-true, eqb-false, eq-eqb, ne_eqb}
use lib.Dec.{eqb}
use lib.Count.{count_trailing_zeros}
use lib.Pow.{pow_pos, pow-add, pow-lt, pow_mono, ones_lt, shl-shr, high, low, mod-mod-pow}
use Rattle.base.proofs.Tests.{test, both, eq_or_ne, lt_or_ge}
use Rattle.masks.specs.Bit.{bit}
use Rattle.masks.specs.Word.{width, word_of, OneBit}
use Rattle.masks.specs.declared.Mask.{Mask}
use Rattle.masks.proofs.Bits.{bit_within, bit_of_zero, at_bit, bits_below}
use Rattle.masks.proofs.Halves.{bit_low, bit_high, bit_mod}
use Rattle.masks.proofs.OneBit.{pow_here, pow_other}
use Rattle.masks.proofs.Operations.{meet, full, less}
use Rattle.masks.proofs.Ends.{lowest_end}

-- both words are numbers of 64 bits
pub record Fits (m : Mask) : Type 0 where
  pub pair : m.pair < 2 ^ 64
  pub wires : m.wires < 2 ^ 64

-- ---- positions
pub low_width : (k : ℕ) → k < 64 → k < width
unfolding width
low_width k h = omega arith

pub half_width : 32 ≤ width
unfolding width
half_width = omega arith

pub high_width : (k : ℕ) → k < 64 → 64 + k < width
unfolding width
high_width k h = omega arith

-- a position is one of the first word or of the second
pub which_word : (i : ℕ) → i < width → (i < 64) ⊎ ((k : ℕ) × (k < 64) × (i ≡ 64 + k))
unfolding width
which_word i h = ⊎_elim inl (λ g. inr (i - 64, omega arith, omega arith)) (lt_or_ge i 64)

-- two words have twice the width
joined_lt : (j k a b : ℕ) → a < 2 ^ k → b < 2 ^ j → b * 2 ^ k + a < 2 ^ (j + k)
joined_lt j k a b p q =
    let l : suc b * 2 ^ k ≤ 2 ^ j * 2 ^ k = mul-le-mul_right (2 ^ k) (omega arith) in
    omega (arith, pow-add 2 j k, suc-mul b (2 ^ k))

-- a word fits into two
pub word_fits : (a : ℕ) → a < 2 ^ 64 → a < 2 ^ width
unfolding width
word_fits a h = lt_of_lt_of_le h (pow_mono {i = 64} {j = 64 + 64} (omega arith))

module _ (m : Mask) where
  -- each word fits
  low_fits : m.pair % 2 ^ 64 < 2 ^ 64
  low_fits = mod-lt m.pair (pow_pos 64)

  high_fits : m.wires % 2 ^ 64 < 2 ^ 64
  high_fits = mod-lt m.wires (pow_pos 64)

  sum : word_of m ≡ m.pair % 2 ^ 64 + 2 ^ 64 * (m.wires % 2 ^ 64)
  unfolding word_of
  sum = add_comm (m.wires % 2 ^ 64 * 2 ^ 64) (m.pair % 2 ^ 64) ∙ ap (λ (x : ℕ). m.pair % 2 ^ 64 + x) (mul_comm (m.wires % 2 ^ 64) (2 ^ 64))

  -- the positions of the pair
  pub first_word : (i : ℕ) → i < 64 → bit (word_of m) i ≡ bit m.pair i
  first_word i l = at_bit i sum ∙ bit_low 64 i (m.pair % 2 ^ 64) (m.wires % 2 ^ 64) l ∙ bit_mod 64 i m.pair l

  -- the positions of the wires
  pub second_word : (i : ℕ) → i < 64 → bit (word_of m) (64 + i) ≡ bit m.wires i
  second_word i l = at_bit (64 + i) sum ∙ bit_high 64 i (m.pair % 2 ^ 64) (m.wires % 2 ^ 64) low_fits ∙ bit_mod 64 i m.wires l

  -- the two words of the number
  pub pair_of : word_of m % 2 ^ 64 ≡ m.pair % 2 ^ 64
  unfolding word_of
  pair_of = low (m.wires % 2 ^ 64) 64 low_fits

  pub wires_of : word_of m / 2 ^ 64 ≡ m.wires % 2 ^ 64
  unfolding word_of
  wires_of = high (m.wires % 2 ^ 64) 64 low_fits

  -- the low half of the pair
  pub low_half : word_of m % 2 ^ 32 ≡ m.pair % 2 ^ 32
  low_half = sym (mod-mod-pow (word_of m) 32 32) ∙ ap (λ (x : ℕ). x % 2 ^ 32) pair_of ∙ mod-mod-pow m.pair 32 32

  -- both together have 128 positions
  pub word_lt : word_of m < 2 ^ width
  unfolding width word_of
  word_lt = joined_lt 64 64 (m.pair % 2 ^ 64) (m.wires % 2 ^ 64) low_fits high_fits

  -- a mask with no wire is its pair
  pub no_wire : m.pair < 2 ^ 64 → m.wires ≡ 0 → word_of m ≡ m.pair
  unfolding word_of
  no_wire h z = rw z (omega (arith, mod-eq_of_lt h))

-- ---- operations
module _ (a b : Mask) where
  pub and_words : word_of (record { pair = bit_and a.pair b.pair; wires = bit_and a.wires b.wires }) ≡ bit_and (word_of a) (word_of b)
  unfolding word_of
  and_words =
      rw (and_mod a.pair b.pair 64, and_mod a.wires b.wires 64)
      (sym (and_block 64 (a.wires % 2 ^ 64) (b.wires % 2 ^ 64) (a.pair % 2 ^ 64) (b.pair % 2 ^ 64) (low_fits a) (low_fits b)))

  pub or_words : word_of (record { pair = bit_or a.pair b.pair; wires = bit_or a.wires b.wires }) ≡ bit_or (word_of a) (word_of b)
  unfolding word_of
  or_words =
      rw (or_mod a.pair b.pair 64, or_mod a.wires b.wires 64)
      (sym (or_block 64 (a.wires % 2 ^ 64) (b.wires % 2 ^ 64) (a.pair % 2 ^ 64) (b.pair % 2 ^ 64) (low_fits a) (low_fits b)))

  -- the same number has the same words
  pub same_words : Fits a → Fits b → word_of a ≡ word_of b → (a.pair ≡ b.pair) × (a.wires ≡ b.wires)
  same_words f g e = (
    sym (mod-eq_of_lt f.pair) ∙ sym (pair_of a) ∙ ap (λ (x : ℕ). x % 2 ^ 64) e ∙ pair_of b ∙ mod-eq_of_lt g.pair,
    sym (mod-eq_of_lt f.wires) ∙ sym (wires_of a) ∙ ap (λ (x : ℕ). x / 2 ^ 64) e ∙ wires_of b ∙ mod-eq_of_lt g.wires,
  )

  pub words_same : a.pair ≡ b.pair → a.wires ≡ b.wires → word_of a ≡ word_of b
  unfolding word_of
  words_same e f = rw (e, f)

  -- two words are compared as one number is
  pub same_lem : Fits a → Fits b → (eqb a.pair b.pair && eqb a.wires b.wires) ≡ eqb (word_of a) (word_of b)
  same_lem f g =
      test (eqb (word_of a) (word_of b))
      (λ e.
      let s = same_words f g (eqb-true _ _ e) in
      rw (e, eq-eqb a.pair b.pair s.0, eq-eqb a.wires b.wires s.1))
      (λ e.
      rw e
      (test (eqb a.pair b.pair && eqb a.wires b.wires)
      (λ h.
      let s = both (eqb a.pair b.pair) (eqb a.wires b.wires) h in
      absurd (eqb-false _ _ e (words_same (eqb-true _ _ s.0) (eqb-true _ _ s.1))))
      (λ h. h)))

-- every position
pub full_word : (m : Mask) → bit_and m.pair m.wires ≡ 2 ^ 64 - 1 → word_of m ≡ 2 ^ width - 1
full_word m e =
    bits_below width (word_of m) (2 ^ width - 1) (word_lt m) (ones_lt width) (λ i h.
    ⊎_elim
    (λ l. omega (arith, first_word m i l, meet m.pair m.wires i, at_bit i e, full 64 i l, full width i h))
    (λ k. rw k.2 (omega (
      arith,
      second_word m k.0 k.1,
      meet m.pair m.wires k.0,
      at_bit k.0 e,
      full 64 k.0 k.1,
      full width (64 + k.0) (high_width k.0 k.1),
    )))
    (which_word i h))

-- no position
pub zero_word : word_of (record { pair = 0; wires = 0 }) ≡ 0
unfolding word_of
zero_word = refl

-- a number without a position has none in either word
pub no_words : (m : Mask) → Fits m → eqb (bit_or m.pair m.wires) 0 ≡ eqb (word_of m) 0
no_words m f =
    test (eqb (bit_or m.pair m.wires) 0)
    (λ e. let z = eqb-true (bit_or m.pair m.wires) 0 e in
    let a : m.pair ≡ 0 = omega (arith, split, and_le_l m.pair m.wires, and_le_r m.pair m.wires) in
    let b : m.wires ≡ 0 = omega (arith, split, and_le_l m.pair m.wires, and_le_r m.pair m.wires) in
    e ∙ sym (eq-eqb (word_of m) 0 (words_same m none a b ∙ zero_word)))
    (λ e. e ∙ sym (ne_eqb (word_of m) 0 (λ z.
    let both = same_words m none f (record { pair = pow_pos 64; wires = pow_pos 64 }) (z ∙ sym zero_word) in
    eqb-false (bit_or m.pair m.wires) 0 e (rw (both.0, both.1)))))
  where
    none : Mask
    none = record { pair = 0; wires = 0 }

    split : bit_or m.pair m.wires + bit_and m.pair m.wires ≡ m.pair + m.wires
    split = or_add_and m.pair m.wires

-- the positions of one mask that another has not
pub without_words : (a b : Mask) → Fits a → Fits b
    → word_of (record { pair = bit_and a.pair (2 ^ 64 - 1 - b.pair); wires = bit_and a.wires (2 ^ 64 - 1 - b.wires) })
    ≡ bit_and (word_of a) (2 ^ width - 1 - word_of b)
without_words a b f g =
    bits_below width (word_of r) _ (word_lt r) (lt_of_le_of_lt (and_le_l (word_of a) (2 ^ width - 1 - word_of b)) (word_lt a)) (λ i h.
    ⊎_elim
    (λ l. first_word r i l ∙ less 64 a.pair b.pair i f.pair g.pair
    ∙ ap₂ ◌-◌ (sym (first_word a i l)) (sym (first_word b i l)) ∙ sym (less width (word_of a) (word_of b) i (word_lt a) (word_lt b)))
    (λ k. rw k.2 (second_word r k.0 k.1 ∙ less 64 a.wires b.wires k.0 f.wires g.wires
    ∙ ap₂ ◌-◌ (sym (second_word a k.0 k.1)) (sym (second_word b k.0 k.1))
    ∙ sym (less width (word_of a) (word_of b) (64 + k.0) (word_lt a) (word_lt b))))
    (which_word i h))
  where
    r : Mask
    r = record { pair = bit_and a.pair (2 ^ 64 - 1 - b.pair); wires = bit_and a.wires (2 ^ 64 - 1 - b.wires) }

-- ---- one position alone
-- it is the lowest
pub power_lowest : (w m : ℕ) → OneBit w m → m ≡ 2 ^ count_trailing_zeros w m
power_lowest w m o =
    let h : m < 2 ^ w = rw o.is (pow-lt o.low) in
    let p : 0 < m = rw o.is (pow_pos o.k) in
    ⊎_elim
    (λ e. rw e o.is)
    (λ f. absurd (omega (arith, at_bit (count_trailing_zeros w m) o.is, pow_other o.k (count_trailing_zeros w m) f, (lowest_end w m p h).here)))
    (eq_or_ne (count_trailing_zeros w m) o.k)

-- the lowest 1 stands below the width
pub lowest_low : (w m : ℕ) → (m ≡ 0 → ⊥) → m < 2 ^ w → count_trailing_zeros w m < w
lowest_low w m f h = bit_within w m (count_trailing_zeros w m) h (lowest_end w m (omega (arith, f)) h).here

-- what has its lowest 1 alone has one
pub lowest_power : (w m : ℕ) → (m ≡ 0 → ⊥) → m < 2 ^ w → m ≡ 2 ^ count_trailing_zeros w m → OneBit w m
lowest_power w m f h e = record { k = count_trailing_zeros w m; low = lowest_low w m f h; is = e }

-- one wire as a word
pub one_wire : (m : Mask) (k : ℕ) → k < 64 → m.pair ≡ 0 → m.wires ≡ 2 ^ k → word_of m ≡ 2 ^ (64 + k)
one_wire m k l z e =
    let h : m.wires < 2 ^ 64 = rw e (pow-lt l) in
    sum m ∙ rw (z, mod-eq_of_lt h, pow-add 2 64 k, e) (omega arith)

module _ (m : Mask) (f : Fits m) where
  -- in the pair, where there is no wire
  pub one_first : m.wires ≡ 0 → OneBit 64 m.pair ↔ OneBit width (word_of m)
  one_first z = (
    λ o. record { k = o.k; low = low_width o.k o.low; is = no_wire m f.pair z ∙ o.is },
    λ o. let e : m.pair ≡ 2 ^ o.k = sym (no_wire m f.pair z) ∙ o.is in
        record { k = o.k; low = bit_within 64 m.pair o.k f.pair (at_bit o.k e ∙ pow_here o.k); is = e },
  )

  -- in the wires, where the pair has none
  pub one_second : m.pair ≡ 0 → OneBit 64 m.wires ↔ OneBit width (word_of m)
  one_second z = (
    λ o. record { k = 64 + o.k; low = high_width o.k o.low; is = one_wire m o.k o.low z o.is },
    λ o. ⊎_elim
        (λ l. absurd (omega (arith, at_bit o.k o.is, first_word m o.k l, pow_here o.k, at_bit o.k z, bit_of_zero o.k)))
        (λ h. record { k = h.0; low = h.1; is = back h.0 (o.is ∙ ap (λ (x : ℕ). 2 ^ x) h.2) })
        (which_word o.k o.low),
  )
    where
      back : (k : ℕ) → word_of m ≡ 2 ^ (64 + k) → m.wires ≡ 2 ^ k
      back k e =
          sym (mod-eq_of_lt f.wires) ∙ sym (wires_of m)
          ∙ ap (λ (x : ℕ). x / 2 ^ 64) (e ∙ pow-add 2 64 k ∙ mul_comm (2 ^ 64) (2 ^ k)) ∙ shl-shr (2 ^ k) 64

  -- in neither alone, where both have one
  pub one_neither : (m.pair ≡ 0 → ⊥) → (m.wires ≡ 0 → ⊥) → OneBit width (word_of m) → ⊥
  one_neither p q o =
      let a = count_trailing_zeros 64 m.pair in
      let b = count_trailing_zeros 64 m.wires in
      let l = lowest_low 64 m.pair p f.pair in
      let ha : bit (word_of m) a ≡ 1 = first_word m a l ∙ (lowest_end 64 m.pair (omega (arith, p)) f.pair).here in
      let hb : bit (word_of m) (64 + b) ≡ 1 = second_word m b (lowest_low 64 m.wires q f.wires)
      ∙ (lowest_end 64 m.wires (omega (arith, q)) f.wires).here in
      omega (arith, here a ha, here (64 + b) hb)
    where
      here : (j : ℕ) → bit (word_of m) j ≡ 1 → j ≡ o.k
      here j h = ⊎_elim (λ e. e) (λ d. absurd (omega (arith, at_bit j o.is, pow_other o.k j d))) (eq_or_ne j o.k)

-- Blocks of states. Words agree exactly if their pairs do and their wires do. Dividing by 2^k takes away the k lowest bits, so two numbers agree on all
-- positions but these exactly if their quotients are the same: the pairs that agree with that of `at`, with u one step later, are those of the block's
-- states, and the wires that agree with 0 are the settings of the open ones. The front is the state's half, so a word whose front is least has the least
-- state of the block. Assumes nothing.
use Prim.Native.Nat.{ℕ, ◌+◌, ◌-◌, ◌*◌, ◌/◌, ◌%◌, ◌^◌, min, ◌≤◌, ◌<◌}
use mathlib.Core.Bool.{Bool, false}
use mathlib.Core.Logic.{⊎_elim}
use mathlib.Core.Option.{none, some}
use mathlib.Core.Path.{◌≡◌, sym, ap, ◌∙◌}
use native.Mathlib.Nat.{mod-lt, div-eq_of_lt, zero-mod, mul_assoc, add-mul-mod_self_left, lt_of_mul-lt-mul_right, mul-le-mul_right, suc-mul, mod-eq_of_lt}
use native.Mathlib.Omega.{arith}
use lib.Bits.{bit_and, and_mask}
use lib.Count.{count_trailing_zeros, ones, ones_cat, ones-ones}
use lib.Pow.{pow_pos, pow_mono, pow-add, shr_lt, split, high, low, high_ones}
use Rattle.std.specs.Prelude.{Option as Returned, Some, None, Result, Ok, Err}
use Rattle.base.proofs.Tests.{lt_or_ge, test}
use Rattle.masks.specs.Bit.{bit, somewhere}
use Rattle.masks.specs.Word.{width, word_of}
use Rattle.masks.specs.declared.Mask.{Mask}
use Rattle.masks.proofs.Bits.{bit_le, bit_of_zero, bit_past, bit_within, no_bits, bits_below}
use Rattle.masks.proofs.Ends.{lowest_end}
use Rattle.masks.proofs.Operations.{beyond_none, beyond_all}
use Rattle.masks.proofs.Halves.{bit_div, bit_mod}
use Rattle.masks.proofs.Somewhere.{somewhere_false, somewhere_at}
use Rattle.masks.proofs.Words.{Fits, which_word, first_word, second_word, low_half, word_lt}
use Rattle.look.specs.Condition.{Condition, fulfils}
use Rattle.look.specs.Reason.{Agree}
use Rattle.look.specs.Look.{setting}
use Rattle.look.specs.declared.Settled.{Settled}
use Rattle.look.proofs.Agreement.{agree_at, agree_by, agree_among, among_by}
use Rattle.question.specs.Question.{answered}
use Rattle.question.specs.Asked.{somehow, asked_in, asked, Block}
use Rattle.question.specs.Reason.{Sound, Agrees}
use Rattle.question.specs.Engine.{LeastFront, Few}
use Rattle.question.proofs.Ranges.{Free, Between, between_is, is_between, free_on, first_on}

-- the state of the word that is found
abbrev pub on_state : Result Mask Mask → Returned ℕ
on_state (Ok w) = Some (w.pair % 2 ^ 32)
on_state (Err bits) = None

-- ---- the next block
-- With as many open bits as `at` ends in zeros, and no more than a state has, `at` and the end are both multiples of the block's length.
module _ (m at k : ℕ) (small : m ≤ 64) (inside : at < 2 ^ m) (few : k ≤ m) (zeros : k ≤ count_trailing_zeros 64 at) where
  whole_at : at % 2 ^ k ≡ 0
  whole_at =
      ⊎_elim (λ z. let e : at ≡ 0 = omega arith in rw (e, zero-mod (2 ^ k)))
      (λ p. no_bits (at % 2 ^ k)
      (λ i. ⊎_elim
      (λ b. bit_mod k i at b ∙ (lowest_end 64 at p (omega (arith, pow_mono small))).below i (omega arith))
      (λ g. bit_past k (at % 2 ^ k) i (mod-lt at (pow_pos k)) g)
      (lt_or_ge i k)))
      (lt_or_ge at 1)

  before_end : at + 2 ^ k ≤ 2 ^ m
  before_end =
      let e : (m - k) + k ≡ m = omega arith in
      let p : 2 ^ m ≡ 2 ^ (m - k) * 2 ^ k = rw e at (pow-add 2 (m - k) k) in
      let less : at / 2 ^ k < 2 ^ (m - k) = lt_of_mul-lt-mul_right (2 ^ k) (omega (arith, split at k, whole_at, p)) in
      omega (arith, mul-le-mul_right (2 ^ k) less, suc-mul (at / 2 ^ k) (2 ^ k), split at k, whole_at, p)

pub next_block : {n at k : ℕ} → at < 2 ^ min n 32 → k ≡ min (count_trailing_zeros 64 at) (min n 32) → Block n at k
next_block {n} {at} {k} l e =
    let few : k ≤ min n 32 = omega arith in
    let zeros : k ≤ count_trailing_zeros 64 at = omega arith in
    let small : min n 32 ≤ 64 = omega arith in
    record { whole = whole_at (min n 32) at k small l few zeros; low = few; ends = before_end (min n 32) at k small l few zeros }

-- a block of the states of n bits is one of those of 32
pub wider : {n at k : ℕ} → Block n at k → Block 32 at k
wider {n} b =
    record { whole = b.whole; low = omega (arith, b.low); ends = omega (arith, b.ends, pow_mono {i = min n 32} {j = 32} (omega arith)) }

-- the number of states of k bits, as the code has it
pub block_length : {n at k : ℕ} → Block n at k → 2 ^ min k 32 ≡ 2 ^ k
block_length {n} {at} {k} b = let e : min k 32 ≡ k = omega (arith, b.low) in ap (λ x. 2 ^ x) e

-- a block is one of 64 positions
pub block_inside : {n at k : ℕ} → Block n at k → 2 ^ min k 64 ≡ 2 ^ k
block_inside {n} {at} {k} b = let e : min k 64 ≡ k = omega (arith, b.low) in ap (λ x. 2 ^ x) e

-- ---- words that agree, word by word
module _ (m v : Mask) (w : ℕ) where
  agree_words : Agree m.pair (w % 2 ^ 64) v.pair → Agree m.wires (w / 2 ^ 64) v.wires → Agree (word_of m) w (word_of v)
  agree_words a b =
      agree_by (word_of m) w (word_of v)
      (λ j o. ⊎_elim
      (λ l. sym (bit_mod 64 j w l) ∙ agree_at m.pair (w % 2 ^ 64) v.pair a j (sym (first_word m j l) ∙ o) ∙ sym (first_word v j l))
      (λ h. rw h.2 (sym (bit_div 64 h.0 w)
      ∙ agree_at m.wires (w / 2 ^ 64) v.wires b h.0 (sym (second_word m h.0 h.1) ∙ (rw h.2 at o))
      ∙ sym (second_word v h.0 h.1)))
      (which_word j (bit_within width (word_of m) j (word_lt m) o)))

  module _ (f : Fits m) (g : Agree (word_of m) w (word_of v)) where
    pairs_agree : Agree m.pair (w % 2 ^ 64) v.pair
    pairs_agree =
        agree_by m.pair (w % 2 ^ 64) v.pair
        (λ j o. let l = bit_within 64 m.pair j f.pair o in
        bit_mod 64 j w l ∙ agree_at (word_of m) w (word_of v) g j (first_word m j l ∙ o) ∙ first_word v j l)

    wires_agree : Agree m.wires (w / 2 ^ 64) v.wires
    wires_agree =
        agree_by m.wires (w / 2 ^ 64) v.wires
        (λ j o. let l = bit_within 64 m.wires j f.wires o in
        bit_div 64 j w ∙ agree_at (word_of m) w (word_of v) g (64 + j) (second_word m j l ∙ o) ∙ second_word v j l)

-- the wires of a word
wires_lt : (w : ℕ) → w < 2 ^ width → w / 2 ^ 64 < 2 ^ 64
unfolding width
wires_lt w h = shr_lt 64 64 h

-- ---- numbers that agree on all but the k lowest positions
module _ (k : ℕ) (h : k ≤ 64) (w v : ℕ) where
  high_agree : w / 2 ^ k ≡ v / 2 ^ k → Agree (2 ^ 64 - 2 ^ k) w v
  high_agree e =
      agree_by (2 ^ 64 - 2 ^ k) w v
      (λ j o. ⊎_elim
      (λ l. absurd (omega (arith, beyond_none 64 k j h l)))
      (λ g. let q : k + (j - k) ≡ j = omega arith in
      rw q at (sym (bit_div k (j - k) w) ∙ ap (λ x. bit x (j - k)) e ∙ bit_div k (j - k) v))
      (lt_or_ge j k))

  agree_high : w < 2 ^ 64 → v < 2 ^ 64 → Agree (2 ^ 64 - 2 ^ k) w v → w / 2 ^ k ≡ v / 2 ^ k
  agree_high fw fv g =
      let e : (64 - k) + k ≡ 64 = omega arith in
      let p : 2 ^ ((64 - k) + k) ≡ 2 ^ 64 = ap (λ x. 2 ^ x) e in
      bits_below (64 - k) (w / 2 ^ k) (v / 2 ^ k) (shr_lt (64 - k) k (omega (arith, p))) (shr_lt (64 - k) k (omega (arith, p)))
      (λ j l. bit_div k j w
      ∙ agree_at (2 ^ 64 - 2 ^ k) w v g (k + j) (beyond_all 64 k (k + j) h (omega arith) (omega arith))
      ∙ sym (bit_div k j v))

-- those that agree with 0 are those below 2^k
module _ (k : ℕ) (h : k ≤ 64) (x : ℕ) where
  low_agree : x < 2 ^ k → Agree (2 ^ 64 - 2 ^ k) x 0
  low_agree l = high_agree k h x 0 (div-eq_of_lt l ∙ sym (div-eq_of_lt (pow_pos k)))

  agree_low : x < 2 ^ 64 → Agree (2 ^ 64 - 2 ^ k) x 0 → x < 2 ^ k
  agree_low f g =
      let e : x / 2 ^ k * 2 ^ k ≡ 0 / 2 ^ k * 2 ^ k = ap (λ q. q * 2 ^ k) (agree_high k h x 0 f (pow_pos 64) g) in
      omega (arith, e, split x k, split 0 k, mod-lt x (pow_pos k))

-- ---- the words of a block
-- all positions but the k lowest of the pair and the wires below w are settled
abbrev pub block_of : ℕ → ℕ → ℕ → ℕ → Settled
block_of at k u w =
    record {
      bits = record { pair = 2 ^ 64 - 2 ^ k; wires = 2 ^ 64 - 2 ^ min w 64 };
      values = record { pair = at + 2 ^ 32 * u; wires = 0 };
    }

-- the bits of the later half are settled, and so no more are open than a state and the wires have
pub block_few : (at k u w : ℕ) → Block 32 at k → Few (block_of at k u w)
unfolding width word_of
block_few at k u w b =
    let e : (64 - k) + k ≡ 64 = omega (arith, b.low) in
    let p : 2 ^ 64 - 2 ^ k ≡ (2 ^ (64 - k) - 1) * 2 ^ k + 0 = (rw e at (high_ones (64 - k) k)) ∙ omega arith in
    let c : ones (2 ^ 64 - 2 ^ k) ≡ (64 - k) + ones 0 = ap ones p ∙ ones_cat k (2 ^ (64 - k) - 1) 0 (pow_pos k) ∙ ap (λ x. x + ones 0) (ones-ones (64 - k)) in
    let f : (2 ^ 64 - 2 ^ k) % 2 ^ 64 ≡ 2 ^ 64 - 2 ^ k = mod-eq_of_lt (omega (arith, pow_pos k)) in
    omega (
      arith,
      c,
      ap ones f,
      ones_cat 64 ((2 ^ 64 - 2 ^ min w 64) % 2 ^ 64) ((2 ^ 64 - 2 ^ k) % 2 ^ 64) (mod-lt (2 ^ 64 - 2 ^ k) (pow_pos 64)),
      b.low,
    )

module _ (at k u w : ℕ) (b : Block 32 at k) (fu : u < 2 ^ 32) where
  abbrev from_block : Settled
  from_block = block_of at k u w

  fits : at + 2 ^ 32 * u < 2 ^ 64
  fits = omega (arith, b.ends, pow_pos k)

  bits_fit : Fits from_block.bits
  bits_fit = record { pair = omega (arith, pow_pos k); wires = omega (arith, pow_pos (min w 64)) }

  whole : (at + 2 ^ 32 * u) % 2 ^ k ≡ 0
  whole =
      let e : k + (32 - k) ≡ 32 = omega (arith, b.low) in
      let p : 2 ^ 32 * u ≡ 2 ^ k * (2 ^ (32 - k) * u) = (rw e at (ap (λ x. x * u) (pow-add 2 k (32 - k)))) ∙ mul_assoc (2 ^ k) (2 ^ (32 - k)) u in
      rw p (add-mul-mod_self_left at (2 ^ k) (2 ^ (32 - k) * u) ∙ b.whole)

  pub block_sound : Sound width (setting from_block)
  block_sound =
      record {
        fits = word_lt from_block.bits;
        within =
            among_by (word_of from_block.values) (word_of from_block.bits)
            (λ j. ⊎_elim
            (λ l. ⊎_elim
            (λ i. omega (arith, first_word from_block.values j i, first_word from_block.bits j i, pair_within j i))
            (λ h. rw h.2 (omega (arith, second_word from_block.values h.0 h.1, bit_of_zero h.0)))
            (which_word j l))
            (λ f. omega (arith, bit_past width (word_of from_block.values) j (word_lt from_block.values) f))
            (lt_or_ge j width));
      }
    where
      none_low : (j : ℕ) → j < k → bit (at + 2 ^ 32 * u) j ≡ 0
      none_low j l = sym (bit_mod k j (at + 2 ^ 32 * u) l) ∙ ap (λ x. bit x j) whole ∙ bit_of_zero j

      pair_within : (j : ℕ) → j < 64 → bit (at + 2 ^ 32 * u) j ≤ bit (2 ^ 64 - 2 ^ k) j
      pair_within j i =
          ⊎_elim
          (λ l. omega (arith, none_low j l))
          (λ g. omega (arith, beyond_all 64 k j (omega (arith, b.low)) g i, bit_le (at + 2 ^ 32 * u) j))
          (lt_or_ge j k)

  -- the word of a state of the block, with open wires, agrees
  word_agrees : (s x : ℕ) → at ≤ s → s < at + 2 ^ k → x < 2 ^ min w 64 → Agrees (setting from_block) (x * 2 ^ 64 + (s + 2 ^ 32 * u))
  word_agrees s x g l f =
      let small : s + 2 ^ 32 * u < 2 ^ 64 = omega (arith, b.ends) in
      let e : (at + 2 ^ 32 * u) / 2 ^ k * 2 ^ k + (s - at) ≡ s + 2 ^ 32 * u = omega (arith, split (at + 2 ^ 32 * u) k, whole) in
      agree_words from_block.bits from_block.values (x * 2 ^ 64 + (s + 2 ^ 32 * u))
      (rw (low x 64 small)
      (high_agree k (omega (arith, b.low)) (s + 2 ^ 32 * u) (at + 2 ^ 32 * u)
      (rw e at (high ((at + 2 ^ 32 * u) / 2 ^ k) k {lo = s - at} (omega arith)))))
      (rw (high x 64 small) (low_agree (min w 64) (omega arith) x f))

  module _ (v : ℕ) (fv : v < 2 ^ width) (g : Agrees (setting from_block) v) where
    -- a word that agrees has the pair of its state, which is one of the block, and open wires
    parts : v % 2 ^ 64 ≡ (at + v % 2 ^ 64 % 2 ^ k) + 2 ^ 32 * u
    parts =
        omega (
          arith,
          split (v % 2 ^ 64) k,
          split (at + 2 ^ 32 * u) k,
          whole,
          ap (λ x. x * 2 ^ k)
              (agree_high k (omega (arith, b.low)) (v % 2 ^ 64) (at + 2 ^ 32 * u) (mod-lt v (pow_pos 64)) fits
              (pairs_agree from_block.bits from_block.values v bits_fit g)),
        )

    open_wires : v / 2 ^ 64 < 2 ^ min w 64
    open_wires =
        agree_low (min w 64) (omega arith) (v / 2 ^ 64) (wires_lt v fv) (wires_agree from_block.bits from_block.values v bits_fit g)

    state_at : v % 2 ^ 32 ≡ at + v % 2 ^ 64 % 2 ^ k
    state_at = omega (arith, parts, mod-lt (v % 2 ^ 64) (pow_pos k), b.ends)

  -- the front of a word is its state
  front_at : (s x : ℕ) → s < 2 ^ 32 → bit_and (x * 2 ^ 64 + (s + 2 ^ 32 * u)) (2 ^ 32 - 1) ≡ s
  front_at s x f = and_mask (x * 2 ^ 64 + (s + 2 ^ 32 * u)) 32 ∙ omega arith

  -- the state of a word whose front is least is the least state
  least_state : (P : ℕ → Bool) (r : Result Mask Mask) → LeastFront P (2 ^ 32 - 1) from_block r
      → Between at (at + 2 ^ k) (λ s. somewhere (2 ^ min w 64) (λ x. P (x * 2 ^ 64 + (s + 2 ^ 32 * u)))) (answered (on_state r))
  least_state P (Ok m) L =
      record {
        low = omega (arith, here);
        high = omega (arith, here, mod-lt (v % 2 ^ 64) (pow_pos k));
        passes = somewhere_at (2 ^ min w 64) _ (v / 2 ^ 64) (open_wires v L.word.fits L.word.agrees) (ap P word_is ∙ L.word.true_of);
        before = λ t g l. (somewhere_false (2 ^ min w 64) _).1 (λ x f. before t x g l f);
      }
    where
      v : ℕ
      v = word_of m

      here : m.pair % 2 ^ 32 ≡ at + v % 2 ^ 64 % 2 ^ k
      here = sym (low_half m) ∙ state_at v L.word.fits L.word.agrees

      word_is : v / 2 ^ 64 * 2 ^ 64 + (m.pair % 2 ^ 32 + 2 ^ 32 * u) ≡ v
      word_is = omega (arith, here, parts v L.word.fits L.word.agrees, split v 64)

      before : (t x : ℕ) → at ≤ t → t < m.pair % 2 ^ 32 → x < 2 ^ min w 64 → P (x * 2 ^ 64 + (t + 2 ^ 32 * u)) ≡ false
      before t x g l f =
          test (P (x * 2 ^ 64 + (t + 2 ^ 32 * u)))
          (λ e. absurd (omega (
            arith,
            L.least (x * 2 ^ 64 + (t + 2 ^ 32 * u)) (word_agrees t x g (omega (arith, here, mod-lt (v % 2 ^ 64) (pow_pos k))) f) e,
            front_at t x (omega (arith, mod-lt m.pair (pow_pos 32))),
            and_mask v 32,
            low_half m,
          )))
          (λ e. e)
  least_state P (Err reason) L =
      λ s g l. (somewhere_false (2 ^ min w 64) _).1 (λ x f.
      L.why (x * 2 ^ 64 + (s + 2 ^ 32 * u))
      (agree_among (word_of reason) _ (x * 2 ^ 64 + (s + 2 ^ 32 * u)) (word_of from_block.values) L.among (word_agrees s x g l f)))

-- ---- what is asked
-- the state s, with t one step later, fulfils the condition by some setting of w wires
abbrev pub passes : ℕ → Condition → ℕ → ℕ → Bool
passes w c t s = somehow w c (s + 2 ^ 32 * (t % 2 ^ 32))

module _ (w : ℕ) (c : Condition) (t : ℕ) where
  -- of a block, from the least front
  pub block_asked : (at k : ℕ) → Block 32 at k → (r : Result Mask Mask) → LeastFront (fulfils c) (2 ^ 32 - 1) (block_of at k (t % 2 ^ 32) w) r
      → answered (on_state r) ≡ asked_in at (at + 2 ^ k) w c t
  unfolding asked_in somehow
  block_asked at k b r L =
      sym (between_is at (at + 2 ^ k) _ (answered (on_state r)) (least_state at k (t % 2 ^ 32) w b (mod-lt t (pow_pos 32)) (fulfils c) r L))

  module _ {from at : ℕ} (free : Free from at (passes w c t)) where
    -- the first block with a state has the least
    pub asked_here : {n k s : ℕ} → Block n at k → from ≤ at → some s ≡ asked_in at (at + 2 ^ k) w c t → some s ≡ asked n w c t from
    unfolding asked_in
    asked_here {n} {k} {s} b l e =
        sym (between_is from (2 ^ min n 32) _ (some s) (first_on l b.ends free (is_between at (at + 2 ^ k) _ (some s) e)))

    -- a block without one is passed
    pub asked_on : (k : ℕ) → none ≡ asked_in at (at + 2 ^ k) w c t → Free from (at + 2 ^ k) (passes w c t)
    unfolding asked_in
    asked_on k e = free_on free (is_between at (at + 2 ^ k) _ none e)

    -- until there are no more
    pub asked_none : (n : ℕ) → 2 ^ min n 32 ≤ at → none ≡ asked n w c t from
    unfolding asked_in
    asked_none n h = sym (between_is from (2 ^ min n 32) _ none (λ s g l. free s g (omega arith)))

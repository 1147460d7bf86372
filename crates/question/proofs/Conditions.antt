-- What is asked of a state is what the engine asks of its pair: in R(0) with the start list and no stored state, in R(i) above with the stored
-- states and no start list. The wires are looked at by the whole list alone, and of these it looks at 64; so the question is the state's, and then whether
-- some setting makes that list true. A bad state is asked for as one that steps to state 0 by a list that does not look at later bits. Assumes nothing.
use Prim.Native.Nat.{ℕ, zero, suc, ◌+◌, ◌-◌, ◌*◌, ◌%◌, ◌^◌, min, ◌<◌}
use mathlib.Core.Bool.{Bool, true, false, not, ◌&&◌, and-true, and_comm}
use mathlib.Core.List.{List, []}
use mathlib.Core.Logic.{⊎_elim}
use mathlib.Core.Option.{Option, none, some}
use mathlib.Core.Path.{◌≡◌, refl, sym, ap, ◌∙◌}
use native.Mathlib.Nat.{mod-lt, mod-eq_of_lt, div-eq_of_lt, min-eq_left, lt_of_lt_of_le}
use native.Mathlib.Omega.{arith}
use lib.Pow.{pow_pos, pow_mono, high, low}
use Rattle.std.specs.Prelude.{Option as Returned, Some, None}
use Rattle.std.specs.Option.{is_some}
use Rattle.base.proofs.Tests.{lt_or_ge}
use Rattle.masks.specs.Bit.{somewhere}
use Rattle.masks.proofs.Halves.{bit_low, bit_high, bit_mod}
use Rattle.masks.proofs.Somewhere.{somewhere_at, somewhere_same, somewhere_and, somewhere_both}
use Rattle.ic3.proofs.Least.{least_same}
use Rattle.system.specs.System.{list_true, some_true, pair}
use Rattle.look.specs.Excluded.{excluded}
use Rattle.look.specs.Condition.{state_of, word_true, allowed, Condition, condition, region, fulfils}
use Rattle.question.specs.Question.{answered, inside, not_below, bad_in, step_in}
use Rattle.question.specs.Asked.{somehow, asked_in, asked}
use Rattle.question.proofs.Pairs.{Same, list_same}
use Rattle.question.proofs.Ranges.{is_between}

-- a list looks at 64 wires
some_wires : (w : ℕ) (l : List ℕ) (p : ℕ) → some_true w l p ≡ somewhere (2 ^ min w 64) (list_true l p)
unfolding some_true
some_wires w l p =
    ⊎_elim
    (λ h. let q : min w 64 ≡ 64 = omega arith in
    rw q
    (somewhere_both (2 ^ w) (2 ^ 64) (list_true l p) (list_true l p)
    (λ x f e. somewhere_at (2 ^ 64) (list_true l p) (x % 2 ^ 64) (mod-lt x (pow_pos 64))
    (list_same l p p (x % 2 ^ 64) x (λ j i. refl) (λ j i. bit_mod 64 j x i) ∙ e))
    (λ x f e. somewhere_at (2 ^ w) (list_true l p) x (lt_of_lt_of_le f (pow_mono {i = 64} {j = w} (omega arith))) e)))
    (λ h. let q : min w 64 ≡ w = min-eq_left h in rw q)
    (lt_or_ge 64 w)

module _ (s t : ℕ) (f : s < 2 ^ 32) where
  abbrev p : ℕ
  p = s + 2 ^ 32 * (t % 2 ^ 32)

  -- the pair of all positions is the pair of the two states
  same_pair : Same 64 (pair s t) p
  unfolding pair
  same_pair j l =
      ⊎_elim
      (λ b. bit_low 32 j s t b ∙ sym (bit_low 32 j s (t % 2 ^ 32) b))
      (λ g. let e : 32 + (j - 32) ≡ j = omega arith in
      rw e at (bit_high 32 (j - 32) s t f ∙ sym (bit_mod 32 (j - 32) t (omega arith)) ∙ sym (bit_high 32 (j - 32) s (t % 2 ^ 32) f)))
      (lt_or_ge j 32)

  some_pair : (w : ℕ) (l : List ℕ) → some_true w l (pair s t) ≡ some_true w l p
  unfolding some_true
  some_pair w l = somewhere_same (2 ^ w) _ _ (λ x h. list_same l (pair s t) p x x same_pair (λ j i. refl))

  pair_lt : p < 2 ^ 64
  pair_lt = omega (arith, mod-lt t (pow_pos 32))

  -- the state of a word, and what a list says of it and of the word
  state_of_lem : (x : ℕ) → state_of (x * 2 ^ 64 + p) ≡ s
  state_of_lem x = omega arith

  list_state : (l : List ℕ) → word_true l s ≡ list_true l s 0
  unfolding word_true
  list_state l =
      let h : s < 2 ^ 64 = omega arith in
      rw (mod-eq_of_lt h, div-eq_of_lt h)

  list_word : (l : List ℕ) (x : ℕ) → word_true l (x * 2 ^ 64 + p) ≡ list_true l p x
  unfolding word_true
  list_word l x = rw (low x 64 pair_lt, high x 64 pair_lt)

  -- the tests of the state, and some setting of the wires
  module _ (w : ℕ) (c : Condition) where
    abbrev state_passes : Bool
    state_passes = word_true c.low s && not (excluded c.i c.states c.levels s)

    somehow_is : somehow w c p ≡ (state_passes && some_true w c.whole p)
    unfolding somehow fulfils allowed
    somehow_is =
        somewhere_same (2 ^ min w 64) _ (λ x. state_passes && list_true c.whole p x)
        (λ x h. rw (state_of_lem x, list_word c.whole x) (swap (word_true c.low s) (list_true c.whole p x) _))
        ∙ somewhere_and (2 ^ min w 64) state_passes (list_true c.whole p)
        ∙ ap (λ z. state_passes && z) (sym (some_wires w c.whole p))
      where
        swap : (a b d : Bool) → (a && (b && d)) ≡ ((a && d) && b)
        swap true b d = and_comm b d
        swap false b d = refl

  module _ (w : ℕ) (start whole states levels : List ℕ) where
    in_start : (inside start states levels 0 s && some_true w whole (pair s t)) ≡ somehow w (condition start whole [] levels 0) p
    unfolding inside excluded somewhere
    in_start =
        sym (somehow_is w (condition start whole [] levels 0)
        ∙ rw (list_state start, and-true (list_true start s 0), some_pair w whole))

    in_stored : (i : ℕ) → (inside start states levels (suc i) s && some_true w whole (pair s t)) ≡ somehow w (condition [] whole states levels (suc i)) p
    unfolding inside word_true list_true
    in_stored i = sym (somehow_is w (condition [] whole states levels (suc i)) ∙ rw (some_pair w whole))

module _ (n w : ℕ) (start whole states levels : List ℕ) where
  state_small : (s : ℕ) → s < 2 ^ min n 32 → s < 2 ^ 32
  state_small s f = lt_of_lt_of_le f (pow_mono {i = min n 32} {j = 32} (omega arith))

  pub step_start : (t from : ℕ) → step_in n w start whole states levels 0 t from ≡ asked n w (region start whole levels 0) t from
  unfolding step_in asked_in
  step_start t from =
      least_same (2 ^ min n 32) _ _ (λ s f. ap (λ x. not_below from s && x) (in_start s t (state_small s f) w start whole states levels))

  pub step_stored : (i t from : ℕ) → 0 < i → step_in n w start whole states levels i t from ≡ asked n w (region states whole levels i) t from
  unfolding step_in asked_in
  step_stored zero t from h = absurd (omega arith)
  step_stored (suc i) t from h =
      least_same (2 ^ min n 32) _ _ (λ s f. ap (λ x. not_below from s && x) (in_stored s t (state_small s f) w start whole states levels i))

  -- a bad state
  pub bad_step : (i from : ℕ) → bad_in n w start whole states levels i from ≡ step_in n w start whole states levels i 0 from
  unfolding bad_in step_in pair
  bad_step i from =
      least_same (2 ^ min n 32) _ _
      (λ s f. let e : s ≡ s + 2 ^ 32 * 0 = omega arith in ap (λ x. not_below from s && (inside start states levels i s && some_true w whole x)) e)

-- ---- a list asked of one state
-- whether there is an answer
abbrev pub found : Option ℕ → Bool
found none = false
found (some s) = true

pub is_found : (r : Returned ℕ) → is_some r ≡ found (answered r)
is_found None = refl
is_found (Some s) = refl

module _ (w : ℕ) (list : List ℕ) (at t : ℕ) (f : at < 2 ^ 32) where
  abbrev alone : Condition
  alone = region [] list [] 1

  asked_alone : somehow w alone (at + 2 ^ 32 * (t % 2 ^ 32)) ≡ some_true w list (pair at (t % 2 ^ 32))
  unfolding pair word_true list_true excluded somewhere
  asked_alone = somehow_is at t f w alone

  -- a block of one state has an answer exactly if some setting makes the list true
  pub some_asked : (o : Option ℕ) → o ≡ asked_in at (at + 2 ^ 0) w alone t → found o ≡ some_true w list (pair at (t % 2 ^ 32))
  unfolding asked_in
  some_asked none e = sym (is_between at (at + 2 ^ 0) _ none e at (omega arith) (omega arith)) ∙ asked_alone
  some_asked (some s) e =
      let r = is_between at (at + 2 ^ 0) _ (some s) e in
      let same : s ≡ at = omega (arith, r.low, r.high) in
      sym (rw same at r.passes) ∙ asked_alone

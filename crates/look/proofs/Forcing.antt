-- One clause against the settled bits. A clause looks at no other bits than those of its masks, so that if it is false of one word it is false of
-- each that agrees there. With no literal true under the settled values and none open it is false of the values themselves; with one bit open,
-- wanted by one of the masks alone, it is false of the values with that bit at the other value. Each step is one at a single position, where
-- `omega` has the operations as linear facts. Assumes nothing.
use mathlib.Core.Path.{◌≡◌, sym, ◌∙◌}
use mathlib.Core.Logic.{◌⊎◌, inl, inr, ◌↔◌, ⊎_elim}
use mathlib.Core.Bool.{Bool, false}
use Prim.Native.Nat.{ℕ, ◌+◌, ◌-◌, ◌^◌, ◌≤◌, ◌<◌}
use native.Mathlib.Omega.{arith}
use lib.Bits.{bit_and, bit_or}
use Rattle.base.proofs.Tests.{eq_or_ne}
use Rattle.masks.specs.Bit.{bit}
use Rattle.masks.proofs.Bits.{bit_le, bit_cases, bit_of_zero, at_bit, bits_at}
use Rattle.masks.proofs.Operations.{meet, join, less}
use Rattle.masks.proofs.OneBit.{pow_here, pow_other}
use Rattle.look.specs.Reason.{Agree, Reason, Forces, Setting}
use Rattle.look.proofs.Agreement.{among_by}
use Rattle.look.proofs.Values.{Choice, value_here, value_other, other, other_here}

-- P is a clause that wants the bits of `ones` 1 and those of `zeros` 0: it is false exactly if each literal is
abbrev pub Clausal : ℕ → (ℕ → Bool) → ℕ → ℕ → Type 0
Clausal width P ones zeros =
    (w : ℕ) → (P w ≡ false) ↔ ((i : ℕ) → i < width → (bit ones i + bit w i ≤ 1) × (bit zeros i ≤ bit w i))

-- a clause that is false of a word is false of each that agrees on the bits of its masks
clause_why : (width : ℕ) (P : ℕ → Bool) (ones zeros : ℕ) → Clausal width P ones zeros
    → (v : ℕ) → P v ≡ false → (w : ℕ) → Agree (bit_or ones zeros) w v → P w ≡ false
unfolding Agree
clause_why width P ones zeros L v e w a =
    (L w).1
    (λ j l. omega (
      arith,
      (L v).0 e j l,
      meet w (bit_or ones zeros) j,
      meet v (bit_or ones zeros) j,
      join ones zeros j,
      at_bit j a,
    ))

-- a mask with no bit but k
zero_or_power : (k m : ℕ) → ((j : ℕ) → (j ≡ k → ⊥) → bit m j ≡ 0) → (m ≡ 0) ⊎ (m ≡ 2 ^ k)
zero_or_power k m none =
    ⊎_elim
    (λ z. inl (bits_at k m 0 (omega (arith, bit_of_zero k)) (λ j f. omega (arith, none j f, bit_of_zero j))))
    (λ o. inr (bits_at k m (2 ^ k) (omega (arith, pow_here k)) (λ j f. omega (arith, none j f, pow_other k j f))))
    (bit_cases m k)

module _ (width : ℕ) (P : ℕ → Bool) (ones zeros : ℕ) (L : Clausal width P ones zeros) (s : Setting) (p : ones < 2 ^ width) (q : zeros < 2 ^ width)
    (fs : s.bits < 2 ^ width) (no_ones : bit_and ones s.values ≡ 0) (no_zeros : bit_and zeros s.values ≡ bit_and zeros s.bits) where
  -- the open bits that are wanted 1
  abbrev want_1 : ℕ
  want_1 = bit_and ones (2 ^ width - 1 - s.bits)

  -- the open bits that are wanted 0
  abbrev want_0 : ℕ
  want_0 = bit_and zeros (2 ^ width - 1 - s.bits)

  open_1 : (j : ℕ) → bit want_1 j ≡ bit ones j - bit s.bits j
  open_1 j = less width ones s.bits j p fs

  open_0 : (j : ℕ) → bit want_0 j ≡ bit zeros j - bit s.bits j
  open_0 j = less width zeros s.bits j q fs

  -- a bit that is wanted 1 is no 1 of the values
  wanted_1 : (j : ℕ) → bit ones j + bit s.values j ≤ 1
  wanted_1 j = omega (arith, meet ones s.values j, at_bit j no_ones, bit_of_zero j)

  -- a bit that is wanted 0 is a 1 of the values, or open
  wanted_0 : (j : ℕ) → bit zeros j ≤ bit s.values j + bit want_0 j
  wanted_0 j = omega (arith, meet zeros s.values j, meet zeros s.bits j, at_bit j no_zeros, open_0 j)

  -- no literal is open: it fails
  pub clause_fails : bit_or want_1 want_0 ≡ 0 → Reason P s (bit_or ones zeros)
  clause_fails e =
      record {
        among =
            among_by (bit_or ones zeros) s.bits
            (λ j. omega (arith, join ones zeros j, join want_1 want_0 j, at_bit j e, bit_of_zero j, open_1 j, open_0 j));
        why =
            clause_why width P ones zeros L s.values
            ((L s.values).1
            (λ j l. omega (arith, wanted_1 j, wanted_0 j, join want_1 want_0 j, at_bit j e, bit_of_zero j)));
      }

  module _ (k : ℕ) (low : k < width) (is : bit_or want_1 want_0 ≡ 2 ^ k) (differ : want_1 ≡ want_0 → ⊥) where
    -- no other bit is open
    elsewhere : (j : ℕ) → (j ≡ k → ⊥) → (bit want_1 j ≡ 0) × (bit want_0 j ≡ 0)
    elsewhere j f = omega (arith, join want_1 want_0 j, at_bit j is, pow_other k j f)

    -- one mask alone wants the open bit
    alone : bit want_1 k + bit want_0 k ≡ 1
    alone =
        ⊎_elim
        (λ z. omega (arith, join want_1 want_0 k, at_bit k is, pow_here k))
        (λ o.
        ⊎_elim
        (λ z. omega arith)
        (λ y. absurd (differ (bits_at k want_1 want_0 (o ∙ sym y) (λ j f. (elsewhere j f).0 ∙ sym (elsewhere j f).1))))
        (bit_cases want_0 k))
        (bit_cases want_1 k)

    -- it is not settled
    unsettled : bit s.bits k ≡ 0
    unsettled = omega (arith, alone, open_1 k, open_0 k, bit_le ones k, bit_le zeros k)

    abbrev forced : Choice width s (bit_or want_1 want_0) want_1
    forced =
        record {
          free = record { k = k; low = low; is = is; unsettled = unsettled };
          empty =
              omega (
                arith,
                alone,
                open_1 k,
                open_0 k,
                wanted_1 k,
                meet zeros s.values k,
                meet zeros s.bits k,
                at_bit k no_zeros,
              );
          either =
              ⊎_elim inl (λ e. inr (e ∙ sym is)) (zero_or_power k want_1 (λ j f. (elsewhere j f).0));
        }

    -- the values with the bit at the other value
    abbrev others : ℕ
    others = bit_or s.values (bit_or want_1 want_0 - want_1)

    -- one bit alone is open, wanted by one of the masks alone: it is forced
    pub clause_forces : Forces width P s (bit_or ones zeros) (bit_or want_1 want_0) want_1
    clause_forces =
        record {
          free = forced.free;
          either = forced.either;
          fails = record {
            among =
                among_by (bit_or ones zeros) (bit_or s.bits (bit_or want_1 want_0)) (λ j.
                omega (
                  arith,
                  join s.bits (bit_or want_1 want_0) j,
                  join ones zeros j,
                  join want_1 want_0 j,
                  open_1 j,
                  open_0 j,
                ));
            why =
                clause_why width P ones zeros L others
                ((L others).1 (λ j l. ⊎_elim (λ e. rw e here) (there j) (eq_or_ne j k)));
          };
        }
      where
        here : (bit ones k + bit others k ≤ 1) × (bit zeros k ≤ bit others k)
        here =
            let v : bit others k ≡ bit (bit_or want_1 want_0 - want_1) k = value_here (other forced) in
            let o : bit (bit_or want_1 want_0 - want_1) k + bit want_1 k ≡ 1 = other_here forced in
            omega (arith, alone, unsettled, open_1 k, open_0 k)

        there : (j : ℕ) → (j ≡ k → ⊥) → (bit ones j + bit others j ≤ 1) × (bit zeros j ≤ bit others j)
        there j f = omega (arith, value_other (other forced) j f, elsewhere j f, wanted_1 j, wanted_0 j)

-- A test of the low part of a word alone, its `half` lowest positions. It is put to words that are 0 above, where all counts as settled; the low part
-- of any word is such a word. So of a reason the low part is enough: words that agree on it have low parts that agree on all of the reason. A bit
-- that is forced is one of the low part's, since all others count as settled. Assumes nothing.
use mathlib.Core.Path.{◌≡◌, ◌∙◌}
use mathlib.Core.Logic.{⊎_elim}
use mathlib.Core.Bool.{Bool, false}
use Prim.Native.Nat.{ℕ, ◌-◌, ◌%◌, ◌^◌, ◌≤◌, ◌<◌}
use native.Mathlib.Nat.{mod-lt}
use native.Mathlib.Omega.{arith}
use lib.Bits.{bit_or}
use lib.Pow.{pow_pos}
use Rattle.base.proofs.Tests.{lt_or_ge}
use Rattle.masks.specs.Bit.{bit}
use Rattle.masks.proofs.Bits.{bit_past}
use Rattle.masks.proofs.Operations.{join, beyond_none, beyond_all}
use Rattle.masks.proofs.Halves.{bit_mod}
use Rattle.look.specs.Reason.{Agree, Among, Open, Reason, Forces, Setting}
use Rattle.look.proofs.Agreement.{agree_at, agree_by, among_at, among_by}
use Rattle.look.proofs.Values.{x_other, other_value}

module _ (width half : ℕ) (h : half ≤ width) where
  -- the positions above the low part
  abbrev high : ℕ
  high = 2 ^ width - 2 ^ half

  high_below : (j : ℕ) → j < half → bit high j ≡ 0
  high_below j l = beyond_none width half j h l

  high_above : (j : ℕ) → half ≤ j → j < width → bit high j ≡ 1
  high_above j g l = beyond_all width half j h g l

  -- a low part has no bit above
  low_above : (x j : ℕ) → half ≤ j → bit (x % 2 ^ half) j ≡ 0
  low_above x j g = bit_past half (x % 2 ^ half) j (mod-lt x (pow_pos half)) g

  -- the low part of a mask that is among s is among t, if the low part of s is
  low_among : (m s t : ℕ) → ((j : ℕ) → j < half → bit s j ≤ bit t j) → Among m s → Among (m % 2 ^ half) t
  low_among m s t within e =
      among_by (m % 2 ^ half) t (λ j.
      ⊎_elim
      (λ l. omega (arith, among_at m s e j, within j l, bit_mod half j m l))
      (λ g. omega (arith, low_above m j g))
      (lt_or_ge j half))

  -- what counts as settled for the low part
  abbrev pub lowered : Setting → Setting
  lowered s = record { bits = bit_or s.bits high; values = s.values % 2 ^ half }

  module _ (P : ℕ → Bool) where
    -- a reason at u, which has the low part of v and nothing above, is one for the low part at v
    low_why : (m u v : ℕ) → ((j : ℕ) → j < half → bit u j ≡ bit v j) → ((j : ℕ) → half ≤ j → bit u j ≡ 0)
        → ((w : ℕ) → Agree m w u → P w ≡ false) → (w : ℕ) → Agree (m % 2 ^ half) w v → P (w % 2 ^ half) ≡ false
    low_why m u v below above why w a =
        why (w % 2 ^ half)
        (agree_by m (w % 2 ^ half) u (λ j o.
        ⊎_elim
        (λ l. omega (arith, below j l, bit_mod half j w l, bit_mod half j m l, agree_at (m % 2 ^ half) w v a j (bit_mod half j m l ∙ o)))
        (λ g. omega (arith, above j g, low_above w j g))
        (lt_or_ge j half)))

    module _ (s : Setting) (reason : ℕ) where
      -- what fails, fails for the low part of the reason
      pub low_fails : Reason P (lowered s) reason → Reason (λ w. P (w % 2 ^ half)) s (reason % 2 ^ half)
      low_fails r =
          record {
            among =
                low_among reason (bit_or s.bits high) s.bits
                (λ j l. omega (arith, join s.bits high j, high_below j l)) r.among;
            why =
                low_why reason (s.values % 2 ^ half) s.values (λ j l. bit_mod half j s.values l) (low_above s.values) r.why;
          }

      module _ (b value : ℕ) (F : Forces width P (lowered s) reason b value) where
        abbrev k : ℕ
        k = F.free.k

        -- the forced bit is one of the low part's
        of_low : k < half
        of_low =
            ⊎_elim
            (λ l. l)
            (λ g. absurd (omega (arith, join s.bits high k, F.free.unsettled, high_above k g F.free.low)))
            (lt_or_ge k half)

        abbrev free : Open width s b
        free =
            record {
              k = k;
              low = F.free.low;
              is = F.free.is;
              unsettled = omega (arith, join s.bits high k, F.free.unsettled);
            }

        -- the other value has no bit above
        other_above : (j : ℕ) → half ≤ j → bit (b - value) j ≡ 0
        other_above j g =
            let not_k : j ≡ k → ⊥ = λ e. omega (arith, of_low) in
            x_other free (other_value F.either) j not_k

        -- what is forced, is forced for the low part of the reason
        pub low_forces : Forces width (λ w. P (w % 2 ^ half)) s (reason % 2 ^ half) b value
        low_forces =
            record {
              free = free;
              either = F.either;
              fails = record {
                among =
                    low_among reason (bit_or (bit_or s.bits high) b) (bit_or s.bits b)
                    (λ j l. omega (arith, join (bit_or s.bits high) b j, join s.bits high j, join s.bits b j, high_below j l))
                    F.fails.among;
                why =
                    low_why reason (bit_or (s.values % 2 ^ half) (b - value)) (bit_or s.values (b - value))
                    (λ j l. omega (arith, join (s.values % 2 ^ half) (b - value) j, join s.values (b - value) j, bit_mod half j s.values l))
                    (λ j g. omega (arith, join (s.values % 2 ^ half) (b - value) j, low_above s.values j g, other_above j g))
                    F.fails.why;
              };
            }

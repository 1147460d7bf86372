-- The walk to the least front, from its highest open bit down. Bits that are 0 in the word in hand, or in another that was found, are settled at 0:
-- the front of every word with a 1 there lies above that of all that agree from now on, since all bits of the front above it are settled. A bit for
-- which no word with a 0 was found is settled at 1, and no word that passes is lost. Where all bits of the front are settled one front is left, and
-- no word that passes has a lower one. Assumes nothing.
use Prim.Native.Nat.{ℕ, suc, ◌-◌, ◌^◌, ◌≤◌, ◌<◌}
use mathlib.Core.Bool.{Bool, false}
use mathlib.Core.Logic.{inl, inr, ⊎_elim}
use mathlib.Core.Path.{◌≡◌, sym, ◌∙◌}
use native.Mathlib.Nat.{lt_of_le_of_lt}
use native.Mathlib.Omega.{arith}
use lib.Bits.{bit_and, bit_or, and_le_l}
use lib.Count.{count_leading_zeros}
use Rattle.base.proofs.Tests.{clash}
use Rattle.masks.specs.Bit.{bit}
use Rattle.masks.specs.Ends.{Highest}
use Rattle.masks.proofs.Bits.{bit_le, bit_of_zero, bit_cases, bit_within, at_bit}
use Rattle.masks.proofs.Ends.{highest_end}
use Rattle.masks.proofs.Operations.{meet, less}
use Rattle.masks.proofs.OneBit.{and_pow}
use Rattle.masks.proofs.Order.{bit_order}
use Rattle.look.specs.Reason.{Agree, Among, Reason, more, Setting}
use Rattle.look.proofs.Agreement.{agree_at, agree_among, among_by}
use Rattle.look.proofs.Values.{Choice, b_here, value_here}
use Rattle.question.specs.Reason.{Agrees, Sound, Passing, TopOpen, Stands, Keeps, Descends, LeastWord, open_of}
use Rattle.question.proofs.More.{settled_here, more_sound, more_falls, agrees_fewer, agrees_more}
use Rattle.question.proofs.Solving.{at_zero, at_one}

-- ---- the bit at which the walk stands
module _ (last front : ℕ) (s : Setting) (ff : front < 2 ^ suc last) (fs : s.bits < 2 ^ suc last) (some : 0 < open_of (suc last) front s) where
  abbrev zeros : ℕ
  zeros = count_leading_zeros (suc last) (open_of (suc last) front s)

  fits : open_of (suc last) front s < 2 ^ suc last
  fits = lt_of_le_of_lt (and_le_l front (2 ^ suc last - 1 - s.bits)) ff

  -- there are no more zeros before the highest open bit than positions below the last
  pub zeros_below : zeros ≤ last
  zeros_below = (highest_end last (open_of (suc last) front s) some fits).0

  -- a bit of the mask of open bits is one of the front and not settled; above the highest the front has none that is open
  pub top_open : (b : ℕ) → b ≡ 2 ^ (last - zeros) → TopOpen (suc last) front s b
  top_open b e =
      record {
        free = record {
          k = last - zeros;
          low = bit_within (suc last) (open_of (suc last) front s) (last - zeros) fits h.here;
          is = e;
          unsettled = omega (arith, at (last - zeros), h.here, bit_le front (last - zeros));
        };
        inside = omega (arith, at (last - zeros), h.here, bit_le front (last - zeros));
        above = λ j g. omega (arith, at j, h.above j g);
      }
    where
      h : Highest (open_of (suc last) front s) (last - zeros)
      h = (highest_end last (open_of (suc last) front s) some fits).1

      at : (j : ℕ) → bit (open_of (suc last) front s) j ≡ bit front j - bit s.bits j
      at j = less (suc last) front s.bits j ff fs

-- ---- one bit of the walk
module _ {width : ℕ} {P : ℕ → Bool} {front : ℕ} {s : Setting} {word b : ℕ} (D : Stands width P s word) (T : TopOpen width front s b) where
  abbrev k : ℕ
  k = T.free.k

  abbrev with_zero : Choice width s b 0
  with_zero = at_zero D.sound T.free

  abbrev with_one : Choice width s b b
  with_one = at_one D.sound T.free

  -- a word that agrees, and has a 0 there
  more_zero : (w : ℕ) → Agrees s w → bit w k ≡ 0 → Agrees (more s b 0) w
  more_zero w g z = agrees_more with_zero w g (z ∙ sym (bit_of_zero k))

  -- all of the front above k is settled, so of words that agree one with a 1 there has a front above that of one with a 0
  above : (w x : ℕ) → Agrees s w → bit w k ≡ 1 → Agrees (more s b 0) x → bit_and x front < bit_and w front
  above w x g o a =
      bit_order k (bit_and x front) (bit_and w front)
      (λ j l. ⊎_elim
      (λ z. omega (arith, meet x front j, meet w front j))
      (λ e. let f : bit s.bits j ≡ 1 = omega (arith, T.above j l, bit_le s.bits j) in
      let same : bit x j ≡ bit w j = agree_at s.bits x s.values (agrees_fewer with_zero x a) j f
      ∙ sym (agree_at s.bits w s.values g j f) in
      omega (arith, meet x front j, meet w front j))
      (bit_cases front j))
      (omega (arith, meet x front k, zero_there))
      (omega (arith, meet w front k, T.inside))
    where
      zero_there : bit x k ≡ 0
      zero_there = agree_at (bit_or s.bits b) x (bit_or s.values 0) a k (settled_here with_zero) ∙ value_here with_zero ∙ bit_of_zero k

  -- the bit is settled at 0
  pub descends_zero : (w : ℕ) → Passing width P (more s b 0) w → Descends width P front s (more s b 0) w
  descends_zero w p =
      record {
        stands = record { sound = more_sound with_zero D.sound; word = p };
        falls = more_falls with_zero D.sound;
        keeps = record {
          narrower = agrees_fewer with_zero;
          kept = λ t e g. ⊎_elim (λ z. inl (more_zero t g z)) (λ o. inr (λ x a. above t x g o a)) (bit_cases t k);
        };
      }

  -- the word in hand has a 0 there
  pub in_hand : bit_and word b ≡ 0 → Passing width P (more s b 0) word
  in_hand e =
      record {
        fits = D.word.fits;
        agrees = more_zero word D.word.agrees ((and_pow word k).0 (rw T.free.is at e));
        true_of = D.word.true_of;
      }

  -- the bit is settled at 1
  pub descends_one : (m : ℕ) → Reason P (more s b 0) m → (bit_and word b ≡ 0 → ⊥)
      → Descends width P front s (more s b b) word
  descends_one m r f =
      record {
        stands = record {
          sound = more_sound with_one D.sound;
          word = record {
            fits = D.word.fits;
            agrees = more_one word D.word.agrees (λ z. f (rw T.free.is ((and_pow word k).1 z)));
            true_of = D.word.true_of;
          };
        };
        falls = more_falls with_one D.sound;
        keeps = record {
          narrower = agrees_fewer with_one;
          kept = λ t e g. inl (more_one t g (λ z. clash e (fails t (more_zero t g z))));
        };
      }
    where
      more_one : (w : ℕ) → Agrees s w → (bit w k ≡ 0 → ⊥) → Agrees (more s b b) w
      more_one w g h = agrees_more with_one w g (⊎_elim (λ z. absurd (h z)) (λ o. o ∙ sym (b_here T.free)) (bit_cases w k))

      fails : (t : ℕ) → Agrees (more s b 0) t → P t ≡ false
      fails t g = r.why t (agree_among m (bit_or s.bits b) t (bit_or s.values 0) r.among g)

-- ---- the whole walk, from s to r, where it has the word w in hand
pub record Walked (width : ℕ) (P : ℕ → Bool) (front : ℕ) (s r : Setting) (w : ℕ) : Type 0 where
  pub stands : Stands width P r w
  pub keeps : Keeps P front s r

pub walked_none : (width : ℕ) (P : ℕ → Bool) (front : ℕ) (s : Setting) (w : ℕ) → Sound width s → Passing width P s w
    → Walked width P front s s w
walked_none width P front s w ok p =
    record { stands = record { sound = ok; word = p }; keeps = record { narrower = λ x g. g; kept = λ t e g. inl g } }

module _ {width : ℕ} {P : ℕ → Bool} {front : ℕ} {s r : Setting} {w : ℕ} (W : Walked width P front s r w) where
  pub walked_more : {q : Setting} {v : ℕ} → Descends width P front r q v → Walked width P front s q v
  walked_more D =
      record {
        stands = D.stands;
        keeps = record {
          narrower = λ x g. W.keeps.narrower x (D.keeps.narrower x g);
          kept = λ t e g.
              ⊎_elim
              (λ a. D.keeps.kept t e a)
              (λ b. inr (λ x a. b x (D.keeps.narrower x a)))
              (W.keeps.kept t e g);
        };
      }

  -- no bit of the front is open: the word's front is the least
  pub walked_all : front < 2 ^ width → open_of width front r ≡ 0 → LeastWord width P front s w
  unfolding Agree
  walked_all ff e =
      record {
        word = record { fits = p.fits; agrees = W.keeps.narrower w p.agrees; true_of = p.true_of };
        least = λ t g q.
            ⊎_elim (λ a. omega (arith, same t a, same w p.agrees)) (λ b. omega (arith, b w p.agrees)) (W.keeps.kept t q g);
      }
    where
      p : Passing width P r w
      p = W.stands.word

      all_settled : Among front r.bits
      all_settled =
          among_by front r.bits (λ j. omega (arith, less width front r.bits j ff W.stands.sound.fits, at_bit j e, bit_of_zero j))

      same : (t : ℕ) → Agrees r t → bit_and t front ≡ bit_and r.values front
      same t a = agree_among front r.bits t r.values all_settled a

-- Open bits of a pair are open bits of its word: the pair has the first 64 positions, and a front of the pair has no others. Assumes nothing.
use Prim.Native.Nat.{ℕ, ◌+◌, ◌-◌, ◌^◌, ◌≤◌, ◌<◌}
use mathlib.Core.Logic.{⊎_elim}
use mathlib.Core.Path.{◌≡◌, ◌∙◌}
use native.Mathlib.Nat.{lt_of_le_of_lt}
use native.Mathlib.Omega.{arith}
use lib.Bits.{and_le_l}
use Rattle.base.proofs.Tests.{lt_or_ge}
use Rattle.masks.specs.Bit.{bit}
use Rattle.masks.specs.Word.{width, word_of}
use Rattle.masks.specs.declared.Mask.{Mask}
use Rattle.masks.proofs.Bits.{bit_past, bits_below}
use Rattle.masks.proofs.Operations.{less}
use Rattle.masks.proofs.Words.{word_fits, low_width, high_width, first_word, second_word, word_lt}
use Rattle.look.specs.Reason.{Open, Setting}
use Rattle.question.specs.Reason.{open_of, TopOpen}
use Rattle.question.specs.Engine.{OneOf}
use Rattle.question.proofs.Solving.{some_open}

-- the settled bits of a word, and of its pair
module _ (m : Mask) (v : ℕ) where
  abbrev both : Setting
  both = record { bits = word_of m; values = v }

  abbrev pair : Setting
  pair = record { bits = m.pair; values = v }

  -- an open wire
  pub wire_open : {wires word : ℕ} → OneOf wires word → ((j : ℕ) → j < 64 → bit wires j + bit m.wires j ≤ 1) → Open width both word
  wire_open o apart =
      record {
        k = 64 + o.k;
        low = high_width o.k o.low;
        is = o.is;
        unsettled = second_word m o.k o.low ∙ omega (arith, apart o.k o.low, o.here);
      }

  module _ (front : ℕ) (ff : front < 2 ^ 64) where
    -- a front of the pair has no wire
    none_high : (j : ℕ) → 64 ≤ j → bit front j ≡ 0
    none_high j g = bit_past 64 front j ff g

    pub top_wide : {b : ℕ} → TopOpen 64 front pair b → TopOpen width front both b
    top_wide t =
        record {
          free = record {
            k = t.free.k;
            low = low_width t.free.k t.free.low;
            is = t.free.is;
            unsettled = first_word m t.free.k t.free.low ∙ t.free.unsettled;
          };
          inside = t.inside;
          above = λ j l. ⊎_elim (λ h. omega (arith, t.above j l, first_word m j h)) (λ g. omega (arith, none_high j g)) (lt_or_ge j 64);
        }

    -- the open bits of the front, by the pair alone
    pub front_open : m.pair < 2 ^ 64 → open_of width front both ≡ open_of 64 front pair
    front_open f =
        bits_below 64 (open_of width front both) (open_of 64 front pair)
        (lt_of_le_of_lt (and_le_l front (2 ^ width - 1 - word_of m)) ff)
        (lt_of_le_of_lt (and_le_l front (2 ^ 64 - 1 - m.pair)) ff)
        (λ j l. omega (
          arith,
          less width front (word_of m) j (word_fits front ff) (word_lt m),
          less 64 front m.pair j ff f,
          first_word m j l,
        ))

  -- not all of the pair is settled: some bit of it is open
  pub pair_open : m.pair < 2 ^ 64 → (m.pair ≡ 2 ^ 64 - 1 → ⊥) → 0 < open_of width (2 ^ 64 - 1) both
  pair_open f h = rw (front_open (2 ^ 64 - 1) (omega arith) f) (some_open 64 pair (omega (arith, h)))

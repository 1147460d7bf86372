-- A text that is cut off: its first line, and what is left of both. A line that is cut has no line feed. Assumes nothing.
use Prim.Native.Nat.{ℕ, zero, suc, ◌+◌, ◌<◌}
use mathlib.Core.Bool.{false}
use mathlib.Core.List.{List, [], ◌∷◌}
use mathlib.Core.Path.{◌≡◌, refl}
use native.Mathlib.Omega.{arith}
use borrow.Author.Tests.{eqb-false}
use lib.Dec.{eqb}
use lib.ListN.{length, get_or, take}
use Rattle.base.proofs.Tests.{test}
use Rattle.text.specs.Lines.{before, lines}

-- no byte is a line feed
abbrev pub Feedless : List ℕ → Type 0
Feedless l = (j : ℕ) → j < length l → get_or l j 0 ≡ 10 → ⊥

-- The first line of a text, and what is left of both if the text is cut off behind `most` bytes.
pub record First (text : List ℕ) : Type 0 where
  pub line : List ℕ
  pub rest : List ℕ
  pub first : lines text ≡ line ∷ lines rest
  pub within : (most more : ℕ) → most ≡ length line + more → lines (take most text) ≡ line ∷ lines (take more rest)
  pub beyond : (most : ℕ) → 0 < most → most < length line → (lines (take most text) ≡ take most line ∷ []) × Feedless (take most line)

pub take_none : (n : ℕ) → take {A = ℕ} n [] ≡ []
take_none zero = refl
take_none (suc n) = refl

-- one byte
first_one : (b : ℕ) (bs : List ℕ) → lines (b ∷ bs) ≡ (b ∷ []) ∷ lines bs → ((n : ℕ) → lines (b ∷ take n bs) ≡ (b ∷ []) ∷ lines (take n bs)) → First (b ∷ bs)
first_one b bs e cut =
    record {
      line = b ∷ [];
      rest = bs;
      first = e;
      within = within;
      beyond = λ most h g. absurd (omega arith);
    }
  where
    within : (most more : ℕ) → most ≡ 1 + more → lines (take most (b ∷ bs)) ≡ (b ∷ []) ∷ lines (take more bs)
    within zero more h = absurd (omega arith)
    within (suc n) more h = let e : n ≡ more = omega arith in rw (← e) (cut n)

-- a byte that is no line feed, in front of a line
first_more : (b : ℕ) (bs : List ℕ) → eqb b 10 ≡ false → First bs → First (b ∷ bs)
unfolding lines before
first_more b bs e w =
    record {
      line = b ∷ w.line;
      rest = w.rest;
      first = rw (e, lines) (rw (w.first, before));
      within = within;
      beyond = beyond;
    }
  where
    within : (most more : ℕ) → most ≡ suc (length w.line) + more → lines (take most (b ∷ bs)) ≡ (b ∷ w.line) ∷ lines (take more w.rest)
    within zero more h = absurd (omega arith)
    within (suc n) more h = rw (e, lines) (rw (w.within n more (omega arith), before))

    feedless : (l : List ℕ) → Feedless l → Feedless (b ∷ l)
    feedless l f zero h g = eqb-false b 10 e g
    feedless l f (suc j) h g = f j (omega arith) g

    beyond : (most : ℕ) → 0 < most → most < suc (length w.line)
        → (lines (take most (b ∷ bs)) ≡ take most (b ∷ w.line) ∷ []) × Feedless (take most (b ∷ w.line))
    beyond zero h g = absurd (omega arith)
    beyond (suc zero) h g = (rw (e, lines), feedless [] (λ j k. absurd (omega arith)))
    beyond (suc (suc n)) h g =
        let c = w.beyond (suc n) (omega arith) (omega arith) in
        (rw (e, lines) (rw (c.0, before)), feedless (take (suc n) w.line) c.1)

pub first_line : (b : ℕ) (bs : List ℕ) → First (b ∷ bs)
unfolding lines before
first_line b [] =
    test (eqb b 10)
    (λ e. first_one b [] (rw (e, lines)) (λ n. rw (take_none n) (rw (e, lines))))
    (λ e. first_one b [] (rw (e, lines)) (λ n. rw (take_none n) (rw (e, lines))))
first_line b (c ∷ bs) =
    test (eqb b 10)
    (λ e. first_one b (c ∷ bs) (rw (e, lines)) (λ n. rw (e, lines)))
    (λ e. first_more b (c ∷ bs) e (first_line c bs))

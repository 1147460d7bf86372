-- What a walk has shown. Over a store: that the number looked for stands at no index passed, so that it ends at the first index where it stands,
-- or at the count. Over the levels: that each level passed is taken. Each grows by one number at a time. Assumes nothing.
use Prim.Native.Nat.{ℕ, ◌+◌, ◌-◌, ◌≤◌, ◌<◌}
use mathlib.Core.Bool.{false, not}
use mathlib.Core.List.{List}
use mathlib.Core.Path.{◌≡◌, refl, sym, ap, ◌∙◌}
use native.Mathlib.Omega.{arith}
use borrow.Author.Tests.{eqb-true, eqb-false, ltb-false, not-true}
use lib.Dec.{eqb}
use lib.ListN.{length, get_or, take, drop, length-take, length-drop}
use Rattle.std.proofs.Common.{nat_lt, Option, Some, None, position}
use Rattle.std.specs.List.{Any, position_or_len}
use Rattle.std.proofs.lemmas.List.{get_or-take, get_or-drop}
use Rattle.std.proofs.lemmas.Grind.{get_or_default_zero}
use Rattle.std.proofs.lemmas.List.Quantifiers.{position-Some}
use Rattle.std.proofs.lemmas.List.Sums.{prefix_len_passes}
use Rattle.base.proofs.Tests.{test}
use Rattle.search.specs.Inner.{Absent, FirstAt, First}

-- ---- as the library asks whether i stands among the first j
module _ (xs : List ℕ) (j i : ℕ) (h : j ≤ length xs) where
  pub sits_here : Any (λ l. l ≡ i) (take j xs) → (k : ℕ) × (k < j) × (get_or xs k 0 ≡ i)
  sits_here a =
      let g : a.0 < j = omega (arith, a.2, length-take j xs) in
      let e = sym (get_or-take j xs a.0 a.1 g) ∙ a.3 ∙ a.4 in
      (a.0, g, sym (get_or_default_zero xs a.0 a.1 (omega arith)) ∙ e)

  pub sits_nowhere : (Any (λ l. l ≡ i) (take j xs) → ⊥) → Absent xs 0 j i
  sits_nowhere f k a b q =
      f (k, i, omega (arith, length-take j xs), get_or-take j xs k i b ∙ get_or_default_zero xs k i (omega arith) ∙ q, refl)

-- ---- over a store
-- where a walk from j on found nothing, none from j on is looked for
pub untested : {xs : List ℕ} {j count s : ℕ} → First xs j count s None → Absent xs j count s
untested f = f.before

-- from index j on up to count, a walk for s stands at k
pub record Passed (xs : List ℕ) (j count s k : ℕ) : Type 0 where
  pub from : j ≤ k
  pub within : k ≤ count
  pub absent : Absent xs j k s

-- no index is passed
pub passed_none : (xs : List ℕ) (j count s : ℕ) → j ≤ count → Passed xs j count s j
passed_none xs j count s h = record { from = omega arith; within = h; absent = λ l a b q. omega arith }

module _ {xs : List ℕ} {j count s k : ℕ} (p : Passed xs j count s k) where
  -- one index more
  pub passed_more : k < count → (get_or xs k 0 ≡ s → ⊥) → Passed xs j count s (k + 1)
  passed_more h here =
      record {
        from = omega (arith, p.from);
        within = omega arith;
        absent = λ l a b q. test (eqb l k)
            (λ e. here (rw (eqb-true l k e) at q))
            (λ e. p.absent l a (omega (arith, eqb-false l k e)) q);
      }

  -- s stands here
  pub passed_found : get_or xs k 0 ≡ s → FirstAt xs j count s k
  passed_found here = record { from = p.from; within = p.within; here = λ _. here; before = p.absent }

  -- all are passed
  pub passed_all : count ≤ k → FirstAt xs j count s k
  passed_all h = record { from = p.from; within = p.within; here = λ l. absurd (omega arith); before = p.absent }

none_some : (k : ℕ) → ◌≡◌ {A = Option ℕ} (Some k) None → ⊥
none_some k e = let z : ◌≡◌ {A = ℕ} 0 1 = cc in omega arith

-- ---- as the library looks: the first place of s among the numbers from j up to below count
module _ (xs : List ℕ) (j count s : ℕ) (h : count ≤ length xs) (l : j ≤ count) where
  abbrev between : List ℕ
  between = take (count - j) (drop j xs)

  size : length between ≡ count - j
  size = omega (arith, length-take (count - j) (drop j xs), length-drop j xs)

  here : (k : ℕ) → k < count - j → get_or between k 0 ≡ get_or xs (j + k) 0
  here k g = get_or-take (count - j) (drop j xs) k 0 g ∙ get_or-drop j xs k 0

  passed : (n : ℕ) → ((k : ℕ) → k < n → eqb (get_or between k 0) s ≡ false) → n ≤ count - j → Absent xs j (j + n) s
  passed n f g m a b q =
      let e : j + (m - j) ≡ m = omega arith in
      eqb-false _ _ (f (m - j) (omega arith)) (here (m - j) (omega arith) ∙ ap (λ z. get_or xs z 0) e ∙ q)

  pub first_some : (k : ℕ) → position (λ x. eqb x s) between ≡ Some k → FirstAt xs j count s (j + k) × (j + k < count)
  first_some k e =
      let w = position-Some (λ x. eqb x s) between k 0 e in
      let g : k < count - j = omega (arith, w.0, size) in (
        record {
          from = omega arith;
          within = omega arith;
          here = λ _. sym (here k g) ∙ eqb-true _ _ w.1;
          before = passed k w.2 (omega arith);
        },
        omega arith,
      )

  pub first_none : position (λ x. eqb x s) between ≡ None → FirstAt xs j count s count
  first_none e =
      let n : j + (count - j) ≡ count = omega arith in
      record {
        from = l;
        within = omega arith;
        here = λ g. absurd (omega arith);
        before = rw n at (passed (count - j) none (omega arith));
      }
    where
      none : (k : ℕ) → k < count - j → eqb (get_or between k 0) s ≡ false
      none k g =
          test (nat_lt (position_or_len (λ x. eqb x s) between) (length between))
          (λ f. absurd (none_some (position_or_len (λ x. eqb x s) between) (rw f at e)))
          (λ f. not-true _ (prefix_len_passes (λ x. not (eqb x s)) between k 0 (omega (arith, ltb-false _ _ f, size))))

-- the same from the first number on
module _ (xs : List ℕ) (count s : ℕ) (h : count ≤ length xs) where
  front : take (count - 0) (drop 0 xs) ≡ take count xs
  front = let z : count - 0 ≡ count = omega arith in rw z

  front_some : (k : ℕ) → position (λ x. eqb x s) (take count xs) ≡ Some k → FirstAt xs 0 count s k × (k < count)
  front_some k e =
      let z : 0 + k ≡ k = omega arith in
      rw z at (first_some xs 0 count s h (omega arith) k (rw front e))

  front_none : position (λ x. eqb x s) (take count xs) ≡ None → FirstAt xs 0 count s count
  front_none e = first_none xs 0 count s h (omega arith) (rw front e)

  pub front_first : (o : Option ℕ) → o ≡ position (λ x. eqb x s) (take count xs) → First xs 0 count s o
  front_first (Some k) e = front_some k (sym e)
  front_first None e = front_none (sym e)

-- ---- over the levels
-- each level from 1 up to below i is taken by one of the first `count` entries
abbrev pub AllTaken : List ℕ → ℕ → ℕ → Type 0
AllTaken ls count i = (l : ℕ) → 1 ≤ l → l < i → (Absent ls 0 count l → ⊥)

-- from 1 up to below 1 there is no level
pub taken_none : (ls : List ℕ) (count : ℕ) → AllTaken ls count 1
taken_none ls count l a b = absurd (omega arith)

-- one level more: entry j has it
pub taken_more : (ls : List ℕ) (count i j : ℕ) → AllTaken ls count i → j < count → get_or ls j 0 ≡ i → AllTaken ls count (i + 1)
taken_more ls count i j all h here l a b free =
    test (eqb l i)
    (λ e. free j (omega arith) h (here ∙ sym (eqb-true l i e)))
    (λ e. all l a (omega (arith, eqb-false l i e)) free)

-- The list of the numbers below a size that pass a test. None is below 0; from a size to a larger one nothing is added where no number between
-- passes, and a number that passes is added at the end. So every size has a list, and as rising lists with the same numbers are equal, one only.
-- Where a number between passes, the list of the larger size is longer, since it has that number and all of the other. Assumes nothing.
use Prim.Native.Nat.{ℕ, zero, suc, ◌≤◌, ◌<◌}
use mathlib.Core.Bool.{Bool, true, false}
use mathlib.Core.List.{List, [], ◌∷◌}
use mathlib.Core.Logic.{⊎_elim}
use mathlib.Core.Path.{◌≡◌}
use native.Mathlib.Omega.{arith}
use lib.ListN.{length}
use Rattle.base.proofs.Tests.{test, clash, lt_or_ge}
use Rattle.ic3.specs.Demands.{listed}
use Rattle.ic3.proofs.Store.{listed_none, inside_length}
use Rattle.question.proofs.Ranges.{Free, First}
use Rattle.into.specs.Into.{Lists}
use Rattle.into.proofs.Rising.{◌then◌, listed_cases, then_kept, then_last, then_cases, rising_then, rising_distinct, rising_unique}

module _ (p : ℕ → Bool) where
  pub lists_none : Lists 0 p []
  lists_none = record { rising = tt; exact = λ s. (listed_none s, λ w. absurd (omega (arith, w.0))) }

  module _ {a : ℕ} {xs : List ℕ} (l : Lists a p xs) where
    -- nothing between
    pub lists_up : (b : ℕ) → a ≤ b → Free a b p → Lists b p xs
    lists_up b h f =
        record {
          rising = l.rising;
          exact = λ s. (
            λ k. let w = (l.exact s).0 k in (omega (arith, w.0), w.1),
            λ w. ⊎_elim (λ c. (l.exact s).1 (c, w.1)) (λ g. clash w.1 (f s g w.0)) (lt_or_ge s a),
          );
        }

    -- the next number passes
    pub lists_then : p a ≡ true → Lists (suc a) p (xs then a)
    lists_then e =
        record {
          rising = rising_then xs a l.rising (λ s k. ((l.exact s).0 k).0);
          exact = λ s. (
            λ k. ⊎_elim
                (λ k. let w = (l.exact s).0 k in (omega (arith, w.0), w.1))
                (λ q. (omega arith, rw (← q) e))
                (then_cases xs a s k),
            λ w. ⊎_elim
                (λ c. then_kept xs a s ((l.exact s).1 (c, w.1)))
                (λ g. let q : s ≡ a = omega (arith, w.0) in rw q (then_last xs a))
                (lt_or_ge s a),
          );
        }

  -- every size has a list
  pub lists_some : (size : ℕ) → (xs : List ℕ) × Lists size p xs
  lists_some zero = ([], lists_none)
  lists_some (suc k) =
      let below = lists_some k in
      test (p k)
      (λ e. (below.0 then k, lists_then below.1 e))
      (λ e. (below.0, lists_up below.1 (suc k) (omega arith) (λ s g h. let q : s ≡ k = omega arith in rw q e)))

  -- and one only
  pub lists_unique : {size : ℕ} {xs ys : List ℕ} → Lists size p xs → Lists size p ys → xs ≡ ys
  lists_unique {size} {xs} {ys} l m =
      rising_unique xs ys l.rising m.rising (λ s k. (m.exact s).1 ((l.exact s).0 k)) (λ s k. (l.exact s).1 ((m.exact s).0 k))

  -- a number between passes
  pub lists_longer : {a size s : ℕ} {xs ys : List ℕ} → Lists a p xs → Lists size p ys → First a size p s → length xs < length ys
  lists_longer {a} {size} {s} {xs} {ys} l m f = inside_length (s ∷ xs) ys (new, rising_distinct xs l.rising) all
    where
      new : listed xs s ≡ false
      new = test (listed xs s) (λ k. absurd (omega (arith, ((l.exact s).0 k).0, f.low))) (λ k. k)

      all : (t : ℕ) → listed (s ∷ xs) t ≡ true → listed ys t ≡ true
      all t k =
          ⊎_elim
          (λ q. rw (← q) ((m.exact s).1 (f.high, f.passes)))
          (λ r. let w = (l.exact t).0 r in (m.exact t).1 (omega (arith, w.0, f.low, f.high), w.1))
          (listed_cases s xs t k)

-- The questions over the fronts of the two stores are those that the search asks of its model: the front of each, entry by entry, is the store.
-- Assumes nothing.
use Prim.Native.Nat.{ℕ, zero, suc, ◌≤◌}
use mathlib.Core.Bool.{◌&&◌}
use mathlib.Core.List.{List, [], ◌∷◌}
use mathlib.Core.Option.{Option}
use mathlib.Core.Path.{◌≡◌, refl, sym, ap, ◌∙◌}
use native.Mathlib.Omega.{arith}
use lib.ListN.{length, take, get_or}
use lib.Seq.{length-take-le}
use Rattle.ic3.specs.Shape.{Tidy}
use Rattle.ic3.specs.Search.{level_of, R, Phase, look, wanted, at, react, next}
use Rattle.system.specs.System.{System, model}
use Rattle.question.specs.Question.{bad_in, step_in}
use Rattle.question.specs.Stored.{stored}
use Rattle.question.proofs.Model.{bad_asked, step_asked}
use Rattle.call.specs.Call.{rounds}
use Rattle.search.specs.Lent.{window, store_of}
use Rattle.search.specs.Inner.{Asks}

-- a window from the second entry on is one of the tails
window_tails : (left i x k : ℕ) (ss ls : List ℕ) → window left (suc i) (x ∷ ss) (k ∷ ls) ≡ window left i ss ls
unfolding window
window_tails zero i x k ss ls = refl
window_tails (suc left) i x k ss ls = ap (λ w. record { state = get_or ss i 0; level = get_or ls i 0 } ∷ w) (window_tails left (suc i) x k ss ls)

pub stored_fronts : (count : ℕ) (ss ls : List ℕ) → count ≤ length ss → count ≤ length ls → stored (take count ss) (take count ls) ≡ store_of count ss ls
unfolding stored store_of window
stored_fronts zero ss ls h l = refl
stored_fronts (suc count) [] ls h l = absurd (omega arith)
stored_fronts (suc count) (x ∷ ss) [] h l = absurd (omega arith)
stored_fronts (suc count) (x ∷ ss) (k ∷ ls) h l =
    rw (window_tails count 0 x k ss ls) (ap (λ w. record { state = x; level = k } ∷ w) (stored_fronts count ss ls (omega arith) (omega arith)))

module _ (y : System) (count : ℕ) (ss ls : List ℕ) (a : Asks y.n count ss ls) where
  levels_within : count ≤ length ls
  levels_within = rw a.holds.same a.holds.within

  same : length (take count ss) ≤ length (take count ls)
  same = rw (length-take-le count ss a.holds.within, length-take-le count ls levels_within) (omega arith)

  fronts : stored (take count ss) (take count ls) ≡ store_of count ss ls
  fronts = stored_fronts count ss ls a.holds.within levels_within

  fronts_tidy : Tidy (stored (take count ss) (take count ls))
  fronts_tidy = rw fronts a.tidy

  -- an answer of steps 1 and 2, taken in
  pub look_next : (room N : ℕ) (o : Option ℕ) → o ≡ bad_in y.n y.w y.start y.bad (take count ss) (take count ls) N 0
      → next rounds (model y) room (at N (store_of count ss ls) look) ≡ react rounds room N (store_of count ss ls) look o
  unfolding next
  look_next room N o e =
      ap (react rounds room N (store_of count ss ls) look)
      (sym (e ∙ (rw fronts at (bad_asked y (take count ss) (take count ls) a.small same fronts_tidy N))))

  -- an answer of steps 3 and 4, in each phase that asks for a state of R(i) which steps to s
  pub step_next : (room N i s : ℕ) (p : Phase) (o : Option ℕ)
      → wanted (model y) N (store_of count ss ls) p ≡ (λ t. R (model y) (level_of (store_of count ss ls)) i t && (model y).step t s)
      → o ≡ step_in y.n y.w y.start y.step (take count ss) (take count ls) i s 0
      → next rounds (model y) room (at N (store_of count ss ls) p) ≡ react rounds room N (store_of count ss ls) p o
  unfolding next
  step_next room N i s p o h e =
      ap (react rounds room N (store_of count ss ls) p)
      (sym (e ∙ (rw fronts at (step_asked y (take count ss) (take count ls) a.small same fronts_tidy N i s p (rw fronts h)))))

-- The exact bound, from which demand 3 follows (Bound), for full and shortened rounds at once. The account of ExactAccount holds at every question; in
-- shortened rounds the levels below the tested one are taken besides. It leaves room below the bound for one question more: in steps 2 and 3 by
-- ExactCounts, in step 4 by ExactTested. Assumes nothing.
use Prim.Native.Nat.{ℕ, zero, suc, ◌+◌, ◌*◌, ◌≤◌}
use mathlib.Core.List.{List, [], ◌∷◌}
use mathlib.Core.Option.{Option}
use mathlib.Core.Path.{refl}
use native.Mathlib.Omega.{arith}
use native.Mathlib.Nat.{suc-mul}
use borrow.Author.Tests.{eqb-true, eqb-false}
use lib.Dec.{eqb}
use Rattle.base.proofs.Tests.{test}
use Rattle.ic3.specs.Theorems.{Bounded}
use Rattle.ic3.specs.Model.{Model}
use Rattle.ic3.specs.Search.{Entry, Phase, look, settle, raise, Move, go, stop, Rounds, full, shortened, react}
use Rattle.ic3.specs.Shape.{Sits, Placed}
use Rattle.ic3.specs.Demands.{Doomed, Number}
use Rattle.ic3.specs.Exact.{up_to, exact}
use Rattle.ic3.proofs.Sound.{Kept, Stands, duty_doomed}
use Rattle.ic3.proofs.Shortened.{Filled, Filling, react_fills}
use Rattle.ic3.proofs.Cost.{Cheap, bounded}
use Rattle.ic3.proofs.ExactSums.{up_to_twice}
use Rattle.ic3.proofs.ExactAccount.{Testing, C}
use Rattle.ic3.proofs.ExactCounts.{doomed_some, none_few, look_few, settle_few}
use Rattle.ic3.proofs.ExactTested.{full_few, shortened_few}
use Rattle.ic3.proofs.ExactRound.{Held}
use Rattle.ic3.proofs.ExactKept.{react_exact}

-- what is kept of the levels beside the account, at a question and where an answer leads
abbrev Levels : Rounds → List Entry → Phase → Type 0
Levels full st ph = Unit {0}
Levels shortened st ph = Filled st ph

abbrev LevelsThen : Rounds → Move → Type 0
LevelsThen full v = Unit {0}
LevelsThen shortened v = Filling v

-- three questions are always within the bound, and with a doomed state as many as steps 2 and 3 take
three : (r : Rounds) (m : ℕ) → 3 ≤ exact r m
three full m = omega arith
three shortened m = omega arith

opened : (r : Rounds) (m : ℕ) → 1 ≤ m → 2 + 3 * up_to m ≤ exact r m
opened full zero h = elim h [ ]
opened full (suc m) h = omega (arith, up_to_twice (suc m), suc-mul m (suc m))
opened shortened m h = omega arith

module _ (M : Model) (m : ℕ) (D : Number (Doomed M) m) where
  abbrev F : Rounds → ℕ → List Entry → Phase → ℕ → Type 0
  F r N st ph q = C M N st ph q × Levels r st ph

  tested_more : (r : Rounds) (N : ℕ) (st : List Entry) (i s : ℕ) (todo : List ℕ) (q : ℕ) → Kept M (suc N) st → Sits (suc N) st i s
      → Testing M N st i (s ∷ todo) q → Levels r st (raise i s todo) → suc q ≤ exact r m
  tested_more full N st i s todo q K w c t = full_few M m D N st i s todo q K w c
  tested_more shortened N st i s todo q K w c t = shortened_few M m D N st i s todo q K w c t

  one_more : (r : Rounds) (N : ℕ) (st : List Entry) (ph : Phase) (q : ℕ) → Kept M N st → Stands M N st ph → F r N st ph q → suc q ≤ exact r m
  one_more r zero st look q K w c = omega (arith, c.0.0, three r m)
  one_more r (suc n) st look q K w c =
      test (eqb m 0)
      (λ e. omega (arith, three r m, none_few M m D n st K 0 q c.0 refl (eqb-true m 0 e)))
      (λ e. let h : 1 ≤ m = omega (arith, eqb-false m 0 e) in omega (arith, opened r m h, look_few M m D n st K 0 q c.0 h refl))
  one_more r zero st (settle k s ds) q K w c = absurd c.0
  one_more r (suc n) st (settle k s ds) q K w c =
      let h : 1 ≤ m = doomed_some M m D s (duty_doomed M (suc n) st K k s ds w) in
      omega (arith, opened r m h, settle_few M m D n st K _ q c.0 k s ds w refl)
  one_more r zero st (raise i s todo) q K w c = absurd c.0
  one_more r (suc N) st (raise i s todo) q K w c = tested_more r N st i s todo q K w c.0 c.1

  levels_kept : (r : Rounds) (room N : ℕ) (st : List Entry) (ph : Phase) (o : Option ℕ) → Stands M N st ph → Levels r st ph
      → LevelsThen r (react r room N st ph o)
  levels_kept full room N st ph o w t = tt
  levels_kept shortened room N st ph o w t = react_fills room N st ph o (placed ph w) t
    where
      placed : (ph : Phase) → Stands M N st ph → Placed N st ph
      placed look w = tt
      placed (settle k s ds) w = w.count
      placed (raise i s todo) w = w

  both : (r : Rounds) (room q : ℕ) (v : Move) → Held M m room q v → LevelsThen r v → Cheap M m (F r) room q v
  both full room q (go c) h t = (h, t)
  both shortened room q (go c) h t = (h, t)
  both r room q (stop v) h t = h

  begin : (r : Rounds) → Levels r [] look
  begin full = tt
  begin shortened = tt

  -- THE BOUND
  pub exact_bound : (r : Rounds) → Bounded r M m (exact r m)
  exact_bound r =
      bounded M m (F r) r (exact r m) (one_more r)
      (λ room N st ph o q K w a c. both r room (suc q) (react r room N st ph o) (react_exact M m D r room N st ph o q K w a c.0)
      (levels_kept r room N st ph o w c.1))
      (omega (arith, three r m)) ((refl, refl), begin r)

-- The questions of step 4, where a state is tested after N rounds. The sum of the levels is at most N for each stored state and one more for each at level
-- N + 1: that is the exact bound of full rounds. In a shortened round each level below the tested one is taken too (Shortened), and so all levels up to N
-- are; the layers of ExactLayers then bound the sum. Above level 1 a state that kept level 1 shows that one is missing, so fewer than m are stored; at
-- level 1 there may be m: that is the exact bound of shortened ones. Assumes nothing.
use Prim.Native.Nat.{ℕ, suc, ◌+◌, ◌*◌, ◌-◌, ◌≤◌}
use mathlib.Core.List.{List, ◌∷◌}
use mathlib.Core.Path.{◌≡◌}
use native.Mathlib.Omega.{arith}
use borrow.Author.Tests.{eqb-true, eqb-false, ltb-true, ltb-false}
use lib.Dec.{eqb, leb, ltb}
use lib.ListN.{length}
use Rattle.base.proofs.Tests.{test}
use Rattle.ic3.specs.Model.{Model}
use Rattle.ic3.specs.Search.{Entry, states, full, shortened}
use Rattle.ic3.specs.Shape.{Sits}
use Rattle.ic3.specs.Demands.{Doomed, Number}
use Rattle.ic3.specs.Exact.{exact, up_to}
use Rattle.ic3.proofs.Store.{total, total_cap, states_fall}
use Rattle.ic3.proofs.Round.{Taken}
use Rattle.ic3.proofs.Sound.{Kept, level_low}
use Rattle.ic3.proofs.ExactSums.{full_sum, first_sum, later_sum}
use Rattle.ic3.proofs.ExactLayers.{Has, taken_has, total_but}
use Rattle.ic3.proofs.ExactAccount.{sown_later, Missing, Testing}
use Rattle.ic3.proofs.ExactCounts.{doomed_some, stored_few, missing_few}
use Rattle.ic3.proofs.ExactRound.{tested_sown}

module _ (M : Model) (m : ℕ) (D : Number (Doomed M) m) (N : ℕ) (st : List Entry) (i s : ℕ) (todo : List ℕ) (q : ℕ) (K : Kept M (suc N) st)
    (w : Sits (suc N) st i s) (c : Testing M N st i (s ∷ todo) q) where
  few : length st ≤ m
  few = stored_few M m D N st K.tidy c.sown

  -- at most m rounds have been
  rounds_few : N ≤ m
  rounds_few = omega (arith, few, c.enough, doomed_some M m D s (tested_sown M m N st i s todo w q c).doomed)

  abbrev above : ℕ
  above = length (states (leb (suc i)) st)

  pub full_few : suc q ≤ exact full m
  full_few =
      let z : N + (m - N) ≡ m = omega (arith, rounds_few) in
      let x : suc q ≤ 2 * (m * m) + 2 * m + 2 = rw z at (full_sum N (m - N) (length st) (total st) (length (states (leb (suc N)) st))
      (length (s ∷ todo) + above) q (omega (arith, few)) (total_cap N st K.tidy (level_low M (suc N) st K))
      (omega (arith, states_fall (suc i) (suc N) w.below st)) c.few) in
      omega arith

  module _ (t : Taken st i) where
    -- each level up to N is taken
    all_taken : (l : ℕ) → 1 ≤ l → l ≤ N → Has st l
    all_taken l a b =
        test (ltb l i)
        (λ e. taken_has st K.tidy l a (t l a (ltb-true l i e)))
        (λ e. test (eqb l i)
        (λ f. (s, rw (eqb-true l i f) w.here))
        (λ f. c.upper l (omega (arith, ltb-false l i e, eqb-false l i f)) b))

    low : total st + up_to N ≤ above + i + N * length st
    low = total_but st K.tidy N all_taken (level_low M (suc N) st K) i (omega (arith, w.below))

    -- above level 1, one is missing
    missing : 2 ≤ i → Missing M N st
    missing h = let x = all_taken 1 (omega arith) (omega (arith, w.below)) in c.failed x.0 x.1 (λ e. absurd (omega arith))

    pub shortened_few : suc q ≤ exact shortened m
    shortened_few =
        test (ltb i 2)
        (λ e. let o : i ≡ 1 = omega (arith, ltb-true i 2 e, w.above) in
        let z : N + (m - N) ≡ m = omega (arith, rounds_few) in
        let x : suc q ≤ 3 + 3 * up_to m = rw z at (first_sum N (m - N) (length st) (total st) above (length (s ∷ todo) + above) q
        (omega (arith, few)) (omega (arith, low)) (omega arith) c.few) in
        omega arith)
        (λ e. let h : suc (length st) ≤ m = missing_few M m D N st K (sown_later M N st c.sown) (missing (ltb-false i 2 e)) in
        let z : suc N + (m - suc N) ≡ m = omega (arith, c.enough, w.below, ltb-false i 2 e) in
        let x : suc q ≤ 2 + 3 * up_to m = rw z at (later_sum N (m - suc N) (length st) (total st) above i (length (s ∷ todo) + above) q
        (omega arith) (omega (arith, w.below)) low (omega arith) c.few) in
        omega arith)

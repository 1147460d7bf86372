-- What the account of ExactAccount counts is at most m: the stored states, those settled at this N, with the open duties too, and those stored at the end of
-- the last round, with one more. For all of them are doomed, and none is counted twice: the states of the open duties sit each exactly one level below
-- its duty, and were not settled before at this N. So in steps 2 and 3 at most 2 + 3 (1 + .. + m) questions are asked, or three where nothing is doomed.
-- Assumes nothing.
use Prim.Native.Nat.{ℕ, suc, ◌+◌, ◌*◌, ◌-◌, ◌≤◌}
use mathlib.Core.Bool.{true, false}
use mathlib.Core.List.{List, [], ◌∷◌, ◌++◌}
use mathlib.Core.Path.{◌≡◌, refl, sym, ◌∙◌}
use native.Mathlib.Omega.{arith}
use native.Mathlib.Nat.{mul-le-mul}
use borrow.Author.Tests.{eqb-true, eqb-false, le-leb}
use lib.Dec.{eqb, leb}
use lib.ListN.{length, length-append}
use Rattle.base.proofs.Tests.{test}
use Rattle.ic3.specs.Model.{Model}
use Rattle.ic3.specs.Search.{Entry, level_of, put, states}
use Rattle.ic3.specs.Shape.{Tidy}
use Rattle.ic3.specs.Demands.{Leads, listed, Doomed, Distinct, Number}
use Rattle.ic3.specs.Exact.{up_to}
use Rattle.ic3.proofs.Store.{put_tidy, Stored, stored_put, put_new, total, total_low, listed_none, listed_other, states_listed, states_all, inside_length}
use Rattle.ic3.proofs.Frames.{leads_no_start, leads_level}
use Rattle.ic3.proofs.Sound.{Kept, Under, Duty, level_low}
use Rattle.ic3.proofs.Number.{number_listed, number_stored}
use Rattle.ic3.proofs.ExactSums.{opened_sum}
use Rattle.ic3.proofs.ExactAccount.{Sown, Missing, Fresh, first, grew, lacks, Opened}

module _ (M : Model) (m : ℕ) (D : Number (Doomed M) m) where
  pub doomed_some : (s : ℕ) → Doomed M s → 1 ≤ m
  doomed_some s d = omega (arith, D.many, pick D.those ((D.exact s).1 d))
    where
      pick : (l : List ℕ) → listed l s ≡ true → 1 ≤ length l
      pick [] a = listed_none s a
      pick (y ∷ l) a = omega arith

  pub stored_few : (N : ℕ) (st : List Entry) → Tidy st → Stored (Sown M N) st → length st ≤ m
  stored_few N st w h = number_stored {P = Doomed M} m D st w (λ s g. (h s g).doomed)

  pub done_few : (n : ℕ) (st : List Entry) (duties q : ℕ) → Tidy st → (c : Opened M n st duties q) → length c.done ≤ length st
  done_few n st duties q w c =
      omega (
        arith,
        states_all st w,
        inside_length c.done (states (leb 1) st) c.distinct
            (λ s a. states_listed (leb 1) refl st w s ∙ le-leb 1 (level_of st s) (c.ahead s a).stored),
      )

  module _ (n : ℕ) (st : List Entry) (K : Kept M (suc n) st) where
    -- what leads to a bad state in fewer than N steps is doomed
    abbrev led : (s : ℕ) (xs : List ℕ) → Leads M s xs → length xs ≤ n → Doomed M s
    led s xs w h =
        record {
          no_start = leads_no_start M (suc n) (level_of st) K.frames s xs w (omega arith);
          onward = xs;
          leads = w;
        }

    -- one that is missing is counted too
    pub missing_few : Stored (Sown M (suc n)) st → Missing M n st → suc (length st) ≤ m
    missing_few S x =
        let s : Sown M (suc n) x.state =
        record { doomed = led x.state x.onward x.leads x.short; short = omega (arith, x.short) } in
        omega (
          arith,
          put_new st x.state 1 K.tidy x.unstored,
          stored_few (suc n) (put st x.state 1) (put_tidy st x.state 1 (omega arith) K.tidy)
              (stored_put {P = Sown M (suc n)} st x.state 1 s S),
        )

    module _ (duties q : ℕ) (c : Opened M n st duties q) where
      -- fewer than m states were stored at the end of the last round
      before_few : 1 ≤ m → suc c.before ≤ m
      before_few h = pick c.fresh
        where
          pick : Fresh M n c.before st → suc c.before ≤ m
          pick (first a b) = omega arith
          pick (grew a) = omega (arith, stored_few (suc n) st K.tidy c.sown)
          pick (lacks x) = omega (arith, c.grown, missing_few c.sown x)

      -- with no doomed state there are three questions
      pub none_few : duties ≡ 0 → m ≡ 0 → suc q ≤ 3
      none_few e h =
          let l : length st ≤ 0 = omega (arith, stored_few (suc n) st K.tidy c.sown) in
          let y : n * c.before ≤ 0 * 0 = mul-le-mul {n₂ = 0} {m₂ = 0} (omega (arith, c.fewer, c.grown)) (omega (arith, c.grown)) in
          let x : suc n * length st ≤ 1 * 0 = mul-le-mul {n₂ = 1} {m₂ = 0} (omega (arith, c.fewer, c.grown)) l in
          omega (
            arith,
            c.few,
            c.fewer,
            c.grown,
            done_few n st duties q K.tidy c,
            total_low (suc n) st K.tidy (level_low M (suc n) st K),
          )

      -- ---- the open duties beside those settled
      -- a list of doomed states, none twice, of which each that was not settled sits at level k or above
      record Counted (k : ℕ) (l : List ℕ) : Type 0 where
        distinct : Distinct l
        doomed : (s : ℕ) → listed l s ≡ true → Doomed M s
        higher : (s : ℕ) → listed l s ≡ true → listed c.done s ≡ false → k ≤ level_of st s

      counted_done : (k : ℕ) → Counted k c.done
      counted_done k =
          record {
            distinct = c.distinct;
            doomed = λ s a. (c.sown s (c.ahead s a).stored).doomed;
            higher = λ s a e. absurd (let z : ◌≡◌ {A = ℕ} 0 1 = cc in omega arith);
          }

      -- one duty more
      counted_more : (k s : ℕ) (ds : List ℕ) → n ≡ k + length ds → Leads M s ds → level_of st s ≤ k → (l : List ℕ) → Counted (suc k) l
          → Counted k (s ∷ l)
      counted_more k s ds e w u l r =
          let here : level_of st s ≡ k = omega (arith, leads_level M (suc n) (level_of st) K.frames s ds w) in
          let new : listed c.done s ≡ false =
          test (listed c.done s) (λ a. absurd (omega (arith, (c.ahead s a).ahead ds w))) (λ a. a) in
          record {
            distinct = (test (listed l s) (λ a. absurd (omega (arith, r.higher s a new))) (λ a. a), r.distinct);
            doomed = λ t a. test (eqb t s)
                (λ q. rw (eqb-true t s q) (led s ds w (omega arith)))
                (λ q. r.doomed t (sym (listed_other l s t (eqb-false t s q)) ∙ a));
            higher = λ t a f. test (eqb t s)
                (λ q. rw (eqb-true t s q) (omega arith))
                (λ q. omega (arith, r.higher t (sym (listed_other l s t (eqb-false t s q)) ∙ a) f));
          }

      counted : (k s : ℕ) (ds : List ℕ) → n ≡ k + length ds → Leads M s ds → Under M (level_of st) k (s ∷ ds) → Counted k (s ∷ (ds ++ c.done))
      counted k s [] e w u = counted_more k s [] e w u.0 c.done (counted_done (suc k))
      counted k s (d ∷ ds) e w u =
          counted_more k s (d ∷ ds) e w u.0 (d ∷ (ds ++ c.done)) (counted (suc k) d ds (omega arith) w.2 u.1)

      duties_few : (k s : ℕ) (ds : List ℕ) → Duty M (suc n) st k s ds → suc (length ds) + length c.done ≤ m
      duties_few k s ds w =
          let r = counted k s ds (omega (arith, w.count)) w.leads w.under in
          omega (arith, length-append ds c.done, number_listed m D (s ∷ (ds ++ c.done)) r.distinct r.doomed)

      -- ---- the questions of steps 2 and 3
      opened_few : 1 ≤ m → duties + length c.done ≤ m → suc q ≤ 2 + 3 * up_to m
      opened_few h b =
          let f : suc c.before ≤ m = before_few h in
          let l : suc n ≤ m = omega (arith, c.fewer) in
          let z : suc n + (m - suc n) ≡ m = omega arith in
          rw z at (opened_sum n (m - suc n) c.before (total st) (length c.done) duties q (omega arith) (omega arith) c.low c.few)

      pub look_few : 1 ≤ m → duties ≡ 0 → suc q ≤ 2 + 3 * up_to m
      look_few h e = opened_few h (omega (arith, done_few n st duties q K.tidy c, stored_few (suc n) st K.tidy c.sown))

      pub settle_few : (k s : ℕ) (ds : List ℕ) → Duty M (suc n) st k s ds → duties ≡ suc (length ds) → suc q ≤ 2 + 3 * up_to m
      settle_few k s ds w e =
          let b : suc (length ds) + length c.done ≤ m = duties_few k s ds w in
          opened_few (omega arith) (omega arith)

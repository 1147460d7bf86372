-- Steps 4 and 5 keep the account of ExactAccount. A test that finds a state at level 1 shows that one is missing, which steps to what was tested; a
-- test that finds none raises the tested state, and the sum of the levels pays for it. A round that finds no gap leaves a state at level 1, which
-- was tested, so it ends with one that is missing. Assumes nothing.
use Prim.Native.Nat.{ℕ, suc, ◌+◌, ◌*◌, max, ◌≤◌, ◌<◌}
use mathlib.Core.Bool.{true}
use mathlib.Core.List.{List, [], ◌∷◌}
use mathlib.Core.Path.{◌≡◌, sym, ap, ◌∙◌}
use native.Mathlib.Omega.{arith}
use borrow.Author.Tests.{eqb-true, eqb-false, eq-eqb, ne_eqb}
use lib.Dec.{eqb, leb}
use lib.ListN.{length}
use Rattle.ic3.specs.Answers.{Least}
use Rattle.base.proofs.Tests.{test, both}
use Rattle.ic3.specs.Model.{Model}
use Rattle.ic3.specs.Search.{Entry, level_of, put, states, R, raise, wanted, Move, Rounds, tested}
use Rattle.ic3.specs.Shape.{Tidy, Sits}
use Rattle.ic3.specs.Demands.{listed}
use Rattle.ic3.proofs.Store.{level_put, level_put_other, Stored, stored_put, put_old, total, put_total, listed_none, listed_other, states_listed, states_length, states_split, states_fall, above_put}
use Rattle.ic3.proofs.Frames.{inside_level}
use Rattle.ic3.proofs.Round.{Lands, tested_lands, empty_level, taken_length}
use Rattle.ic3.proofs.Sound.{Kept, level_low}
use Rattle.ic3.proofs.Cost.{Cheap}
use Rattle.ic3.proofs.ExactLayers.{Has, taken_has, total_taken}
use Rattle.ic3.proofs.ExactAccount.{Sown, sown_later, Missing, missing_still, lacks, Testing, C}

module _ (M : Model) (m : ℕ) where
  -- where an answer leads, the account holds; and with room for m states it does not lead to giving up
  abbrev pub Held : ℕ → ℕ → Move → Type 0
  Held = Cheap M m (C M)

  -- ---- a round
  module _ (room N : ℕ) (st : List Entry) (K : Kept M (suc N) st) (S : Stored (Sown M N) st) (once : 1 ≤ N) (q : ℕ) where
    abbrev w : Tidy st
    w = K.tidy

    -- from level i on; above level 1, a state that kept level 1 was tested
    pub round_exact : (i : ℕ) → 1 ≤ i → N ≤ max 1 (length st) → ((s : ℕ) → level_of st s ≡ 1 → 2 ≤ i → Missing M N st)
        → (1 ≤ length st → (l : ℕ) → i ≤ l → l ≤ N → Has st l)
        → q + length (states (leb i) st) + N * N ≤ 2 + 2 * N + total st + 2 * (N * length st) → Lands (Held room q) (suc N) st i
    round_exact i o h t u b =
        record {
          next_level = λ j s todo a l e g.
              record {
                sown = S;
                once = once;
                enough = h;
                failed = λ d f n. test (eqb i 1)
                    (λ x. absurd (test (eqb j 1)
                    (λ y. n (eqb-true j 1 y) (here j s todo g (eqb-true j 1 y) d f))
                    (λ y. let z : i ≡ 1 = eqb-true i 1 x in
                    empty_level st w 1 (omega arith) (e 1 (omega arith) (omega (arith, eqb-false j 1 y))) d f)))
                    (λ x. t d f (omega (arith, eqb-false i 1 x)));
                few = omega (arith, states_split j st, ap length g, states_fall i j a st);
                upper = λ k a' b'. u (omega (arith, ap length g, states_length (eqb j) st)) k (omega arith) b';
              };
          gap = λ j a l k g r. tt;
          again = λ e k.
              record {
                sown = sown_later M N st S;
                before = length st;
                fewer = omega (arith, taken_length st (suc N) k);
                grown = omega arith;
                done = [];
                distinct = tt;
                ahead = λ s n. listed_none s n;
                fresh = lacks (missing e k);
                few = omega arith;
                low = omega (arith, total_taken st w N (λ j a c. taken_has st w j a (k j a (omega arith))) (level_low M (suc N) st K));
                climbed = λ c. absurd (omega arith);
              };
        }
      where
        here : (j s : ℕ) (todo : List ℕ) → states (eqb j) st ≡ s ∷ todo → j ≡ 1 → (d : ℕ) → level_of st d ≡ 1 → listed (s ∷ todo) d ≡ true
        here j s todo g y d f =
            rw (← g) (states_listed (eqb j) (ne_eqb j 0 (omega arith)) st w d ∙ eq-eqb j (level_of st d) (y ∙ sym f))

        missing : ((k : ℕ) → i ≤ k → k < suc N → states (eqb k) st ≡ [])
            → ((k : ℕ) → 1 ≤ k → k < suc N → states (eqb k) st ≡ [] → ⊥) → Missing M N st
        missing e k =
            let c = taken_has st w 1 (omega arith) (k 1 (omega arith) (omega arith)) in
            test (eqb i 1)
            (λ x. let z : i ≡ 1 = eqb-true i 1 x in absurd (k 1 (omega arith) (omega arith) (e 1 (omega arith) (omega arith))))
            (λ x. t c.0 c.1 (omega (arith, eqb-false i 1 x)))

    pub tested_exact : (r : Rounds) (i : ℕ) (todo : List ℕ) → 1 ≤ i → i < suc N → Testing M N st i todo q → Held room q (tested r (suc N) st i todo)
    tested_exact r i todo o h p =
        tested_lands (Held room q) (suc N) st r i todo o h
        (record {
          same_level = λ s rest e g k.
              record {
                sown = S;
                once = once;
                enough = p.enough;
                failed = λ d f n. p.failed d f (λ x y. n x (k d (f ∙ sym x) y));
                few = omega (arith, p.few);
                upper = p.upper;
              };
          next_levels = λ k.
              round_exact (suc i) (omega arith) p.enough
              (λ s f l. p.failed s f (λ x y. listed_none s (k s (f ∙ sym x) y))) (λ c l a b. p.upper l a b) (omega (arith, p.few));
        })

  -- ---- one test
  module _ (N : ℕ) (st : List Entry) (i s : ℕ) (todo : List ℕ) (w : Sits (suc N) st i s) (q : ℕ) (p : Testing M N st i (s ∷ todo) q) where
    pub tested_sown : Sown M N s
    tested_sown = p.sown s (omega (arith, w.above, w.here))

    -- a state that keeps level 1 has one before it that is not stored
    keeps_one : (t : ℕ) → Least M.size (wanted M (suc N) st (raise i s todo)) t → i ≡ 1 → Missing M N st
    unfolding wanted
    keeps_one t a e =
        let S = tested_sown in
        let b : (R M (level_of st) i t ≡ true) × (M.step t s ≡ true) = both (R M (level_of st) i t) (M.step t s) a.fulfils in
        let f : R M (level_of st) 1 t ≡ true = rw e at b.0 in
        record {
          state = t;
          unstored = omega (arith, inside_level M (level_of st) 0 t f);
          onward = s ∷ S.doomed.onward;
          leads = (a.state, b.1, S.doomed.leads);
          short = omega (arith, S.short);
        }

    pub some_testing : (t : ℕ) → Least M.size (wanted M (suc N) st (raise i s todo)) t → Testing M N st i todo (suc q)
    some_testing t a =
        record {
          sown = p.sown;
          once = p.once;
          enough = p.enough;
          failed = λ d g n. test (eqb d s)
              (λ e. keeps_one t a (sym w.here ∙ ap (level_of st) (sym (eqb-true d s e)) ∙ g))
              (λ e. p.failed d g (λ x y. n x (sym (listed_other todo s d (eqb-false d s e)) ∙ y)));
          few = omega (arith, p.few);
          upper = p.upper;
        }

    pub none_testing : Testing M N (put st s (suc i)) i todo (suc q)
    none_testing =
        let l : length (put st s (suc i)) ≡ length st = put_old st s (suc i) (omega (arith, w.above, w.here)) in
        record {
          sown = stored_put {P = Sown M N} st s (suc i) tested_sown p.sown;
          once = p.once;
          enough = rw l p.enough;
          failed = λ d g n. test (eqb d s)
              (λ e. absurd (omega (arith, w.above, g, ap (level_of (put st s (suc i))) (eqb-true d s e), level_put st s (suc i))))
              (λ e. let x = p.failed d (sym (level_put_other st s (suc i) d (eqb-false d s e)) ∙ g)
              (λ x y. n x (sym (listed_other todo s d (eqb-false d s e)) ∙ y)) in
              missing_still M N st s (suc i) x (λ y. omega (arith, w.above, w.here, x.unstored, ap (level_of st) y)));
          few = rw l (omega (arith, p.few, put_total st s (suc i), w.here, above_put st s i w.above w.here));
          upper = λ k a b. let x = p.upper k a b in
              (x.0, level_put_other st s (suc i) x.0 (λ e. omega (arith, w.here, x.1, ap (level_of st) e)) ∙ x.1);
        }

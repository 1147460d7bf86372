-- Each answer keeps the account of ExactAccount. A duty that is opened costs a question, and one that is settled raises its state by one level and
-- was not settled before at this N. Where step 2 finds nothing, what was missing has been stored. Steps 4 and 5 are in ExactRound. Assumes
-- nothing.
use Prim.Native.Nat.{ℕ, zero, suc, ◌+◌, ◌≤◌, ◌<◌}
use mathlib.Core.Bool.{true, false}
use mathlib.Core.List.{List, [], ◌∷◌}
use mathlib.Core.Option.{Option, none, some}
use mathlib.Core.Path.{◌≡◌, refl, sym, ap, ◌∙◌}
use native.Mathlib.Omega.{arith}
use borrow.Author.Tests.{eqb-true, eqb-false}
use lib.Dec.{eqb}
use lib.ListN.{length}
use Rattle.ic3.specs.Answers.{Answers}
use Rattle.base.proofs.Tests.{test, clash}
use Rattle.ic3.specs.Model.{Model}
use Rattle.ic3.specs.Search.{Entry, level_of, put, Phase, look, settle, raise, wanted, go, judge, Rounds, round, settled, found, deeper, kept, react}
use Rattle.ic3.specs.Demands.{listed, Doomed, Number}
use Rattle.ic3.specs.Exact.{up_to}
use Rattle.ic3.proofs.Store.{put_more, put_old, level_put, level_put_other, put_tidy, stored_put, put_new, total, put_total, listed_none, listed_head, listed_tail, listed_other, states_all}
use Rattle.ic3.proofs.Frames.{leads_level}
use Rattle.ic3.proofs.Round.{round_lands, kept_lands}
use Rattle.ic3.proofs.Sound.{Kept, Duty, Stands, grown, raised_kept, duty_doomed}
use Rattle.ic3.proofs.ExactSums.{round_sum}
use Rattle.ic3.proofs.ExactAccount.{Sown, Done, missing_still, Fresh, first, grew, lacks, SettledAt, Opened, C}
use Rattle.ic3.proofs.ExactCounts.{stored_few, done_few}
use Rattle.ic3.proofs.ExactRound.{Held, round_exact, tested_exact, some_testing, none_testing}

module _ (M : Model) (m : ℕ) (D : Number (Doomed M) m) where
  one_duty_more : (n : ℕ) (st : List Entry) (duties q : ℕ) → Opened M n st duties q → Opened M n st (suc duties) (suc q)
  one_duty_more n st duties q c =
      record {
        sown = c.sown;
        before = c.before;
        fewer = c.fewer;
        grown = c.grown;
        done = c.done;
        distinct = c.distinct;
        ahead = c.ahead;
        fresh = c.fresh;
        few = omega (arith, c.few);
        low = c.low;
        climbed = λ h l a b. c.climbed h l a (omega arith);
      }

  found_exact : (room N : ℕ) (st : List Entry) (s q : ℕ) → C M N st look q → Held M m room (suc q) (found N st s)
  unfolding found
  found_exact room zero st s q c = λ r. tt
  found_exact room (suc n) st s q c = one_duty_more n st 0 q c

  deeper_exact : (room N : ℕ) (st : List Entry) (k s : ℕ) (ds : List ℕ) (t q : ℕ) → C M N st (settle k s ds) q
      → Held M m room (suc q) (deeper N st k s ds t)
  unfolding deeper
  deeper_exact room N st zero s ds t q c = λ r. tt
  deeper_exact room zero st (suc k) s ds t q c = c
  deeper_exact room (suc n) st (suc k) s ds t q c = one_duty_more n st (suc (length ds)) q c

  module _ (n : ℕ) (st : List Entry) (K : Kept M (suc n) st) (k s : ℕ) (ds : List ℕ) (w : Duty M (suc n) st k s ds) where
    -- the state of a duty sits exactly one level below it
    duty_level : level_of st s ≡ k
    duty_level =
        omega (arith, leads_level M (suc n) (level_of st) K.frames s ds w.leads, w.count, w.under.0)

    duty_sown : Sown M (suc n) s
    duty_sown = record { doomed = duty_doomed M (suc n) st K k s ds w; short = omega (arith, w.count) }

    module _ (q : ℕ) (c : Opened M n st (suc (length ds)) q) where
      -- and was not settled before at this N
      duty_new : listed c.done s ≡ false
      duty_new =
          test (listed c.done s)
          (λ e. absurd (omega (arith, (c.ahead s e).ahead ds w.leads, w.count, duty_level)))
          (λ e. e)

      duty_fresh : Fresh M n c.before st → Fresh M n c.before (put st s (suc k))
      duty_fresh (first a b) = first a b
      duty_fresh (grew a) = grew (omega (arith, put_more st s (suc k) K.tidy))
      duty_fresh (lacks x) =
          test (eqb x.state s)
          (λ e. grew (omega (
            arith,
            c.grown,
            put_new st s (suc k) K.tidy (ap (level_of st) (sym (eqb-true x.state s e)) ∙ x.unstored),
          )))
          (λ e. lacks (missing_still M n st s (suc k) x (eqb-false x.state s e)))

      duty_done : (d : ℕ) → listed (s ∷ c.done) d ≡ true → Done M (suc n) (put st s (suc k)) d
      duty_done d a =
          test (eqb d s)
          (λ e. rw (eqb-true d s e) (record {
            stored = rw (level_put st s (suc k)) (omega arith);
            ahead = λ xs v.
                rw (level_put st s (suc k)) (omega (arith, leads_level M (suc n) (level_of st) K.frames s xs v, duty_level));
          }))
          (λ e. let p : Done M (suc n) st d = c.ahead d (sym (listed_other c.done s d (eqb-false d s e)) ∙ a) in
          let o : level_of (put st s (suc k)) d ≡ level_of st d = level_put_other st s (suc k) d (eqb-false d s e) in
          record { stored = omega (arith, p.stored); ahead = λ xs v. omega (arith, p.ahead xs v) })

      -- a further state is stored at level 1 only, below open duties for all levels above
      duty_climbed : c.before < length (put st s (suc k)) → (l : ℕ) → 1 ≤ l → l + length ds ≤ suc n
          → SettledAt M (put st s (suc k)) (s ∷ c.done) l
      duty_climbed h l a b =
          test (eqb l (suc k))
          (λ e. record {
            state = s;
            here = level_put st s (suc k) ∙ sym (eqb-true l (suc k) e);
            settled = listed_head c.done s;
          })
          (λ e. let x = c.climbed (omega (arith, put_old st s (suc k) (omega (arith, duty_level, w.count, eqb-false l (suc k) e)))) l a
          (omega (arith, w.count, eqb-false l (suc k) e)) in
          record {
            state = x.state;
            here = level_put_other st s (suc k) x.state (λ z. clash x.settled (rw z duty_new)) ∙ x.here;
            settled = listed_tail c.done s x.state x.settled;
          })

      duty_opened : Opened M n (put st s (suc k)) (length ds) (suc q)
      duty_opened =
          record {
            sown = stored_put {P = Sown M (suc n)} st s (suc k) duty_sown c.sown;
            before = c.before;
            fewer = c.fewer;
            grown = omega (arith, c.grown, put_more st s (suc k) K.tidy);
            done = s ∷ c.done;
            distinct = (duty_new, c.distinct);
            ahead = duty_done;
            fresh = duty_fresh c.fresh;
            few = omega (arith, c.few, put_total st s (suc k), duty_level);
            low = omega (arith, c.low, put_total st s (suc k), duty_level);
            climbed = duty_climbed;
          }

      kept_exact : (room : ℕ) → Held M m room (suc q) (kept room (suc n) (put st s (suc k)) k ds)
      unfolding settled
      kept_exact room =
          kept_lands (Held M m room (suc q)) room (suc n) (put st s (suc k)) k ds
          (λ h. rest ds duty_opened)
          (λ h r. omega (
            arith,
            stored_few M m D (suc n) (put st s (suc k)) (put_tidy st s (suc k) (omega arith) K.tidy) duty_opened.sown,
          ))
        where
          rest : (xs : List ℕ) → Opened M n (put st s (suc k)) (length xs) (suc q)
              → Held M m room (suc q) (go (settled (suc n) (put st s (suc k)) k xs))
          rest [] p = p
          rest (x ∷ xs) p = p

  -- step 2 finds nothing with N = n + 1, and in the first round something is stored: a further state has been
  stored_more : (n : ℕ) (st : List Entry) (q : ℕ) → Kept M (suc (suc n)) st → (c : Opened M n st 0 q) → 1 ≤ n + length st → suc c.before ≤ length st
  stored_more n st q K c h = pick c.fresh
    where
      pick : Fresh M n c.before st → suc c.before ≤ length st
      pick (first a b) = omega arith
      pick (grew a) = a
      pick (lacks x) =
          absurd (omega (
            arith,
            leads_level M (suc (suc n)) (level_of st) K.frames x.state x.onward x.leads,
            x.short,
            x.unstored,
          ))

  none_exact : (r : Rounds) (room n : ℕ) (st : List Entry) (q : ℕ) → Kept M (suc (suc n)) st → Opened M n st 0 q
      → Held M m room (suc q) (round r (suc (suc n)) (suc n) 1 st)
  none_exact r room n st q K c =
      round_lands (Held M m room (suc q)) (suc (suc n)) st r (suc n) 1 (omega arith) (omega arith)
      (round_exact M m room (suc n) st K c.sown (omega arith) (suc q) 1 (omega arith)
      (test (eqb n 0)
      (λ j. omega (arith, eqb-true n 0 j))
      (λ j. omega (arith, c.fewer, stored_more n st q K c (omega (arith, eqb-false n 0 j)))))
      (λ s f l. absurd (omega arith))
      (λ h l a b. let x = c.climbed (stored_more n st q K c (omega arith)) l a (omega arith) in (x.state, x.here))
      (omega (
        arith,
        states_all st K.tidy,
        round_sum n c.before (length st) (total st) (length c.done) q (λ h. stored_more n st q K c (omega arith)) (done_few M m D n st 0 q K.tidy c) c.few,
      )))

  -- step 1 found nothing
  begun : (r : Rounds) (room : ℕ) → Held M m room 2 (round r 1 0 1 [])
  unfolding round judge level_of total up_to
  begun r room =
      record {
        sown = λ s h. absurd (omega arith);
        before = 0;
        fewer = omega arith;
        grown = omega arith;
        done = [];
        distinct = tt;
        ahead = λ s n. listed_none s n;
        fresh = first refl refl;
        few = omega arith;
        low = omega arith;
        climbed = λ h. absurd (omega arith);
      }

  pub react_exact : (r : Rounds) (room N : ℕ) (st : List Entry) (ph : Phase) (o : Option ℕ) (q : ℕ) → Kept M N st → Stands M N st ph
      → Answers M.size (wanted M N st ph) o → C M N st ph q → Held M m room (suc q) (react r room N st ph o)
  unfolding react wanted
  react_exact r room N st look (some s) q K w a c = found_exact room N st s q c
  react_exact r room zero st look none q K w a c = rw (c.0, c.1) (begun r room)
  react_exact r room (suc n) st look none q K w a c = none_exact r room n st q (grown M (suc n) st K a) c
  react_exact r room N st (settle k s ds) (some t) q K w a c = deeper_exact room N st k s ds t q c
  react_exact r room zero st (settle k s ds) none q K w a c = absurd c
  react_exact r room (suc n) st (settle k s ds) none q K w a c = kept_exact n st K k s ds w q c room
  react_exact r room zero st (raise i s todo) (some t) q K w a c = absurd c
  react_exact r room (suc N) st (raise i s todo) (some t) q K w a c =
      tested_exact M m room N st K c.sown c.once (suc q) r i todo w.above w.below (some_testing M m N st i s todo w q c t a)
  react_exact r room zero st (raise i s todo) none q K w a c = absurd c
  react_exact r room (suc N) st (raise i s todo) none q K w a c =
      let p = none_testing M m N st i s todo w q c in
      tested_exact M m room N (put st s (suc i)) (raised_kept M (suc N) st K i s w a) p.sown c.once (suc q) r i todo
      w.above w.below p

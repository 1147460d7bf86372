-- The heart of demand 2, over a function f that gives each state its level: no store, no list, no search. A state lies in R(i) for i above 0
-- if its level is below i. What holds at every question is that levels rise by at most one along a step, that start states and what they step
-- to have level 0, and that a bad state has a level of at least N - 1. So a state reached in k + 1 steps has a level of at most k, no bad state
-- is reached in fewer than N steps, and where no state sits at a level below N, the states above it are right evidence. Three moves are made:
-- none yet, N grows, and a set of states is raised; a single state is such a set. Assumes nothing.
use Prim.Native.Nat.{ℕ, zero, suc, ◌+◌, ◌-◌, max, ◌≤◌, ◌<◌}
use mathlib.Core.Bool.{Bool, true, false}
use mathlib.Core.List.{List, [], ◌∷◌}
use mathlib.Core.Path.{◌≡◌, refl, ◌∙◌}
use native.Mathlib.Omega.{arith}
use borrow.Author.Tests.{leb-false, ltb-true, ltb-false, eqb-true, eqb-false, lt-ltb, le-leb, lt-leb}
use lib.Dec.{eqb, leb}
use lib.ListN.{length}
use Rattle.base.proofs.Tests.{test, clash}
use Rattle.ic3.specs.Model.{Model}
use Rattle.ic3.specs.Search.{R}
use Rattle.ic3.specs.Demands.{Reach, starts, steps, Leads, IsPath, Excludes}

module _ (M : Model) where
  pub record Frames (N : ℕ) (f : ℕ → ℕ) : Type 0 where
    pub low : (s : ℕ) → s < M.size → f s ≤ N
    pub zeroed : (s : ℕ) → s < M.size → M.start s ≡ true → f s ≡ 0
    pub first : (s t : ℕ) → s < M.size → t < M.size → M.start s ≡ true → M.step s t ≡ true → f t ≡ 0
    pub up : (s t : ℕ) → s < M.size → t < M.size → M.step s t ≡ true → f t ≤ suc (f s)
    pub barred : (s : ℕ) → s < M.size → M.bad s ≡ true → N ≤ suc (f s)
    pub bad_start : (s : ℕ) → s < M.size → M.bad s ≡ true → 1 ≤ N → M.start s ≡ false

  reach_state : {k s : ℕ} → Reach M k s → s < M.size
  reach_state (starts h e) = h
  reach_state (steps r h e) = h

  pub leads_state : (s : ℕ) (xs : List ℕ) → Leads M s xs → s < M.size
  leads_state s [] w = w.0
  leads_state s (x ∷ xs) w = w.0

  -- a bad state that is reached in k steps
  pub record Hit (k : ℕ) : Type 0 where
    pub state : ℕ
    pub reach : Reach M k state
    pub bad : M.bad state ≡ true

  -- a way to a bad state, from a reached one
  leads_hit : (n : ℕ) {k s : ℕ} (xs : List ℕ) → n ≡ k + length xs → Reach M k s → Leads M s xs → Hit n
  leads_hit n {k} {s} [] e r w = let q : k ≡ n = omega arith in record { state = s; reach = rw q at r; bad = w.1 }
  leads_hit n (t ∷ xs) e r w = leads_hit n xs (omega arith) (steps r (leads_state t xs w.2) w.1) w.2

  -- a path of k + 1 states hits a bad state in k steps
  pub path_hit : (p : List ℕ) → IsPath M p → (k : ℕ) × (length p ≡ suc k) × Hit k
  path_hit [] w = absurd w
  path_hit (s ∷ xs) w =
      (length xs, refl, leads_hit (length xs) xs (omega arith) (starts (leads_state s xs w.1) w.0) w.1)

  -- ---- R(i), by the levels
  pub inside_level : (f : ℕ → ℕ) (i s : ℕ) → R M f (suc i) s ≡ true → f s ≤ i
  unfolding R
  inside_level f i s e = omega (arith, ltb-true (f s) (suc i) e)

  pub level_inside : (f : ℕ → ℕ) (i s : ℕ) → f s ≤ i → R M f (suc i) s ≡ true
  unfolding R
  level_inside f i s h = lt-ltb (f s) (suc i) (omega arith)

  outside_level : (f : ℕ → ℕ) (i s : ℕ) → R M f i s ≡ false → i ≤ f s
  unfolding R
  outside_level f zero s e = omega arith
  outside_level f (suc i) s e = ltb-false (f s) (suc i) e

  -- ---- the three moves, and what frames give

  -- before the first question
  pub frames_none : Frames 0 (λ s. 0)
  frames_none =
      record {
        low = λ s b. omega arith;
        zeroed = λ s b e. refl;
        first = λ s t b d e g. refl;
        up = λ s t b d e. omega arith;
        barred = λ s b e. omega arith;
        bad_start = λ s b e h. absurd (omega arith);
      }

  module _ (N : ℕ) (f : ℕ → ℕ) (F : Frames N f) where
    start_inside : (k s : ℕ) → s < M.size → M.start s ≡ true → R M f k s ≡ true
    unfolding R
    start_inside zero s b e = e
    start_inside (suc k) s b e = level_inside f k s (omega (arith, F.zeroed s b e))

    -- a state reached in k + 1 steps has a level of at most k
    pub reach_level : {k s : ℕ} → Reach M k s → f s ≤ k - 1
    reach_level (starts {s = s} h e) = omega (arith, F.zeroed s h e)
    reach_level (steps {t = t} (starts {s = s} h e) h₁ e₁) = omega (arith, F.first s t h h₁ e e₁)
    reach_level (steps {t = t} (steps {k = k} {t = s} r h e) h₁ e₁) =
        omega (arith, F.up s t h h₁ e₁, reach_level (steps r h e))

    -- no bad state is reached in fewer than N steps
    pub hit_late : {k : ℕ} → Hit k → N ≤ k
    hit_late h = late h.reach h.bad
      where
        late : {k s : ℕ} → Reach M k s → M.bad s ≡ true → N ≤ k
        late (starts {s = s} h e) b =
            test (eqb N 0)
            (λ q. omega (arith, eqb-true N 0 q))
            (λ q. clash e (F.bad_start s h b (omega (arith, eqb-false N 0 q))))
        late (steps {t = t} r h e) b = omega (arith, reach_level (steps r h e), F.barred t h b)

    -- what leads to a bad state in fewer than N steps is no start state
    pub leads_no_start : (s : ℕ) (xs : List ℕ) → Leads M s xs → length xs < N → M.start s ≡ false
    leads_no_start s xs w h =
        test (M.start s)
        (λ q. absurd (omega (arith, hit_late (leads_hit (length xs) xs (omega arith) (starts (leads_state s xs w) q) w))))
        (λ q. q)

    -- what leads to a bad state in few steps has a high level
    pub leads_level : (s : ℕ) (xs : List ℕ) → Leads M s xs → N ≤ suc (f s + length xs)
    leads_level s [] w = omega (arith, F.barred s w.0 w.1)
    leads_level s (t ∷ xs) w =
        omega (arith, leads_level t xs w.2, F.up s t w.0 (leads_state t xs w.2) w.1)

    -- R(N) has no bad state: N grows
    pub frames_grown : ((s : ℕ) → s < M.size → M.bad s ≡ true → R M f N s ≡ false) → Frames (suc N) f
    frames_grown free =
        record {
          low = λ s b. omega (arith, F.low s b);
          zeroed = F.zeroed;
          first = F.first;
          up = F.up;
          barred = λ s b e. omega (arith, outside_level f N s (free s b e));
          bad_start = λ s b e h. test (M.start s) (λ q. clash (start_inside N s b q) (free s b e)) (λ q. q);
        }

    -- The states of the set E get level k + 1, and g gives the new levels: E has no start state, and no state of R(k) outside E steps into E.
    pub frames_raised : (E : ℕ → Bool) (k : ℕ) (g : ℕ → ℕ) → suc k ≤ N
        → ((s : ℕ) → s < M.size → M.start s ≡ true → E s ≡ false)
        → ((s t : ℕ) → s < M.size → t < M.size → E s ≡ false → M.step s t ≡ true → E t ≡ true → R M f k s ≡ false)
        → ((s : ℕ) → s < M.size → E s ≡ true → g s ≡ max (f s) (suc k))
        → ((s : ℕ) → s < M.size → E s ≡ false → g s ≡ f s)
        → Frames N g
    frames_raised E k g h none closed y n =
        record {
          low = λ s b.
              test (E s) (λ e. omega (arith, y s b e, F.low s b)) (λ e. omega (arith, n s b e, F.low s b));
          zeroed = λ s b e. n s b (none s b e) ∙ F.zeroed s b e;
          first = λ s t b d e q.
              test (E t)
              (λ j. clash (start_inside k s b e) (closed s t b d (none s b e) q j))
              (λ j. n t d j ∙ F.first s t b d e q);
          up = λ s t b d q.
              test (E t)
              (λ j. test (E s)
              (λ e. omega (arith, y t d j, y s b e, F.up s t b d q))
              (λ e. omega (arith, y t d j, n s b e, F.up s t b d q, outside_level f k s (closed s t b d e q j))))
              (λ j. omega (arith, n t d j, grows s b, F.up s t b d q));
          barred = λ s b e. omega (arith, grows s b, F.barred s b e);
          bad_start = F.bad_start;
        }
      where
        grows : (s : ℕ) → s < M.size → f s ≤ g s
        grows s b = test (E s) (λ e. omega (arith, y s b e)) (λ e. omega (arith, n s b e))

    -- no state has level i exactly: those above are right evidence
    pub gap_excludes : (i : ℕ) (out : ℕ → Bool) → 1 ≤ i → i < N → ((s : ℕ) → s < M.size → f s ≡ i → ⊥)
        → ((s : ℕ) → out s ≡ leb i (f s)) → Excludes M out
    gap_excludes i out h l gap is =
        record {
          no_start = λ s b e. is s ∙ lt-leb i (f s) (omega (arith, F.zeroed s b e));
          all_bad = λ s b e. is s ∙ le-leb i (f s) (omega (arith, F.barred s b e));
          closed = λ s t b d e q. is t ∙ lt-leb i (f t) (below s t b d e q);
        }
      where
        below : (s t : ℕ) → s < M.size → t < M.size → out s ≡ false → M.step s t ≡ true → f t < i
        below s t b d e q =
            test (eqb (f t) i)
            (λ j. absurd (gap t d (eqb-true (f t) i j)))
            (λ j. omega (arith, F.up s t b d q, leb-false i (f s) (rw (is s) at e), eqb-false (f t) i j))

  -- right evidence excludes no reachable state
  excluded_unreached : (out : ℕ → Bool) → Excludes M out → {k s : ℕ} → Reach M k s → out s ≡ false
  excluded_unreached out X (starts {s = s} h e) = X.no_start s h e
  excluded_unreached out X (steps {s = s} {t = t} r h e) =
      X.closed s t (reach_state r) h (excluded_unreached out X r) e

  -- right evidence: no reachable state is bad
  pub excludes_never : (out : ℕ → Bool) → Excludes M out → (k s : ℕ) → Reach M k s → M.bad s ≡ false
  excludes_never out X k s r =
      test (M.bad s) (λ e. clash (X.all_bad s (reach_state r) e) (excluded_unreached out X r)) (λ e. e)

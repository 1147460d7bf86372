-- Demand 2. At each question the store is tidy, its levels are frames (Frames), and where a duty is being settled, its state leads to a bad
-- one through the states of the open duties above it, each of which sits below its level. Each answer keeps that, or ends the search with
-- evidence that is right: a gap in the levels, or a start state in front of the open duties. Assumes nothing.
use Prim.Native.Nat.{ℕ, zero, suc, ◌-◌, ◌≤◌, ◌<◌}
use mathlib.Core.Bool.{false, ◌&&◌}
use mathlib.Core.List.{List, [], ◌∷◌}
use mathlib.Core.Option.{Option, none, some}
use mathlib.Core.Path.{◌≡◌, sym, ◌∙◌}
use native.Mathlib.Omega.{arith}
use borrow.Author.Tests.{leb-true, leb-false, lt-leb, eqb-true, eqb-false}
use lib.Dec.{eqb, leb}
use Rattle.ic3.specs.Theorems.{Demand2}
use Rattle.ic3.specs.Answers.{Least, Answers}
use Rattle.base.proofs.Tests.{test, clash, both, first_false}
use Rattle.ic3.specs.Model.{Model, least}
use Rattle.ic3.specs.Search.{Entry, level_of, put, states, R, Phase, look, settle, raise, Config, at, wanted, spent, Verdict, gave_up, Move, go, stop, Rounds, settled, tested, found, deeper, react, next, Ending, begun, searched}
use Rattle.ic3.specs.Shape.{Tidy, Sits, Placed}
use Rattle.ic3.specs.Demands.{Leads, listed, Safe, HasStart, NoStart, Doomed}
use Rattle.ic3.proofs.Least.{least_answers}
use Rattle.ic3.proofs.Store.{level_put, level_put_other, put_tidy, Stored, stored_put, states_listed}
use Rattle.ic3.proofs.Frames.{Frames, leads_state, path_hit, inside_level, frames_none, hit_late, leads_no_start, frames_grown, frames_raised, gap_excludes, excludes_never}
use Rattle.ic3.proofs.Round.{Lands, round_lands, tested_lands, kept_lands, empty_level, level_head}
use Rattle.ic3.proofs.From.{Turned, searched_keeps}

module _ (M : Model) where
  -- what the store keeps
  pub record Kept (N : ℕ) (st : List Entry) : Type 0 where
    pub tidy : Tidy st
    pub states : Stored (λ s. s < M.size) st
    pub frames : Frames M N (level_of st)

  -- the states of duties for levels k + 1, k + 2 and so on sit below these
  abbrev pub Under : (ℕ → ℕ) → ℕ → List ℕ → Type 0
  Under f k [] = Unit {0}
  Under f k (d ∷ ds) = (f d ≤ k) × Under f (suc k) ds

  -- the duty (s, k + 1) is being settled, below the open duties ds
  pub record Duty (N : ℕ) (st : List Entry) (k s : ℕ) (ds : List ℕ) : Type 0 where
    pub count : Placed N st (settle k s ds)
    pub leads : Leads M s ds
    pub under : Under (level_of st) k (s ∷ ds)

  abbrev pub Stands : ℕ → List Entry → Phase → Type 0
  Stands N st look = Unit {0}
  Stands N st (settle k s ds) = Duty N st k s ds
  Stands N st (raise i s todo) = Sits N st i s

  -- what every configuration of a search from the beginning keeps of this model, and what its ending is; that it has the shape is Shape
  abbrev pub Fine : Move → Type 0
  Fine (go c) = Kept c.N c.store × Stands c.N c.store c.phase
  Fine (stop v) = Demand2 M v

  module _ (N : ℕ) (st : List Entry) (K : Kept N st) where
    -- every level is at most N
    pub level_low : (s : ℕ) → level_of st s ≤ N
    level_low s =
        test (leb 1 (level_of st s))
        (λ e. K.frames.low s (K.states s (leb-true 1 (level_of st s) e)))
        (λ e. omega (arith, leb-false 1 (level_of st s) e))

    -- R(N) has no bad state
    pub grown : ((s : ℕ) → s < M.size → (R M (level_of st) N s && M.bad s) ≡ false) → Kept (suc N) st
    grown free =
        record {
          tidy = K.tidy;
          states = K.states;
          frames = frames_grown M N (level_of st) K.frames
              (λ s b e. first_false (R M (level_of st) N s) (M.bad s) (free s b) e);
        }

    -- s, which is no start state, gets level k + 1, since no state of R(k) steps to it
    put_kept : (s k : ℕ) → suc k ≤ N → level_of st s ≤ suc k → s < M.size → M.start s ≡ false
        → ((t : ℕ) → t < M.size → (R M (level_of st) k t && M.step t s) ≡ false) → Kept N (put st s (suc k))
    put_kept s k h l b n free =
        record {
          tidy = put_tidy st s (suc k) (omega arith) K.tidy;
          states = stored_put {P = λ s. s < M.size} st s (suc k) b K.states;
          frames = frames_raised M N (level_of st) K.frames (λ t. eqb t s) k (level_of (put st s (suc k))) h
              (λ t b e. test (eqb t s) (λ q. clash (rw (eqb-true t s q) at e) n) (λ q. q))
              (λ x t b d o e q. first_false (R M (level_of st) k x) (M.step x s) (free x b) (rw (eqb-true t s q) at e))
              (λ t b q. rw (eqb-true t s q) (rw (level_put st s (suc k)) (omega arith)))
              (λ t b q. level_put_other st s (suc k) t (eqb-false t s q));
        }

    -- the state of a duty is doomed; that it is no start state need not be tested
    abbrev pub duty_doomed : (k s : ℕ) (ds : List ℕ) → Duty N st k s ds → Doomed M s
    duty_doomed k s ds w =
        record {
          no_start = leads_no_start M N (level_of st) K.frames s ds w.leads (omega (arith, w.count));
          onward = ds;
          leads = w.leads;
        }

    -- a duty whose state nothing of R(k) steps to
    blocked_kept : (k s : ℕ) (ds : List ℕ) → Duty N st k s ds
        → ((t : ℕ) → t < M.size → (R M (level_of st) k t && M.step t s) ≡ false) → Kept N (put st s (suc k))
    blocked_kept k s ds w free =
        put_kept s k (omega (arith, w.count)) (omega (arith, w.under.0)) (leads_state M s ds w.leads)
        (duty_doomed k s ds w).no_start free

    -- a stored state that nothing of R(i) steps to
    pub raised_kept : (i s : ℕ) → Sits N st i s
        → ((t : ℕ) → t < M.size → (R M (level_of st) i t && M.step t s) ≡ false) → Kept N (put st s (suc i))
    raised_kept i s w free =
        let b : s < M.size = K.states s (omega (arith, w.above, w.here)) in
        put_kept s i (omega (arith, w.below)) (omega (arith, w.here)) b
        (test (M.start s) (λ e. absurd (omega (arith, K.frames.zeroed s b e, w.above, w.here))) (λ e. e)) free

    gap_safe : (i : ℕ) → 1 ≤ i → i < N → states (eqb i) st ≡ [] → Safe M (states (leb i) st)
    gap_safe i h l q =
        let X = gap_excludes M N (level_of st) K.frames i (listed (states (leb i) st)) h l
        (λ s b e. empty_level st K.tidy i h q s e)
        (states_listed (leb i) (lt-leb i 0 h) st K.tidy) in
        record {
          states = λ s e.
              K.states s (omega (arith, leb-true i (level_of st s) (sym (states_listed (leb i) (lt-leb i 0 h) st K.tidy s) ∙ e)));
          excludes = X;
          never = excludes_never M (listed (states (leb i) st)) X;
        }

    round_fine : (i : ℕ) → 1 ≤ i → Lands Fine N st i
    round_fine i h =
        record {
          next_level = λ j s todo a b e q.
              (K, record { above = omega arith; below = b; here = level_head st K.tidy j (omega arith) s todo q });
          gap = λ j a b t q. gap_safe j a b q;
          again = λ e t. (K, tt);
        }

    tested_fine : (r : Rounds) (i : ℕ) (todo : List ℕ) → 1 ≤ i → i < N → Fine (tested r N st i todo)
    tested_fine r i todo h l =
        tested_lands Fine N st r i todo h l
        (record {
          same_level = λ s rest e g k. (K, record { above = h; below = l; here = e });
          next_levels = λ k. round_fine (suc i) (omega arith);
        })

  found_fine : (N : ℕ) (st : List Entry) → Kept N st → (s : ℕ) → Least M.size (wanted M N st look) s → Fine (found N st s)
  unfolding found R wanted
  found_fine zero st K s a =
      let e = both (M.start s) (M.bad s) a.fulfils in
      record { real = (e.0, (a.state, e.1)); shortest = λ q w. omega (arith, (path_hit M q w).1) }
  found_fine (suc k) st K s a =
      let e = both (R M (level_of st) (suc k) s) (M.bad s) a.fulfils in (
        K,
        record {
          count = omega arith;
          leads = (a.state, e.1);
          under = (inside_level M (level_of st) k s e.0, tt);
        },
      )

  deeper_fine : (N : ℕ) (st : List Entry) → Kept N st → (k s : ℕ) (ds : List ℕ) (t : ℕ) → Duty N st k s ds
      → Least M.size (wanted M N st (settle k s ds)) t → Fine (deeper N st k s ds t)
  unfolding deeper R wanted
  deeper_fine N st K zero s ds t w a =
      let e = both (M.start t) (M.step t s) a.fulfils in
      record {
        real = (e.0, (a.state, e.1, w.leads));
        shortest = λ q v. let h = path_hit M q v in omega (arith, w.count, h.1, hit_late M N (level_of st) K.frames h.2);
      }
  deeper_fine N st K (suc k) s ds t w a =
      let e = both (R M (level_of st) (suc k) t) (M.step t s) a.fulfils in (
        K,
        record {
          count = omega (arith, w.count);
          leads = (a.state, e.1, w.leads);
          under = (inside_level M (level_of st) k t e.0, w.under);
        },
      )

  -- the open duties stay below their levels when one below them gets its level
  under_put : (st : List Entry) (s k j : ℕ) (ds : List ℕ) → k ≤ j → Under (level_of st) j ds → Under (level_of (put st s k)) j ds
  under_put st s k j [] h w = tt
  under_put st s k j (d ∷ ds) h w = (
    test (eqb d s)
        (λ q. rw (eqb-true d s q) (rw (level_put st s k) h))
        (λ q. rw (level_put_other st s k d (eqb-false d s q)) w.0),
    under_put st s k (suc j) ds (omega arith) w.1,
  )

  settled_fine : (N : ℕ) (st : List Entry) (s k : ℕ) (ds : List ℕ) → Duty N st k s ds → Kept N (put st s (suc k))
      → Fine (go (settled N (put st s (suc k)) k ds))
  unfolding settled
  settled_fine N st s k [] w K = (K, tt)
  settled_fine N st s k (d ∷ ds) w K = (
    K,
    record {
      count = omega (arith, w.count);
      leads = w.leads.2;
      under = under_put st s (suc k) (suc k) (d ∷ ds) (omega arith) w.under.1;
    },
  )

  react_fine : (r : Rounds) (room N : ℕ) (st : List Entry) (ph : Phase) (o : Option ℕ) → Kept N st → Stands N st ph
      → Answers M.size (wanted M N st ph) o → Fine (react r room N st ph o)
  unfolding react wanted
  react_fine r room N st look (some s) K w a = found_fine N st K s a
  react_fine r room N st look none K w a =
      round_lands Fine (suc N) st r N 1 (omega arith) (omega arith) (round_fine (suc N) st (grown N st K a) 1 (omega arith))
  react_fine r room N st (settle k s ds) (some t) K w a = deeper_fine N st K k s ds t w a
  react_fine r room N st (settle k s ds) none K w a =
      kept_lands Fine room N (put st s (suc k)) k ds (λ h. settled_fine N st s k ds w (blocked_kept N st K k s ds w a)) (λ h. tt)
  react_fine r room N st (raise i s todo) (some t) K w a = tested_fine N st K r i todo w.above w.below
  react_fine r room N st (raise i s todo) none K w a =
      tested_fine N (put st s (suc i)) (raised_kept N st K i s w a) r i todo w.above w.below

  pub next_fine : (r : Rounds) (room : ℕ) (c : Config) → Fine (go c) → Fine (next r M room c)
  unfolding next
  next_fine r room c f =
      let p = wanted M c.N c.store c.phase in
      react_fine r room c.N c.store c.phase (least M.size p) f.0 f.1 (least_answers M.size p)

  pub opening_fine : Fine (go (at 0 [] look))
  unfolding level_of
  opening_fine = (record { tidy = tt; states = λ s h. absurd (omega arith); frames = frames_none M }, tt)

  -- What is kept on top of that: C of a configuration that q questions led to, and Q of an ending.
  module _ (r : Rounds) (room allowance : ℕ) (C : ℕ → List Entry → Phase → ℕ → Type 0) (Q : Verdict → ℕ → Type 0) where
    abbrev pub Then : ℕ → Move → Type 0
    Then q (go c) = C c.N c.store c.phase q
    Then q (stop v) = Q v q

    abbrev pub Ended : Ending → Type 0
    Ended e = Q e.verdict e.questions

    abbrev Both : Config → ℕ → Type 0
    Both c q = Fine (go c) × C c.N c.store c.phase q

    together : (q : ℕ) (m : Move) → Fine m → Then q m → Turned r M room allowance Both Q q m
    together q (go c) f t = (f, t)
    together q (stop v) f t = t

    pub search_keeps : ((N : ℕ) (st : List Entry) (ph : Phase) (o : Option ℕ) (q : ℕ) → Kept N st → Stands N st ph
        → Answers M.size (wanted M N st ph) o → C N st ph q → Then (suc q) (react r room N st ph o))
        → ((N : ℕ) (st : List Entry) (ph : Phase) → Kept N st → Stands N st ph → C N st ph allowance → Q (gave_up spent) allowance)
        → (allowance ≡ 0 → Ended (searched r M room 0)) → (1 ≤ allowance → NoStart M → Ended (begun r (allowance - 1) M room none))
        → (HasStart M → C 0 [] look 1) → Ended (searched r M room allowance)
    unfolding next
    search_keeps turn over forbidden nowhere begin =
        searched_keeps r M room allowance Both Q
        (λ c q p. let w = wanted M c.N c.store c.phase in
        together (suc q) (next r M room c) (next_fine r room c p.0)
        (turn c.N c.store c.phase (least M.size w) q p.0.0 p.0.1 (least_answers M.size w) p.1))
        (λ c p. over c.N c.store c.phase p.0.0 p.0.1 p.1)
        forbidden
        nowhere
        (λ h. (opening_fine, begin h))

  -- demand 2, for every room and allowance
  pub demand_2 : (r : Rounds) (room allowance : ℕ) → Demand2 M (searched r M room allowance).verdict
  unfolding begun searched
  demand_2 r room allowance =
      searched_keeps r M room allowance (λ c q. Fine (go c)) (λ v q. Demand2 M v)
      (λ c q f. turned (suc q) (next r M room c) (next_fine r room c f))
      (λ c f. tt)
      (λ e. tt)
      (λ l n. tt)
      (λ h. opening_fine)
    where
      turned : (q : ℕ) (m : Move) → Fine m → Turned r M room allowance (λ c q. Fine (go c)) (λ v q. Demand2 M v) q m
      turned q (go c) f = f
      turned q (stop v) f = f

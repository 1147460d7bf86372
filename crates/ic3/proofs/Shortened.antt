-- What shortened rounds change. At each question of step 4, all levels below the tested one are taken: each had a state left when the round went on past
-- it. So where a shortened round does not go on, it has come to the least empty level, and step 5 says safe with what is stored above. The full
-- search goes on, but what it raises sits above that level already, so the level stays the least empty one and what is stored above it stays the
-- same, until step 5 comes to it. Everywhere else the two moves are the same. Assumes nothing.
use Prim.Native.Nat.{ℕ, zero, suc, ◌+◌, ◌-◌, ◌≤◌, ◌<◌}
use mathlib.Core.List.{List, [], ◌∷◌}
use mathlib.Core.Option.{Option, none, some}
use mathlib.Core.Path.{◌≡◌, refl, sym, ap, ◌∙◌}
use native.Mathlib.Omega.{arith}
use borrow.Author.Tests.{ne_eqb, le-leb}
use lib.Dec.{eqb, leb}
use Rattle.base.proofs.Tests.{test}
use Rattle.ic3.specs.Theorems.{Answered}
use Rattle.ic3.specs.Model.{Model, least}
use Rattle.ic3.specs.Search.{Entry, level_of, put, states, Phase, look, settle, raise, Config, at, wanted, safe, Move, go, stop, judge, full, shortened, goes_on, round, tested, settled, found, deeper, react, next, Ending, search_from, begun, searched}
use Rattle.ic3.specs.Shape.{Placed, Shape, Shaped}
use Rattle.ic3.specs.Shortened.{Comes, here, onward, Tests, LastRound, Differ, nowhere, at_the_end, Agree}
use Rattle.ic3.proofs.Least.{order}
use Rattle.ic3.proofs.Store.{states_put}
use Rattle.ic3.proofs.Round.{Taken, taken_more, Lands, judge_lands, round_lands, tested_lands, kept_lands}
use Rattle.ic3.proofs.From.{Turned, from_keeps}
use Rattle.ic3.proofs.Shape.{next_keeps_shape, opening_shape}

-- a level below j and below N is the least that no stored state has, and the evidence is what is stored above it
record Gap (evidence : List ℕ) (N : ℕ) (st : List Entry) (j : ℕ) : Type 0 where
  level : ℕ
  above : 1 ≤ level
  lower : level < j
  below : level < N
  taken : Taken st level
  empty : states (eqb level) st ≡ []
  all : states (leb level) st ≡ evidence

-- the full search is in step 4 behind the gap, or has ended there
abbrev BehindAt : List ℕ → ℕ → List Entry → Phase → Type 0
BehindAt ev N st look = ⊥
BehindAt ev N st (settle k s ds) = ⊥
BehindAt ev N st (raise j s todo) = Gap ev N st j

abbrev Behind : List ℕ → ℕ → Move → Type 0
Behind ev N (go c) = (c.N ≡ N) × BehindAt ev N c.store c.phase
Behind ev N (stop v) = v ≡ safe ev

module _ {ev : List ℕ} {N : ℕ} {st : List Entry} where
  -- the gap is the only one of its kind
  the_gap : {j : ℕ} (g : Gap ev N st j) (k : ℕ) → 1 ≤ k → Taken st k → states (eqb k) st ≡ [] → safe (states (leb k) st) ≡ safe ev
  the_gap g k h t q =
      let e : k ≡ g.level = order k g.level (λ l. g.taken k h l q) (λ l. t g.level g.above l g.empty) in
      rw e (ap safe g.all)

  higher : (j k : ℕ) → j ≤ k → Gap ev N st j → Gap ev N st k
  higher j k h g =
      record {
        level = g.level;
        above = g.above;
        lower = omega (arith, g.lower);
        below = g.below;
        taken = g.taken;
        empty = g.empty;
        all = g.all;
      }

  behind_lands : (j : ℕ) → Gap ev N st j → Lands (Behind ev N) N st j
  behind_lands j g =
      record {
        next_level = λ k s todo a b e q. (refl, higher j k a g);
        gap = λ k a b t q. the_gap g k a t q;
        again = λ e t. absurd (t g.level g.above g.below g.empty);
      }

  behind_tested : (j : ℕ) (todo : List ℕ) → j < N → Gap ev N st j → Behind ev N (tested full N st j todo)
  behind_tested j todo h g =
      tested_lands (Behind ev N) N st full j todo (omega (arith, g.above, g.lower)) h
      (record {
        same_level = λ s rest e l k. (refl, g);
        next_levels = λ k. behind_lands (suc j) (higher j (suc j) (omega arith) g);
      })

-- what is raised from level i leaves the levels below as they are
lower_put : (st : List Entry) (i s : ℕ) → 1 ≤ i → level_of st s ≡ i → (l : ℕ) → l < i → states (eqb l) (put st s (suc i)) ≡ states (eqb l) st
lower_put st i s h e l b =
    states_put (eqb l) st s (suc i) (omega arith) (rw e (ne_eqb l i (omega arith) ∙ sym (ne_eqb l (suc i) (omega arith))))

-- so it leaves a gap below
behind_put : {ev : List ℕ} {N : ℕ} (st : List Entry) (j s : ℕ) → level_of st s ≡ j → Gap ev N st j → Gap ev N (put st s (suc j)) j
behind_put st j s e g =
    let h : 1 ≤ j = omega (arith, g.lower) in
    record {
      level = g.level;
      above = g.above;
      lower = g.lower;
      below = g.below;
      taken = λ l a b q. g.taken l a b (sym (lower_put st j s h e l (omega (arith, g.lower))) ∙ q);
      empty = lower_put st j s h e g.level g.lower ∙ g.empty;
      all = states_put (leb g.level) st s (suc j) (omega arith)
          (rw e (le-leb g.level j (omega (arith, g.lower)) ∙ sym (le-leb g.level (suc j) (omega (arith, g.lower))))) ∙ g.all;
    }

-- each answer keeps the full search behind the gap
react_behind : (ev : List ℕ) (room N : ℕ) (st : List Entry) (ph : Phase) (o : Option ℕ) → Placed N st ph → BehindAt ev N st ph
    → Behind ev N (react full room N st ph o)
unfolding react
react_behind ev room N st look o w g = absurd g
react_behind ev room N st (settle k s ds) o w g = absurd g
react_behind ev room N st (raise j s todo) (some t) w g = behind_tested j todo w.below g
react_behind ev room N st (raise j s todo) none w g = behind_tested j todo w.below (behind_put st j s w.here g)

module _ (M : Model) (room : ℕ) where
  next_behind : (ev : List ℕ) (N : ℕ) (c : Config) → Shape room c → Behind ev N (go c) → Behind ev N (next full M room c)
  unfolding next
  next_behind ev N c w b =
      rw b.0 (react_behind ev room N c.store c.phase (least M.size (wanted M N c.store c.phase)) (rw b.0 at w.placed) b.1)

  -- behind the gap is the last round
  behind_last : (ev : List ℕ) (c : Config) → Shape room c → BehindAt ev c.N c.store c.phase → LastRound M room ev c
  behind_last ev c w g =
      record {
        same_N = λ d m. (comes m).1.0;
        tests = λ d m. testing d.store d.phase (comes m).1.1;
        ends = λ d v m e. rw e at (next_behind ev c.N d (comes m).0 (comes m).1);
      }
    where
      comes : {d : Config} → Comes M room c d → Shape room d × Behind ev c.N (go d)
      comes here = (w, (refl, g))
      comes (onward {d} {e} m q) =
          let r = comes m in
          (rw q at (next_keeps_shape room full M d r.0), rw q at (next_behind ev c.N d r.0 r.1))

      testing : (st : List Entry) (ph : Phase) → BehindAt ev c.N st ph → Tests ph
      testing st look g = g
      testing st (settle k s ds) g = g
      testing st (raise j s todo) g = tt

-- ---- the two moves
-- at each question of step 4 the levels below are taken
abbrev pub Filled : List Entry → Phase → Type 0
Filled st look = Unit {0}
Filled st (settle k s ds) = Unit {0}
Filled st (raise i s todo) = Taken st i

abbrev pub Filling : Move → Type 0
Filling (go c) = Filled c.store c.phase
Filling (stop v) = Unit {0}

-- the moves of the full search and of the shortened one are the same, or the shortened one has ended and the full one is behind the gap
data Follows (whole short : Move) : Type 0 where
  same : whole ≡ short → Filling short → Follows whole short
  ahead : (ev : List ℕ) (N : ℕ) → short ≡ stop (safe ev) → Behind ev N whole → Follows whole short

module _ (N : ℕ) (st : List Entry) where
  -- level i is empty, and those below it are taken
  stops_ahead : (left i : ℕ) → left + suc i ≡ N → 1 ≤ i → Taken st i → states (eqb i) st ≡ [] → Follows (round full N left (suc i) st) (judge N (N - 1) 1 st)
  stops_ahead left i e h t q =
      let g : Gap (states (leb i) st) N st (suc i) =
      record { level = i; above = h; lower = omega arith; below = omega arith; taken = t; empty = q; all = refl } in
      ahead (states (leb i) st) N
      (judge_lands (λ m. m ≡ stop (safe (states (leb i) st))) N st
      (λ k a b u z. ap stop (the_gap g k a u z)) (λ u. absurd (u i h (omega arith) q)) (N - 1) 1 (omega arith) (omega arith)
      (λ k a b. absurd (omega arith)))
      (round_lands (Behind (states (leb i) st) N) N st full left (suc i) e (omega arith) (behind_lands (suc i) g))

  round_follows : (left i : ℕ) → left + i ≡ N → 1 ≤ i → Taken st i → Follows (round full N left i st) (round shortened N left i st)
  unfolding round goes_on
  round_follows zero i e h t =
      same refl (judge_lands Filling N st (λ j a b u q. tt) (λ u. tt) (N - 1) 1 (omega arith) (omega arith) (λ k a b. absurd (omega arith)))
  round_follows (suc left) i e h t = pick (states (eqb i) st) refl
    where
      pick : (l : List ℕ) → states (eqb i) st ≡ l → Follows (round full N (suc left) i st) (round shortened N (suc left) i st)
      pick [] q = rw (q, round) (stops_ahead left i (omega arith) h t q)
      pick (s ∷ todo) q = rw (q, round) (same refl t)

  tested_follows : (i : ℕ) (todo : List ℕ) → 1 ≤ i → i < N → Taken st i → Follows (tested full N st i todo) (tested shortened N st i todo)
  unfolding tested goes_on
  tested_follows i [] h l t = pick (states (eqb i) st) refl
    where
      pick : (x : List ℕ) → states (eqb i) st ≡ x → Follows (tested full N st i []) (tested shortened N st i [])
      pick [] q = rw (q, tested) (stops_ahead (N - suc i) i (omega arith) h t q)
      pick (s ∷ more) q = rw (q, tested) (round_follows (N - suc i) (suc i) (omega arith) (omega arith) (taken_more st i s more t q))
  tested_follows i (s ∷ todo) h l t =
      test (eqb (level_of st s) i) (λ q. rw (q, tested) (same refl t)) (λ q. rw (q, tested) (tested_follows i todo h l t))

react_follows : (room N : ℕ) (st : List Entry) (ph : Phase) (o : Option ℕ) → Placed N st ph → Filled st ph
    → Follows (react full room N st ph o) (react shortened room N st ph o)
unfolding react found deeper settled
react_follows room zero st look (some s) w t = same refl tt
react_follows room (suc k) st look (some s) w t = same refl tt
react_follows room N st look none w t = round_follows (suc N) st N 1 (omega arith) (omega arith) (λ l a b. absurd (omega arith))
react_follows room N st (settle zero s ds) (some u) w t = same refl tt
react_follows room N st (settle (suc k) s ds) (some u) w t = same refl tt
react_follows room N st (settle k s ds) none w t =
    same refl (kept_lands Filling room N (put st s (suc k)) k ds (λ h. rest ds) (λ h. tt))
  where
    rest : (xs : List ℕ) → Filling (go (settled N (put st s (suc k)) k xs))
    rest [] = tt
    rest (x ∷ xs) = tt
react_follows room N st (raise i s todo) (some u) w t = tested_follows N st i todo w.above w.below t
react_follows room N st (raise i s todo) none w t =
    tested_follows N (put st s (suc i)) i todo w.above w.below
    (λ l a b q. t l a b (sym (lower_put st i s w.above w.here l b) ∙ q))

pub react_fills : (room N : ℕ) (st : List Entry) (ph : Phase) (o : Option ℕ) → Placed N st ph → Filled st ph → Filling (react shortened room N st ph o)
react_fills room N st ph o w t = pick (react shortened room N st ph o) (react_follows room N st ph o w t)
  where
    pick : (short : Move) → Follows (react full room N st ph o) short → Filling short
    pick short (same e f) = f
    pick short (ahead ev N e b) = rw e tt

-- ---- the two searches
module _ (M : Model) (room : ℕ) where
  from_differ : (left : ℕ) (c : Config) (q : ℕ) → Comes M room (at 0 [] look) c → Shape room c → Filled c.store c.phase
      → Differ M room (left + q) (search_from full left M room c q) (search_from shortened left M room c q)
  unfolding search_from next
  from_differ zero c q k w f = nowhere refl
  from_differ (suc left) c q k w f =
      pick (next full M room c) (next shortened M room c) refl (next_keeps_shape room full M c w)
      (react_follows room c.N c.store c.phase (least M.size (wanted M c.N c.store c.phase)) w.placed f)
      (λ d z x g. from_differ left d (suc q) (onward k z) x g)
    where
      whole : Move → Ending
      whole m = elim m [ go d ↦ search_from full left M room d (suc q) | stop v ↦ record { verdict = v; questions = suc q } ]

      short : Move → Ending
      short m = elim m [ go d ↦ search_from shortened left M room d (suc q) | stop v ↦ record { verdict = v; questions = suc q } ]

      alike : (m : Move) → next full M room c ≡ m → Shaped room m → Filling m
          → ((d : Config) → next full M room c ≡ go d → Shape room d → Filled d.store d.phase
          → Differ M room (left + suc q) (search_from full left M room d (suc q)) (search_from shortened left M room d (suc q)))
          → Differ M room (suc left + q) (whole m) (short m)
      alike (go d) z x g rest = let n : suc left + q ≡ left + suc q = omega arith in rw n (rest d z x g)
      alike (stop v) z x g rest = nowhere refl

      before : (m : Move) (ev : List ℕ) (N : ℕ) → next full M room c ≡ m → Shaped room m → Behind ev N m → Differ M room (suc left + q) (whole m) (short (stop (safe ev)))
      before (go d) ev N z x b =
          at_the_end (record {
            evidence = ev;
            says = refl;
            place = d;
            reached = onward k z;
            last = behind_last M room ev d x (rw b.0 b.1);
            left = left;
            rest = refl;
            allowed = omega arith;
          })
      before (stop v) ev N z x b = nowhere (rw b)

      pick : (m m' : Move) → next full M room c ≡ m → Shaped room m → Follows m m'
          → ((d : Config) → next full M room c ≡ go d → Shape room d → Filled d.store d.phase
          → Differ M room (left + suc q) (search_from full left M room d (suc q)) (search_from shortened left M room d (suc q)))
          → Differ M room (suc left + q) (whole m) (short m')
      pick m m' z x (same e g) rest = rw e (alike m' (z ∙ e) (rw e at x) g rest)
      pick m m' z x (ahead ev N e b) rest = rw e (before m ev N z x b)

  begun_differ : (left : ℕ) (o : Option ℕ) → Differ M room (suc left) (begun full left M room o) (begun shortened left M room o)
  unfolding begun
  begun_differ left none = nowhere refl
  begun_differ left (some s) =
      let z : suc left ≡ left + 1 = omega arith in rw z (from_differ left (at 0 [] look) 1 here (opening_shape room) tt)

  -- THE DIFFERENCE
  pub rounds_differ : (allowance : ℕ) → Differ M room allowance (searched full M room allowance) (searched shortened M room allowance)
  unfolding searched
  rounds_differ zero = nowhere refl
  rounds_differ (suc left) = begun_differ left (least M.size M.start)

  -- what is left of the last round ends with the same evidence or not at all, and takes questions
  last_agrees : (ev : List ℕ) (c : Config) → LastRound M room ev c → (left q : ℕ)
      → (Answered (search_from full left M room c q).verdict → safe ev ≡ (search_from full left M room c q).verdict)
      × (q ≤ (search_from full left M room c q).questions)
  last_agrees ev c w left q =
      from_keeps full M room (left + q) (λ d p. Comes M room c d × (q ≤ p)) (λ v p. (Answered v → safe ev ≡ v) × (q ≤ p))
      (λ d p x. turn d p (next full M room d) refl x)
      (λ d x. (λ a. absurd a, x.1))
      left c q refl (here, omega arith)
    where
      turn : (d : Config) (p : ℕ) (m : Move) → next full M room d ≡ m → Comes M room c d × (q ≤ p)
          → Turned full M room (left + q) (λ d p. Comes M room c d × (q ≤ p)) (λ v p. (Answered v → safe ev ≡ v) × (q ≤ p)) (suc p) m
      turn d p (go e) z x = (onward x.0 z, omega (arith, x.1))
      turn d p (stop v) z x = (λ a. sym (w.ends d v x.0 z), omega (arith, x.1))

  differ_agree : (allowance : ℕ) (whole short : Ending) → Differ M room allowance whole short → Agree whole short
  differ_agree allowance whole short (nowhere e) = rw e (record { verdict = λ a. refl; questions = omega arith })
  differ_agree allowance whole short (at_the_end x) =
      let r = last_agrees x.evidence x.place x.last x.left short.questions in
      rw x.rest (record { verdict = λ a. x.says ∙ r.0 a; questions = r.1 })

  -- wherever the full search answers, the shortened one answers the same, and it asks no more
  pub rounds_agree : (allowance : ℕ) → Agree (searched full M room allowance) (searched shortened M room allowance)
  rounds_agree allowance = differ_agree allowance (searched full M room allowance) (searched shortened M room allowance) (rounds_differ allowance)

-- A state gets its level in the lent stores: if it stands first at index r, `put` on the window is the window after the level at r is stored; if it
-- stands nowhere, `put` is the window of one more entry after state and level are stored behind the others. Both go along the window, entry by
-- entry. The number of entries says whether they fit. Then the duty is settled: the one above it again, or step 2. Assumes nothing.
use Prim.Native.Nat.{ℕ, zero, suc, ◌+◌, ◌≤◌, ◌<◌}
use mathlib.Core.Bool.{true, false}
use mathlib.Core.List.{List, ◌∷◌}
use mathlib.Core.Path.{◌≡◌, refl, sym, ap}
use native.Mathlib.Omega.{arith}
use native.Mathlib.Numerals.{add-one}
use borrow.Author.Tests.{eqb-true, eqb-false, eq-eqb, ne_eqb, le-leb, lt-leb}
use lib.Dec.{eqb}
use lib.ListN.{length, get_or, set}
use lib.Seq.{get_or-set_same, get_or-set_other}
use Rattle.std.specs.Prelude.{Some, None}
use Rattle.std.specs.declared.ops.ControlFlow.{ControlFlow}
use Rattle.std.specs.declared.ops.ControlFlow.TheVariants.{Continue, Break}
use Rattle.base.proofs.Tests.{test}
use Rattle.ic3.specs.Search.{Entry, go, put, settled, fits, kept}
use Rattle.call.specs.Call.{Stores}
use Rattle.search.specs.declared.react.Verdict.{Verdict}
use Rattle.search.specs.declared.react.Config.{Config}
use Rattle.search.specs.Lent.{window, store_of, duties, config}
use Rattle.search.specs.Inner.{Absent, FirstAt, KeptAs, Moves}
use Rattle.search.specs.declared.react.Phase.TheVariants.{Look, Settle}
use Rattle.search.specs.declared.react.Why.TheVariants.{NoRoom}
use Rattle.search.specs.declared.react.Verdict.TheVariants.{GaveUp}
use Rattle.search.proofs.Windows.{window_length, window_apart, duties_more, duties_end}

-- the first entry has the state
put_here : (e : Entry) (es : List Entry) (s k : ℕ) → e.state ≡ s → put (e ∷ es) s k ≡ record { state = s; level = k } ∷ es
unfolding put
put_here e es s k q = rw (eq-eqb e.state s q, put)

-- the first entry has another state
put_there : (e : Entry) (es : List Entry) (s k : ℕ) → (e.state ≡ s → ⊥) → put (e ∷ es) s k ≡ e ∷ put es s k
unfolding put
put_there e es s k q = rw (ne_eqb e.state s q, put)

-- s stands first at index m: its level is changed in place
pub put_found : (left i m : ℕ) (ss ls : List ℕ) (s k : ℕ) → i ≤ m → m < i + left → get_or ss m 0 ≡ s → Absent ss i m s → m < length ls
    → window left i ss (set ls m k) ≡ put (window left i ss ls) s k
unfolding window
put_found zero i m ss ls s k g h e f b = absurd (omega arith)
put_found (suc left) i m ss ls s k g h e f b =
    test (eqb m i)
    (λ q. let o : i ≡ m = sym (eqb-true m i q) in
    rw o (rw (
      put_here (record { state = get_or ss m 0; level = get_or ls m 0 }) (window left (suc m) ss ls) s k e,
      get_or-set_same ls m k 0 b,
      window_apart left (suc m) m ss ls k (omega arith),
      e,
    )))
    (λ q. let o : (m ≡ i → ⊥) = eqb-false m i q in
    rw (
      put_there (record { state = get_or ss i 0; level = get_or ls i 0 }) (window left (suc i) ss ls) s k (f i (omega arith) (omega arith)),
      get_or-set_other ls m i k 0 (omega arith),
      put_found left (suc i) m ss ls s k (omega arith) (omega arith) e (λ l u v. f l (omega arith) v) b,
    ))

-- s is not there: it is stored behind the others
put_new : (left i : ℕ) (ss ls : List ℕ) (s k : ℕ) → Absent ss i (i + left) s → i + left < length ss → i + left < length ls
    → window (suc left) i (set ss (i + left) s) (set ls (i + left) k) ≡ put (window left i ss ls) s k
unfolding window put
put_new zero i ss ls s k f a b =
    let o : i + 0 ≡ i = omega arith in
    rw o (rw (get_or-set_same ss i s 0 (omega arith), get_or-set_same ls i k 0 (omega arith)))
put_new (suc left) i ss ls s k f a b =
    let o : i + suc left ≡ suc i + left = omega arith in
    rw (
      put_there (record { state = get_or ss i 0; level = get_or ls i 0 }) (window left (suc i) ss ls) s k (f i (omega arith) (omega arith)),
      ← put_new left (suc i) ss ls s k (λ l u v. f l (omega arith) (omega arith)) (omega arith) (omega arith),
      o,
      get_or-set_other ss (suc i + left) i s 0 (omega arith),
      get_or-set_other ls (suc i + left) i k 0 (omega arith),
    )

-- s is not there: one entry more, with or without room for it
put_grows : (left i : ℕ) (ss ls : List ℕ) (s k : ℕ) → Absent ss i (i + left) s → length (put (window left i ss ls) s k) ≡ suc left
unfolding window put
put_grows zero i ss ls s k f = refl
put_grows (suc left) i ss ls s k f =
    rw (put_there (record { state = get_or ss i 0; level = get_or ls i 0 }) (window left (suc i) ss ls) s k (f i (omega arith) (omega arith)))
    (ap suc (put_grows left (suc i) ss ls s k (λ l u v. f l (omega arith) (omega arith))))

-- c entries fit if c is within the room
fits_window : (room c : ℕ) (ss ls : List ℕ) (st : List Entry) → window c 0 ss ls ≡ st → c ≤ room → fits room st ≡ true
unfolding fits
fits_window room c ss ls st e h = rw (← e, window_length c 0 ss ls) (le-leb c room h)

module _ (count r : ℕ) (ss ls : List ℕ) (s k : ℕ) (w : FirstAt ss 0 count s r) (c : count ≤ length ss) (l : length ls ≡ length ss) where
  -- s is stored: its level is changed, and nothing else
  pub kept_raised : r < count → KeptAs ss ls count s k ss (set ls r k) (Some count)
  unfolding store_of
  kept_raised h =
      let e = put_found count 0 r ss ls s k (omega arith) (omega arith) (w.here h) w.before (omega arith) in
      record { fit = fits_window (length ss) count ss (set ls r k) (put (window count 0 ss ls) s k) e c; store = e; within = c }

  -- s is stored behind the others
  pub kept_new : count ≤ r → count < length ss → KeptAs ss ls count s k (set ss count s) (set ls count k) (Some (count + 1))
  unfolding store_of
  kept_new g h =
      let z : 0 + count ≡ count = omega arith in
      let e : window (suc count) 0 (set ss count s) (set ls count k) ≡ put (window count 0 ss ls) s k =
      rw z at (put_new count 0 ss ls s k (λ m u v. w.before m u (omega arith)) (omega arith) (omega arith)) in
      rw add-one
      (record {
        fit = fits_window (length ss) (suc count) (set ss count s) (set ls count k) (put (window count 0 ss ls) s k) e (omega arith);
        store = e;
        within = omega arith;
      })

  -- there is no room for s
  pub kept_full : count ≤ r → length ss ≤ count → KeptAs ss ls count s k ss ls None
  unfolding store_of fits
  kept_full g h =
      let e : length (put (window count 0 ss ls) s k) ≡ suc count = put_grows count 0 ss ls s k (λ m u v. w.before m u (omega arith)) in
      rw e (lt-leb (suc count) (length ss) (omega arith))

module _ (N k count : ℕ) (s : Stores) where
  -- the duty above the settled one again
  pub settled_more : k + 1 < N
      → Moves (Continue (config N count (Settle (k + 1)))) s (go (settled N (store_of count s.states s.levels) k (duties N k s.path)))
  unfolding settled
  settled_more h = record { onward = rw (add-one, duties_more N k s.path (omega arith)); bounded = tt }

  -- the settled duty was the last
  pub settled_last : N ≤ k + 1
      → Moves (Continue (config N count Look)) s (go (settled N (store_of count s.states s.levels) k (duties N k s.path)))
  unfolding settled
  settled_last h = record { onward = rw (duties_end N k s.path (omega arith)); bounded = tt }

-- what fits is kept, and the duty settled
pub kept_fits : (room N k : ℕ) (st now : List Entry) (ds : List ℕ) (r : ControlFlow Verdict Config) (s : Stores) → fits room st ≡ true → now ≡ st
    → Moves r s (go (settled N now k ds)) → Moves r s (kept room N st k ds)
unfolding kept
kept_fits room N k st now ds r s f e g = rw (f, kept) (rw e at g)

-- what does not fit ends the search
pub kept_not : (room N k : ℕ) (st : List Entry) (ds : List ℕ) (s : Stores) → fits room st ≡ false → Moves (Break (GaveUp NoRoom)) s (kept room N st k ds)
unfolding kept
kept_not room N k st ds s f = record { onward = rw (f, kept); bounded = tt }

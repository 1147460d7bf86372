-- The store as a list: what storing and raising do to levels, to their sum and to the number of stored states; which states a level has;
-- and that a list without repetition is no longer than one that has all its numbers. Assumes nothing.
use Prim.Native.Nat.{ℕ, suc, ◌+◌, ◌*◌, ◌≤◌, ◌<◌}
use mathlib.Core.Bool.{Bool, true, false, not, ◌||◌}
use mathlib.Core.List.{List, [], ◌∷◌}
use mathlib.Core.Path.{◌≡◌, refl, sym, ap, ◌∙◌}
use native.Mathlib.Omega.{arith}
use native.Mathlib.Nat.{mul-suc}
use borrow.Author.Tests.{leb-true, leb-false, eqb-true, eqb-false, eq-eqb, ne_eqb, le-leb, lt-leb}
use lib.Dec.{eqb, leb, ltb}
use lib.ListN.{length}
use Rattle.base.proofs.Tests.{test, clash}
use Rattle.ic3.specs.Search.{Entry, level_of, put, states, fits}
use Rattle.ic3.specs.Shape.{Tidy}
use Rattle.ic3.specs.Demands.{listed, Distinct}

-- ---- levels
pub level_put : (st : List Entry) (s k : ℕ) → level_of (put st s k) s ≡ k
unfolding level_of put
level_put [] s k = rw (eq-eqb s s refl, level_of)
level_put (x ∷ es) s k =
    test (eqb x.state s)
    (λ e. rw (e, put) (rw (eq-eqb s s refl, level_of)))
    (λ e. rw (e, put) (rw (e, level_of) (level_put es s k)))

pub level_put_other : (st : List Entry) (s k t : ℕ) → (t ≡ s → ⊥) → level_of (put st s k) t ≡ level_of st t
unfolding level_of put
level_put_other [] s k t d = rw (ne_eqb s t (λ q. d (sym q)), level_of)
level_put_other (x ∷ es) s k t d =
    test (eqb x.state s)
    (λ e. rw (e, put)
    (rw (ne_eqb s t (λ q. d (sym q)), level_of)
    (rw (ne_eqb x.state t (λ q. d (sym q ∙ eqb-true x.state s e)), level_of))))
    (λ e. rw (e, put)
    (test (eqb x.state t) (λ f. rw (f, level_of)) (λ f. rw (f, level_of) (level_put_other es s k t d))))

pub put_tidy : (st : List Entry) (s k : ℕ) → 1 ≤ k → Tidy st → Tidy (put st s k)
unfolding level_of put
put_tidy [] s k h w = (h, refl, tt)
put_tidy (x ∷ es) s k h w =
    test (eqb x.state s)
    (λ e. rw (e, put) (h, rw (← eqb-true x.state s e) w.1, w.2))
    (λ e. rw (e, put)
    (w.0, level_put_other es s k x.state (eqb-false x.state s e) ∙ w.1, put_tidy es s k h w.2))

-- what holds of every stored state
abbrev pub Stored : (ℕ → Type 0) → List Entry → Type 0
Stored P st = (s : ℕ) → 1 ≤ level_of st s → P s

pub stored_put : {P : ℕ → Type 0} (st : List Entry) (s k : ℕ) → P s → Stored P st → Stored P (put st s k)
stored_put st s k p w t h =
    test (eqb t s)
    (λ q. rw (eqb-true t s q) p)
    (λ q. w t (rw (level_put_other st s k t (eqb-false t s q)) at h))

-- ---- how many are stored
pub put_new : (st : List Entry) (s k : ℕ) → Tidy st → level_of st s ≡ 0 → length (put st s k) ≡ suc (length st)
unfolding level_of put
put_new [] s k w h = refl
put_new (x ∷ es) s k w h =
    test (eqb x.state s)
    (λ e. absurd (let g : x.level ≡ 0 = rw (e, level_of) at h in omega (arith, w.0)))
    (λ e. rw (e, put) (ap suc (put_new es s k w.2 (rw (e, level_of) at h))))

pub put_old : (st : List Entry) (s k : ℕ) → 1 ≤ level_of st s → length (put st s k) ≡ length st
unfolding level_of put
put_old [] s k h = absurd (omega arith)
put_old (x ∷ es) s k h =
    test (eqb x.state s) (λ e. rw (e, put)) (λ e. rw (e, put) (ap suc (put_old es s k (rw (e, level_of) at h))))

pub put_more : (st : List Entry) (s k : ℕ) → Tidy st → length st ≤ length (put st s k)
put_more st s k w =
    test (eqb (level_of st s) 0)
    (λ e. omega (arith, put_new st s k w (eqb-true (level_of st s) 0 e)))
    (λ e. omega (arith, put_old st s k (omega (arith, eqb-false (level_of st s) 0 e))))

-- The store outgrows the room exactly if a state must be stored anew and the store is full; raising a level needs no room.
pub outgrown : (room : ℕ) (st : List Entry) (s k : ℕ) → Tidy st → length st ≤ room
    → fits room (put st s k) ≡ (not (eqb (level_of st s) 0) || ltb (length st) room)
unfolding fits
outgrown room st s k w h =
    test (eqb (level_of st s) 0)
    (λ e. rw (e, put_new st s k w (eqb-true (level_of st s) 0 e)))
    (λ e. rw (e, put_old st s k (omega (arith, eqb-false (level_of st s) 0 e))) (le-leb (length st) room h))

-- what is tested of the store after storing or raising
pub fits_true : (room : ℕ) (st : List Entry) → fits room st ≡ true → length st ≤ room
unfolding fits
fits_true room st e = leb-true (length st) room e

pub fits_false : (room : ℕ) (st : List Entry) → fits room st ≡ false → room < length st
unfolding fits
fits_false room st e = leb-false (length st) room e

-- ---- the sum of the levels
unfoldable pub total : List Entry → ℕ
total [] = 0
total (e ∷ es) = e.level + total es

pub put_total : (st : List Entry) (s k : ℕ) → total (put st s k) + level_of st s ≡ total st + k
unfolding level_of put total
put_total [] s k = omega arith
put_total (x ∷ es) s k =
    test (eqb x.state s)
    (λ e. rw (e, put) (rw (e, level_of) (omega arith)))
    (λ e. rw (e, put) (rw (e, level_of) (omega (arith, put_total es s k))))

-- the levels of the rest of a store are levels of the store, or 0
pub rest_level : (x : Entry) (es : List Entry) → Tidy (x ∷ es) → (n : ℕ) → ((s : ℕ) → level_of (x ∷ es) s ≤ n)
    → (x.level ≤ n) × ((s : ℕ) → level_of es s ≤ n)
unfolding level_of
rest_level x es w n h = (
  rw (eq-eqb x.state x.state refl, level_of) at (h x.state),
  λ s. test (eqb x.state s)
      (λ e. rw (← eqb-true x.state s e) (omega (arith, w.1)))
      (λ e. rw (e, level_of) at (h s)),
)

pub total_low : (n : ℕ) (st : List Entry) → Tidy st → ((s : ℕ) → level_of st s ≤ n) → total st ≤ n * length st
unfolding total
total_low n [] w h = omega arith
total_low n (x ∷ es) w h =
    let r = rest_level x es w n h in
    rw mul-suc (omega (arith, r.0, total_low n es w.2 r.1))

-- ---- the states of a level
pub listed_none {ℓ} : {C : Type ℓ} (s : ℕ) → listed [] s ≡ true → C
unfolding listed
listed_none s e = clash e refl

pub listed_head : (l : List ℕ) (s : ℕ) → listed (s ∷ l) s ≡ true
unfolding listed
listed_head l s = rw (eq-eqb s s refl, listed)

pub listed_tail : (l : List ℕ) (x s : ℕ) → listed l s ≡ true → listed (x ∷ l) s ≡ true
unfolding listed
listed_tail l x s h = test (eqb x s) (λ e. rw (e, listed)) (λ e. rw (e, listed) h)

pub listed_other : (l : List ℕ) (x s : ℕ) → (s ≡ x → ⊥) → listed (x ∷ l) s ≡ listed l s
unfolding listed
listed_other l x s d = rw (ne_eqb x s (λ q. d (sym q)), listed)

-- a test that fails at 0 lists exactly the states whose level passes it
pub states_listed : (p : ℕ → Bool) → p 0 ≡ false → (st : List Entry) → Tidy st → (s : ℕ) → listed (states p st) s ≡ p (level_of st s)
unfolding states level_of listed
states_listed p z [] w s = sym z
states_listed p z (x ∷ es) w s =
    test (eqb x.state s)
    (λ e. let away : listed (states p es) s ≡ false = states_listed p z es w.2 s
    ∙ ap p (ap (level_of es) (sym (eqb-true x.state s e)) ∙ w.1) ∙ z in
    rw (e, level_of) (test (p x.level) (λ f. rw (f, states) (rw (e, listed))) (λ f. rw (f, states) away)))
    (λ e. rw (e, level_of)
    (test (p x.level)
    (λ f. rw (f, states) (rw (e, listed) (states_listed p z es w.2 s)))
    (λ f. rw (f, states) (states_listed p z es w.2 s))))

pub states_distinct : (p : ℕ → Bool) → p 0 ≡ false → (st : List Entry) → Tidy st → Distinct (states p st)
unfolding states
states_distinct p z [] w = tt
states_distinct p z (x ∷ es) w =
    test (p x.level)
    (λ e. rw (e, states) (states_listed p z es w.2 x.state ∙ ap p w.1 ∙ z, states_distinct p z es w.2))
    (λ e. rw (e, states) (states_distinct p z es w.2))

-- a raise that a test does not see leaves the states that pass it
pub states_put : (p : ℕ → Bool) (st : List Entry) (s k : ℕ) → 1 ≤ level_of st s → p (level_of st s) ≡ p k → states p (put st s k) ≡ states p st
unfolding states put level_of
states_put p [] s k h e = absurd (omega arith)
states_put p (x ∷ es) s k h e =
    test (eqb x.state s)
    (λ q. let g : p x.level ≡ p k = rw (q, level_of) at e in
    rw (q, put)
    (test (p k)
    (λ j. rw (j, states) (rw (g ∙ j, states) (rw (eqb-true x.state s q))))
    (λ j. rw (j, states) (rw (g ∙ j, states)))))
    (λ q. let r = states_put p es s k (rw (q, level_of) at h) (rw (q, level_of) at e) in
    rw (q, put) (test (p x.level) (λ j. rw (j, states) (ap (λ l. x.state ∷ l) r)) (λ j. rw (j, states) r)))

-- the states from a level on are those of the level and those above it
pub states_split : (i : ℕ) (st : List Entry)
    → length (states (leb i) st) ≡ length (states (eqb i) st) + length (states (leb (suc i)) st)
unfolding states
states_split i [] = refl
states_split i (x ∷ es) =
    test (eqb i x.level)
    (λ e. rw (e, states)
    (rw (le-leb i x.level (omega (arith, eqb-true i x.level e)), states)
    (rw (lt-leb (suc i) x.level (omega (arith, eqb-true i x.level e)), states)
    (omega (arith, states_split i es)))))
    (λ e. rw (e, states)
    (test (leb i x.level)
    (λ f. rw (f, states)
    (rw (le-leb (suc i) x.level (omega (arith, eqb-false i x.level e, leb-true i x.level f)), states)
    (omega (arith, states_split i es))))
    (λ f. rw (f, states)
    (rw (lt-leb (suc i) x.level (omega (arith, leb-false i x.level f)), states) (omega (arith, states_split i es))))))

pub states_fall : (i j : ℕ) → i ≤ j → (st : List Entry) → length (states (leb j) st) ≤ length (states (leb i) st)
unfolding states
states_fall i j h [] = omega arith
states_fall i j h (x ∷ es) =
    test (leb j x.level)
    (λ e. rw (e, states)
    (rw (le-leb i x.level (omega (arith, leb-true j x.level e)), states) (omega (arith, states_fall i j h es))))
    (λ e. rw (e, states)
    (test (leb i x.level)
    (λ f. rw (f, states) (omega (arith, states_fall i j h es)))
    (λ f. rw (f, states) (states_fall i j h es))))

pub states_length : (p : ℕ → Bool) (st : List Entry) → length (states p st) ≤ length st
unfolding states
states_length p [] = omega arith
states_length p (x ∷ es) =
    test (p x.level)
    (λ e. rw (e, states) (omega (arith, states_length p es)))
    (λ e. rw (e, states) (omega (arith, states_length p es)))

-- all levels are at most n + 1
pub total_cap : (n : ℕ) (st : List Entry) → Tidy st → ((s : ℕ) → level_of st s ≤ suc n)
    → total st ≤ n * length st + length (states (leb (suc n)) st)
unfolding total states
total_cap n [] w h = omega arith
total_cap n (x ∷ es) w h =
    let r = rest_level x es w (suc n) h in
    let b : total es ≤ n * length es + length (states (leb (suc n)) es) = total_cap n es w.2 r.1 in
    test (leb (suc n) x.level)
    (λ e. rw (e, states) (omega (arith, r.0, mul-suc n (length es))))
    (λ e. rw (e, states) (omega (arith, mul-suc n (length es), leb-false (suc n) x.level e)))

pub states_all : (st : List Entry) → Tidy st → length (states (leb 1) st) ≡ length st
unfolding states
states_all [] w = refl
states_all (x ∷ es) w = rw (le-leb 1 x.level w.0, states) (ap suc (states_all es w.2))

-- a state of level i is raised: one more above i
pub above_put : (st : List Entry) (s i : ℕ) → 1 ≤ i → level_of st s ≡ i
    → length (states (leb (suc i)) (put st s (suc i))) ≡ suc (length (states (leb (suc i)) st))
unfolding states put level_of
above_put [] s i h e = absurd (omega arith)
above_put (x ∷ es) s i h e =
    test (eqb x.state s)
    (λ f. let g : x.level ≡ i = rw (f, level_of) at e in
    rw (f, put)
    (rw (le-leb (suc i) (suc i) (omega arith), states) (rw (lt-leb (suc i) x.level (omega arith), states))))
    (λ f. let g : level_of es s ≡ i = rw (f, level_of) at e in
    rw (f, put)
    (test (leb (suc i) x.level)
    (λ q. rw (q, states) (ap suc (above_put es s i h g)))
    (λ q. rw (q, states) (above_put es s i h g))))

-- ---- counting
-- the list without the first x
remove : ℕ → List ℕ → List ℕ
remove x [] = []
remove x (y ∷ ys) = elim (eqb y x) [ true ↦ ys | false ↦ y ∷ remove x ys ]

remove_length : (x : ℕ) (d : List ℕ) → listed d x ≡ true → length d ≡ suc (length (remove x d))
unfolding remove listed
remove_length x [] m = clash m refl
remove_length x (y ∷ ys) m =
    test (eqb y x)
    (λ e. rw (e, remove))
    (λ e. rw (e, remove) (ap suc (remove_length x ys (rw (e, listed) at m))))

remove_keeps : (x z : ℕ) (d : List ℕ) → (z ≡ x → ⊥) → listed (remove x d) z ≡ listed d z
unfolding remove listed
remove_keeps x z [] f = refl
remove_keeps x z (y ∷ ys) f =
    test (eqb y x)
    (λ e. rw (e, remove) (sym (listed_other ys y z (λ q. f (q ∙ eqb-true y x e)))))
    (λ e. rw (e, remove)
    (test (eqb y z) (λ q. rw (q, listed)) (λ q. rw (q, listed) (remove_keeps x z ys f))))

-- a list without repetition is no longer than one that has all its numbers
pub inside_length : (l d : List ℕ) → Distinct l → ((s : ℕ) → listed l s ≡ true → listed d s ≡ true) → length l ≤ length d
inside_length [] d w h = omega arith
inside_length (x ∷ xs) d w h =
    omega (
      arith,
      remove_length x d (h x (listed_head xs x)),
      inside_length xs (remove x d) w.1
          (λ s n. remove_keeps x s d (λ q. clash (rw q at n) w.0) ∙ h s (listed_tail xs x s n)),
    )

-- Laws of lists: what `every` and `any` say, positions in a list, numbers made of bits. Assumes nothing.
use Prim.Native.Nat.{ℕ, zero, suc, ◌+◌, ◌*◌, ◌/◌, ◌%◌, ◌^◌, ◌<◌}
use mathlib.Core.Path.{◌≡◌, refl, sym, ap, ◌∙◌}
use mathlib.Core.Logic.{◌↔◌, ⊎_elim}
use mathlib.Core.Bool.{Bool, true, false, ◌&&◌, ◌||◌, and_assoc}
use mathlib.Core.List.Memᴰ
use mathlib.Core.List.{List, [], ◌∷◌, ◌++◌, Memᴰ}
use native.Mathlib.Nat.{pow-suc}
use native.Mathlib.Omega.{arith}
use borrow.Author.Tests.{eqb-true, eq-eqb, ne_eqb}
use lib.Dec.{eqb}
use lib.ListN.{length, get_or}
use Rattle.masks.specs.Bit.{bit}
use Rattle.masks.proofs.Bits.{bit_zero, bit_suc}
use Rattle.masks.proofs.Somewhere.{or_fails}
use Rattle.ic3.specs.Demands.{listed, Distinct}
use Rattle.base.proofs.Tests.{test, clash, both}
use Rattle.circuit.specs.Circuit.{every, index, number}

-- ---- tests
-- two tests that fail together are the same
pub same_test : (a b : Bool) → (a ≡ false → b ≡ false) → (b ≡ false → a ≡ false) → a ≡ b
same_test true true f g = refl
same_test true false f g = g refl
same_test false true f g = sym (f refl)
same_test false false f g = refl

pub every_append : {A : Type 0} (p : A → Bool) (a b : List A) → every p (a ++ b) ≡ (every p a && every p b)
unfolding every
every_append p [] b = refl
every_append p (x ∷ xs) b = ap (λ y. p x && y) (every_append p xs b) ∙ sym (and_assoc (p x) (every p xs) (every p b))

pub every_mem : {A : Type 0} (p : A → Bool) (l : List A) → (every p l ≡ true) ↔ ((x : A) → Memᴰ x l → p x ≡ true)
unfolding every
every_mem p [] = (λ e x m. absurd (Memᴰ.not-nil m), λ h. refl)
every_mem p (y ∷ ys) = (
  λ e x m.
      let q = both (p y) (every p ys) e in
      ⊎_elim (λ r. rw r q.0) ((every_mem p ys).0 q.1 x) (Memᴰ.cases_cons m),
  λ h. rw (h y (Memᴰ.head refl)) ((every_mem p ys).1 (λ x m. h x (Memᴰ.tail m))),
)

pub every_fails : {A : Type 0} (p : A → Bool) (l : List A) → every p l ≡ false → (x : A) × Memᴰ x l × (p x ≡ false)
unfolding every
every_fails p [] e = clash refl e
every_fails p (y ∷ ys) e =
    test (p y)
    (λ q. let r = every_fails p ys (rw q at e) in (r.0, Memᴰ.tail r.1, r.2))
    (λ q. (y, Memᴰ.head refl, q))

-- ---- positions
pub index_lt : (vs : List ℕ) (v : ℕ) → listed vs v ≡ true → index vs v < length vs
unfolding listed index
index_lt [] v e = clash e refl
index_lt (u ∷ us) v e =
    test (eqb u v)
    (λ q. rw (q, index) (omega arith))
    (λ q. rw (q, index) (omega (arith, index_lt us v (rw (q, listed) at e))))

pub index_at : (vs : List ℕ) (v : ℕ) → listed vs v ≡ true → get_or vs (index vs v) 0 ≡ v
unfolding listed index
index_at [] v e = clash e refl
index_at (u ∷ us) v e =
    test (eqb u v)
    (λ q. rw (q, index) (eqb-true u v q))
    (λ q. rw (q, index) (index_at us v (rw (q, listed) at e)))

pub index_left : (a b : List ℕ) (v : ℕ) → listed a v ≡ true → index (a ++ b) v ≡ index a v
unfolding listed index
index_left [] b v e = clash e refl
index_left (u ∷ us) b v e =
    test (eqb u v)
    (λ q. rw (q, index))
    (λ q. rw (q, index) (ap suc (index_left us b v (rw (q, listed) at e))))

pub index_right : (a b : List ℕ) (v : ℕ) → listed a v ≡ false → index (a ++ b) v ≡ length a + index b v
unfolding listed index
index_right [] b v e = omega arith
index_right (u ∷ us) b v e =
    test (eqb u v)
    (λ q. clash refl (rw (q, listed) at e))
    (λ q. rw (q, index) (omega (arith, index_right us b v (rw (q, listed) at e))))

pub listed_append : (a b : List ℕ) (v : ℕ) → listed (a ++ b) v ≡ (listed a v || listed b v)
unfolding listed
listed_append [] b v = refl
listed_append (u ∷ us) b v = test (eqb u v) (λ q. rw (q, listed)) (λ q. rw (q, listed) (listed_append us b v))

-- ---- lists without repetition
pub distinct_right : (a b : List ℕ) → Distinct (a ++ b) → Distinct b
distinct_right [] b d = d
distinct_right (x ∷ xs) b d = distinct_right xs b d.1

pub distinct_apart : (a b : List ℕ) → Distinct (a ++ b) → (v : ℕ) → listed a v ≡ true → listed b v ≡ false
unfolding listed
distinct_apart [] b d v e = clash e refl
distinct_apart (u ∷ us) b d v e =
    test (eqb u v)
    (λ q. right (listed us v) (listed b v) (sym (listed_append us b v) ∙ rw (← eqb-true u v q) d.0))
    (λ q. distinct_apart us b d.1 v (rw (q, listed) at e))
  where
    right : (x y : Bool) → (x || y) ≡ false → y ≡ false
    right true y f = clash refl f
    right false y f = f

-- each position of such a list is the position of what stands there
pub listed_at : (vs : List ℕ) (k : ℕ) → k < length vs → listed vs (get_or vs k 0) ≡ true
unfolding listed
listed_at [] k h = absurd (omega arith)
listed_at (u ∷ us) zero h = rw (eq-eqb u u refl, listed)
listed_at (u ∷ us) (suc k) h =
    test (eqb u (get_or us k 0)) (λ q. rw (q, listed)) (λ q. rw (q, listed) (listed_at us k (omega arith)))

pub index_of : (vs : List ℕ) → Distinct vs → (k : ℕ) → k < length vs → index vs (get_or vs k 0) ≡ k
unfolding index
index_of [] d k h = absurd (omega arith)
index_of (u ∷ us) d zero h = rw (eq-eqb u u refl, index)
index_of (u ∷ us) d (suc k) h =
    test (eqb u (get_or us k 0))
    (λ q. clash (listed_at us k (omega arith)) (rw (eqb-true u (get_or us k 0) q) at d.0))
    (λ q. rw (q, index) (ap suc (index_of us d.1 k (omega arith))))

pub distinct_left : (a b : List ℕ) → Distinct (a ++ b) → Distinct a
distinct_left [] b d = tt
distinct_left (x ∷ xs) b d = (((or_fails (listed xs x) (listed b x)).0 (sym (listed_append xs b x) ∙ d.0)).0, distinct_left xs b d.1)

-- ---- numbers
pub number_lt : (bs : List Bool) → number bs < 2 ^ length bs
unfolding number
number_lt [] = omega arith
number_lt (true ∷ bs) = omega (arith, number_lt bs, pow-suc 2 (length bs))
number_lt (false ∷ bs) = omega (arith, number_lt bs, pow-suc 2 (length bs))

halves : (b : Bool) (bs : List Bool) → (number (b ∷ bs) / 2 ≡ number bs) × (eqb (number (b ∷ bs) % 2) 1 ≡ b)
unfolding number
halves true bs = (omega arith, eq-eqb ((1 + 2 * number bs) % 2) 1 (omega arith))
halves false bs = (omega arith, ne_eqb ((0 + 2 * number bs) % 2) 1 (omega arith))

pub number_bit : (bs : List Bool) (k : ℕ) (d : Bool) → k < length bs → eqb (bit (number bs) k) 1 ≡ get_or bs k d
number_bit [] k d h = absurd (omega arith)
number_bit (b ∷ bs) zero d h = rw (bit_zero (number (b ∷ bs))) (halves b bs).1
number_bit (b ∷ bs) (suc k) d h = rw (bit_suc (number (b ∷ bs)) k, (halves b bs).0) (number_bit bs k d (omega arith))

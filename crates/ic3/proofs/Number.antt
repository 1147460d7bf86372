-- The number m of demand 3 exists, and there is one only. A list of states that lead to a bad one grows as long as some state outside it is
-- bad or steps into it; it holds no number twice, so it is no longer than the number of states and comes to an end. Those of it that are no
-- start states are the ones to be counted. Assumes nothing: the list is computed.
use Prim.Native.Nat.{ℕ, zero, suc, ◌+◌, ◌≤◌, ◌<◌}
use mathlib.Core.Bool.{Bool, true, false, not, ◌&&◌, ◌||◌, and-false, or-true}
use mathlib.Core.List.{List, [], ◌∷◌}
use mathlib.Core.Option.{Option, none, some}
use mathlib.Core.Path.{◌≡◌, refl, sym, ap, ◌∙◌}
use native.Mathlib.Omega.{arith}
use borrow.Author.Tests.{leb-true, eqb-true, eqb-false, not-true, not-false}
use lib.Dec.{eqb, leb}
use lib.ListN.{length}
use Rattle.ic3.specs.Answers.{Answers}
use Rattle.base.proofs.Tests.{test, clash, both, first_false}
use Rattle.ic3.specs.Model.{Model, least}
use Rattle.ic3.specs.Search.{Entry, states}
use Rattle.ic3.specs.Shape.{Tidy}
use Rattle.ic3.specs.Demands.{Leads, listed, Doomed, Distinct, Number}
use Rattle.ic3.proofs.Least.{least_answers}
use Rattle.ic3.proofs.Store.{Stored, listed_none, listed_head, listed_tail, listed_other, states_listed, states_distinct, states_all, inside_length}
use Rattle.ic3.proofs.Frames.{leads_state}

-- two lists that have the same numbers, none twice, are equally long
pub number_unique : {P : ℕ → Type 0} (m n : ℕ) → Number P m → Number P n → m ≡ n
number_unique m n A B =
    omega (
      arith,
      A.many,
      B.many,
      inside_length A.those B.those A.distinct (λ s h. (B.exact s).1 ((A.exact s).0 h)),
      inside_length B.those A.those B.distinct (λ s h. (A.exact s).1 ((B.exact s).0 h)),
    )

-- a list of states with the property, none twice, is no longer than m
pub number_listed : {P : ℕ → Type 0} (m : ℕ) → Number P m → (l : List ℕ) → Distinct l → ((s : ℕ) → listed l s ≡ true → P s) → length l ≤ m
number_listed m A l d h = omega (arith, A.many, inside_length l A.those d (λ s n. (A.exact s).1 (h s n)))

-- no more than m states with the property are stored
pub number_stored : {P : ℕ → Type 0} (m : ℕ) → Number P m → (st : List Entry) → Tidy st → Stored P st → length st ≤ m
number_stored m A st w h =
    omega (
      arith,
      states_all st w,
      number_listed m A (states (leb 1) st) (states_distinct (leb 1) refl st w)
          (λ s n. h s (leb-true 1 _ (sym (states_listed (leb 1) refl st w s) ∙ n))),
    )

-- the numbers below k
below : ℕ → List ℕ
below zero = []
below (suc k) = k ∷ below k

below_length : (k : ℕ) → length (below k) ≡ k
unfolding below
below_length zero = refl
below_length (suc k) = ap suc (below_length k)

below_listed : (k s : ℕ) → s < k → listed (below k) s ≡ true
unfolding below
below_listed zero s h = absurd (omega arith)
below_listed (suc k) s h =
    test (eqb s k)
    (λ e. rw (eqb-true s k e) (listed_head (below k) k))
    (λ e. listed_tail (below k) k s (below_listed k s (omega (arith, eqb-false s k e))))

module _ (M : Model) where
  -- s steps to one of the list
  into : List ℕ → ℕ → Bool
  into [] s = false
  into (t ∷ ts) s = elim (M.step s t) [ true ↦ true | false ↦ into ts s ]

  into_true : (l : List ℕ) (s t : ℕ) → listed l t ≡ true → M.step s t ≡ true → into l s ≡ true
  unfolding into
  into_true [] s t m e = listed_none t m
  into_true (x ∷ l) s t m e =
      test (M.step s x)
      (λ q. rw (q, into))
      (λ q. rw (q, into)
      (into_true l s t (sym (listed_other l x t (λ z. clash e (rw z q))) ∙ m) e))

  record Lead (s : ℕ) : Type 0 where
    onward : List ℕ
    leads : Leads M s onward

  into_lead : (l : List ℕ) → ((t : ℕ) → listed l t ≡ true → Lead t) → (s : ℕ) → s < M.size → into l s ≡ true → Lead s
  unfolding into
  into_lead [] h s b e = clash e refl
  into_lead (x ∷ l) h s b e =
      test (M.step s x)
      (λ q. let r : Lead x = h x (listed_head l x) in record { onward = x ∷ r.onward; leads = (b, q, r.leads) })
      (λ q. into_lead l (λ t n. h t (listed_tail l x t n)) s b (rw (q, into) at e))

  -- s is not listed, and is bad or steps to a listed one
  fresh : List ℕ → ℕ → Bool
  fresh l s = not (listed l s) && (M.bad s || into l s)

  fresh_new : (l : List ℕ) (s : ℕ) → fresh l s ≡ true → listed l s ≡ false
  unfolding fresh
  fresh_new l s e = not-true (listed l s) (both (not (listed l s)) (M.bad s || into l s) e).0

  fresh_lead : (l : List ℕ) → ((t : ℕ) → listed l t ≡ true → Lead t) → (s : ℕ) → s < M.size → fresh l s ≡ true → Lead s
  unfolding fresh
  fresh_lead l f s h e =
      pick (M.bad s) refl (both (not (listed l s)) (M.bad s || into l s) e).1
    where
      pick : (b : Bool) → M.bad s ≡ b → (b || into l s) ≡ true → Lead s
      pick true q g = record { onward = []; leads = (h, q) }
      pick false q g = into_lead l f s h g

  -- a list that nothing is to be added to
  record Full (l : List ℕ) : Type 0 where
    distinct : Distinct l
    lead : (s : ℕ) → listed l s ≡ true → Lead s
    full : (s : ℕ) → s < M.size → fresh l s ≡ false

  grow : (left : ℕ) (l : List ℕ) → M.size < left + length l → Distinct l → ((s : ℕ) → listed l s ≡ true → Lead s) → (r : List ℕ) × Full r
  grow zero l h d f =
      absurd (omega (
        arith,
        below_length M.size,
        inside_length l (below M.size) d
            (λ s n. let r = f s n in below_listed M.size s (leads_state M s r.onward r.leads)),
      ))
  grow (suc left) l h d f =
      pick (least M.size (fresh l)) (least_answers M.size (fresh l)) (λ x g₁ g₂. grow left (x ∷ l) (omega arith) g₁ g₂)
    where
      pick : (o : Option ℕ) → Answers M.size (fresh l) o
          → ((x : ℕ) → Distinct (x ∷ l) → ((s : ℕ) → listed (x ∷ l) s ≡ true → Lead s) → (r : List ℕ) × Full r) → (r : List ℕ) × Full r
      pick none a k = (l, record { distinct = d; lead = f; full = a })
      pick (some x) a k =
          k x (fresh_new l x a.fulfils, d)
          (λ s n. test (eqb s x)
          (λ e. rw (eqb-true s x e) (fresh_lead l f x a.state a.fulfils))
          (λ e. f s (sym (listed_other l x s (eqb-false s x e)) ∙ n)))

  -- such a list has every state that leads to a bad one
  full_one : (l : List ℕ) → Full l → (s : ℕ) → s < M.size → (M.bad s || into l s) ≡ true → listed l s ≡ true
  unfolding fresh
  full_one l F s h e = not-false (listed l s) (first_false (not (listed l s)) (M.bad s || into l s) (F.full s h) e)

  full_has : (l : List ℕ) → Full l → (s : ℕ) (xs : List ℕ) → Leads M s xs → listed l s ≡ true
  full_has l F s [] w = full_one l F s w.0 (rw w.1)
  full_has l F s (t ∷ xs) w = full_one l F s w.0 (rw (into_true l s t (full_has l F t xs w.2) w.1) (or-true (M.bad s)))

  -- those of a list that are no start states
  others : List ℕ → List ℕ
  others [] = []
  others (x ∷ xs) = elim (M.start x) [ true ↦ others xs | false ↦ x ∷ others xs ]

  others_listed : (l : List ℕ) (s : ℕ) → listed (others l) s ≡ (listed l s && not (M.start s))
  unfolding others listed
  others_listed [] s = refl
  others_listed (x ∷ xs) s =
      test (M.start x)
      (λ q. rw (q, others) (test (eqb x s)
      (λ e. let z : M.start s ≡ true = rw (← eqb-true x s e) q in rw (e, listed) (others_listed xs s ∙ rw z (and-false (listed xs s))))
      (λ e. rw (e, listed) (others_listed xs s))))
      (λ q. rw (q, others) (test (eqb x s)
      (λ e. let z : M.start s ≡ false = rw (← eqb-true x s e) q in rw (e, listed) (rw z))
      (λ e. rw (e, listed) (others_listed xs s))))

  others_distinct : (l : List ℕ) → Distinct l → Distinct (others l)
  unfolding others
  others_distinct [] d = tt
  others_distinct (x ∷ xs) d =
      test (M.start x)
      (λ q. rw (q, others) (others_distinct xs d.1))
      (λ q. rw (q, others) (others_listed xs x ∙ rw d.0, others_distinct xs d.1))

  pub doomed_number : (m : ℕ) × Number (Doomed M) m
  doomed_number = made (grow (suc M.size) [] (omega arith) tt (λ s n. listed_none s n))
    where
      made : (r : List ℕ) × Full r → (m : ℕ) × Number (Doomed M) m
      made (l, F) = (
        length (others l),
        record {
          those = others l;
          distinct = others_distinct l F.distinct;
          exact = λ s. (
            λ n. let e = both (listed l s) (not (M.start s)) (sym (others_listed l s) ∙ n) in
                let r = F.lead s e.0 in
                record { no_start = not-true (M.start s) e.1; onward = r.onward; leads = r.leads },
            λ d. others_listed l s ∙ rw (full_has l F s d.onward d.leads, d.no_start),
          );
          many = refl;
        },
      )

-- What `somewhere` says. It looks at the last position first and then at those below it, so the law goes by the number of positions: all fail
-- exactly if the last fails and all below it do. Assumes nothing.
use mathlib.Core.Path.{◌≡◌, refl, sym, ap, ◌∙◌}
use mathlib.Core.Logic.{◌↔◌, ⊎_elim}
use mathlib.Core.Bool.{Bool, true, false, ◌&&◌, ◌||◌, or_assoc, or_comm, not-eq-not, true≢false}
use Prim.Native.Nat.{ℕ, zero, suc, ◌<◌}
use native.Mathlib.Omega.{arith}
use Rattle.base.proofs.Tests.{test, clash, eq_or_ne}
use Rattle.masks.specs.Bit.{somewhere}

-- neither of two tests passes exactly if each fails
pub or_fails : (a b : Bool) → ((a || b) ≡ false) ↔ ((a ≡ false) × (b ≡ false))
or_fails true b = (λ e. absurd (true≢false e), λ e. absurd (true≢false e.0))
or_fails false b = (λ e. (refl, e), λ e. e.1)

-- the last position, or one below it
pub somewhere_suc : (k : ℕ) (p : ℕ → Bool) → somewhere (suc k) p ≡ (p k || somewhere k p)
unfolding somewhere
somewhere_suc k p = here (p k)
  where
    here : (b : Bool) → (elim b as (λ x. Bool) [ true ↦ true | false ↦ somewhere k p ]) ≡ (b || somewhere k p)
    here true = refl
    here false = refl

-- the first position, or a later one
pub somewhere_first : (k : ℕ) (p : ℕ → Bool) → somewhere (suc k) p ≡ (p 0 || somewhere k (λ j. p (suc j)))
unfolding somewhere
somewhere_first zero p = somewhere_suc zero p
somewhere_first (suc k) p =
    somewhere_suc (suc k) p
    ∙ ap (λ x. p (suc k) || x) (somewhere_first k p)
    ∙ or_swap (p (suc k)) (p 0) (somewhere k (λ j. p (suc j)))
    ∙ ap (λ x. p 0 || x) (sym (somewhere_suc k (λ j. p (suc j))))
  where
    or_swap : (a b c : Bool) → (a || (b || c)) ≡ (b || (a || c))
    or_swap a b c = sym (or_assoc a b c) ∙ rw (or_comm a b) (or_assoc b a c)

-- no position passes exactly if each fails
pub somewhere_false : (k : ℕ) (p : ℕ → Bool) → (somewhere k p ≡ false) ↔ ((i : ℕ) → i < k → p i ≡ false)
unfolding somewhere
somewhere_false zero p = (λ e i h. absurd (omega arith), λ h. refl)
somewhere_false (suc k) p = (
  λ e i h.
      let both = (or_fails (p k) (somewhere k p)).0 (sym (somewhere_suc k p) ∙ e) in
      ⊎_elim (λ q. rw q both.0) (λ f. (somewhere_false k p).0 both.1 i (omega (arith, f))) (eq_or_ne i k),
  λ h.
      somewhere_suc k p
      ∙ (or_fails (p k) (somewhere k p)).1 (h k (omega arith), (somewhere_false k p).1 (λ i l. h i (omega arith))),
)

-- some position passes exactly if one does
pub somewhere_at : (k : ℕ) (p : ℕ → Bool) (i : ℕ) → i < k → p i ≡ true → somewhere k p ≡ true
somewhere_at k p i h e = not-eq-not.0 (λ f. clash e ((somewhere_false k p).0 f i h))

pub somewhere_true : (k : ℕ) (p : ℕ → Bool) → somewhere k p ≡ true → (i : ℕ) × (i < k) × (p i ≡ true)
unfolding somewhere
somewhere_true zero p e = clash e refl
somewhere_true (suc k) p e =
    test (p k)
    (λ t. (k, omega arith, t))
    (λ f. let r = somewhere_true k p (sym (or_second f) ∙ sym (somewhere_suc k p) ∙ e) in (r.0, omega (arith, r.1), r.2))
  where
    or_second : p k ≡ false → (p k || somewhere k p) ≡ somewhere k p
    or_second f = rw f

-- tests that agree at each position find the same
pub somewhere_same : (k : ℕ) (p q : ℕ → Bool) → ((i : ℕ) → i < k → p i ≡ q i) → somewhere k p ≡ somewhere k q
unfolding somewhere
somewhere_same zero p q h = refl
somewhere_same (suc k) p q h =
    somewhere_suc k p
    ∙ rw (h k (omega arith), somewhere_same k p q (λ i l. h i (omega arith))) (sym (somewhere_suc k q))

-- what does not look at the position is tested once
pub somewhere_and : (k : ℕ) (a : Bool) (p : ℕ → Bool) → somewhere k (λ i. a && p i) ≡ (a && somewhere k p)
somewhere_and k true p = refl
somewhere_and k false p = (somewhere_false k (λ i. false)).1 (λ i h. refl)

-- two searches find the same if each finds something where the other passes
pub somewhere_both : (k m : ℕ) (p q : ℕ → Bool) → ((i : ℕ) → i < k → p i ≡ true → somewhere m q ≡ true)
    → ((j : ℕ) → j < m → q j ≡ true → somewhere k p ≡ true) → somewhere k p ≡ somewhere m q
somewhere_both k m p q there back =
    test (somewhere k p)
    (λ e. let r = somewhere_true k p e in e ∙ sym (there r.0 r.1 r.2))
    (λ e. e ∙ sym (test (somewhere m q) (λ f. let r = somewhere_true m q f in clash (back r.0 r.1 r.2) e) (λ f. f)))

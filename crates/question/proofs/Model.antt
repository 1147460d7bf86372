-- The questions over lent lists are those that the search asks of its model. In a tidy store a state is excluded exactly if its level is i or more,
-- entry by entry: the first entry that is the state has its level, and no later one is the state. So R(i) is the same set, and of the same set the
-- least state is the same. Assumes nothing.
use Prim.Native.Nat.{ℕ, zero, suc, ◌^◌, min, ◌≤◌}
use mathlib.Core.Bool.{Bool, false, not, ◌&&◌, ◌||◌, or-false}
use mathlib.Core.List.{List, [], ◌∷◌}
use mathlib.Core.Path.{◌≡◌, refl, sym, ap, ◌∙◌}
use native.Mathlib.Nat.{min-eq_left}
use native.Mathlib.Omega.{arith}
use borrow.Author.Tests.{lt-ltb, le-ltb, lt-leb, leb-true, leb-false, eqb-true}
use lib.Dec.{eqb, ltb, leb}
use lib.ListN.{length, get_or, drop}
use Rattle.base.proofs.Tests.{test}
use Rattle.masks.specs.Bit.{somewhere}
use Rattle.masks.proofs.Somewhere.{somewhere_first}
use Rattle.ic3.specs.Model.{least}
use Rattle.ic3.specs.Search.{level_of, R, Phase, look, wanted}
use Rattle.ic3.proofs.Least.{least_same}
use Rattle.ic3.specs.Shape.{Tidy}
use Rattle.system.specs.System.{System, model}
use Rattle.look.specs.Excluded.{excluded}
use Rattle.question.specs.Question.{inside, bad_in, step_in}
use Rattle.question.specs.Stored.{stored}

-- the first entry, or a later one; with no level beside it, it has every level
pub excluded_first : (i x : ℕ) (states levels : List ℕ) (s : ℕ)
    → excluded i (x ∷ states) levels s ≡ ((eqb x s && leb i (get_or levels 0 i)) || excluded i states (drop 1 levels) s)
unfolding excluded
excluded_first i x states [] s = somewhere_first (length states) _
excluded_first i x states (k ∷ levels) s = somewhere_first (length states) _

-- in a tidy store a state is excluded exactly if its level is i + 1 or more
excluded_level : (i : ℕ) (states levels : List ℕ) → length states ≤ length levels → Tidy (stored states levels)
    → (s : ℕ) → excluded (suc i) states levels s ≡ leb (suc i) (level_of (stored states levels) s)
unfolding excluded somewhere level_of stored
excluded_level i [] levels h w s = sym (lt-leb (suc i) 0 (omega arith))
excluded_level i (x ∷ states) [] h w s = absurd (omega arith)
excluded_level i (x ∷ states) (k ∷ levels) h w s =
    let rest = excluded_level i states levels (omega arith) w.2 s in
    excluded_first (suc i) x states (k ∷ levels) s
    ∙ test (eqb x s)
    (λ e.
    let gone : excluded (suc i) states levels s ≡ false =
    rest ∙ lt-leb (suc i) _ (omega (arith, ap (level_of (stored states levels)) (sym (eqb-true x s e)) ∙ w.1)) in
    rw (e, level_of, gone) (or-false (leb (suc i) k)))
    (λ e. rw (e, level_of) rest)

-- R(i) is the same set
pub inside_R : (y : System) (states levels : List ℕ) → length states ≤ length levels → Tidy (stored states levels)
    → (i s : ℕ) → inside y.start states levels i s ≡ R (model y) (level_of (stored states levels)) i s
unfolding inside R model
inside_R y states levels h w zero s = refl
inside_R y states levels h w (suc i) s =
    ap not (excluded_level i states levels h w s) ∙ below (level_of (stored states levels) s)
  where
    below : (k : ℕ) → not (leb (suc i) k) ≡ ltb k (suc i)
    below k =
        test (leb (suc i) k)
        (λ e. rw (e, le-ltb k (suc i) (leb-true (suc i) k e)))
        (λ e. rw (e, lt-ltb k (suc i) (leb-false (suc i) k e)))

module _ (y : System) (states levels : List ℕ) (n≤32 : y.n ≤ 32)
    (h : length states ≤ length levels) (w : Tidy (stored states levels)) where
  -- of the same set, with the same further condition, the least state is the same
  same_least : (i : ℕ) (q : ℕ → Bool)
      → least (2 ^ min y.n 32) (λ s. inside y.start states levels i s && q s)
      ≡ least (model y).size (λ s. R (model y) (level_of (stored states levels)) i s && q s)
  unfolding model
  same_least i q =
      rw (min-eq_left n≤32) (least_same (2 ^ y.n) _ _ (λ s b. ap (λ x. x && q s) (inside_R y states levels h w i s)))

  -- the question of steps 1 and 2
  pub bad_asked : (i : ℕ)
      → bad_in y.n y.w y.start y.bad states levels i 0 ≡ least (model y).size (wanted (model y) i (stored states levels) look)
  unfolding bad_in wanted model
  bad_asked i = same_least i (model y).bad

  -- the question of steps 3 and 4, in each phase that asks for a state of R(i) which steps to t
  pub step_asked : (N i t : ℕ) (p : Phase)
      → wanted (model y) N (stored states levels) p ≡ (λ s. R (model y) (level_of (stored states levels)) i s && (model y).step s t)
      → step_in y.n y.w y.start y.step states levels i t 0 ≡ least (model y).size (wanted (model y) N (stored states levels) p)
  unfolding step_in model
  step_asked N i t p e = rw e (same_least i (λ s. (model y).step s t))

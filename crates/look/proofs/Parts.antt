-- A word fulfils the condition only if each of its three parts holds of it; so what a look at one part says, it says of the condition. Assumes
-- nothing.
use Prim.Native.Nat.{ℕ, zero, suc, ◌^◌, ◌<◌}
use mathlib.Core.Bool.{Bool, not, and-false, or-false}
use mathlib.Core.List.{List, []}
use mathlib.Core.Path.{◌≡◌, refl}
use native.Mathlib.Nat.{mod-eq_of_lt, div-eq_of_lt}
use native.Mathlib.Omega.{arith}
use Rattle.masks.specs.Bit.{somewhere}
use Rattle.system.specs.System.{list_true}
use Rattle.look.specs.Excluded.{excluded}
use Rattle.look.specs.Condition.{state_of, word_true, allowed, Condition, condition, region, lent, outside, fulfils}
use Rattle.look.specs.Look.{Scanned}
use Rattle.std.specs.Borrow.{Bor}
use Rattle.look.specs.declared.Look.{Look}
use Rattle.look.specs.declared.Region.{Region}
use Rattle.look.specs.declared.Settled.{Settled}
use Rattle.look.proofs.Looks.{scanned_by}

module _ (c : Condition) (s : Settled) (r : Look) where
  abbrev Says : (ℕ → Bool) → Type 0
  Says P = Scanned P s r

  pub by_low : Says (λ w. word_true c.low (state_of w)) → Says (fulfils c)
  unfolding fulfils
  by_low = scanned_by _ (fulfils c) (λ w e. rw e) s r

  pub by_whole : Says (word_true c.whole) → Says (fulfils c)
  unfolding fulfils
  by_whole = scanned_by _ (fulfils c) (λ w e. rw e (and-false (word_true c.low (state_of w)))) s r

  pub by_states : Says (allowed c.states c.levels c.i) → Says (fulfils c)
  unfolding fulfils
  by_states =
      scanned_by _ (fulfils c)
      (λ w e. rw (e, and-false (word_true c.whole w)) (and-false (word_true c.low (state_of w)))) s r

-- R(0) is asked for by the start list, and what lies above by the stored states
module _ (within whole levels : List ℕ) where
  pub region_start : (i : ℕ) → i ≡ 0 → region within whole levels i ≡ condition within whole [] levels i
  region_start zero e = refl
  region_start (suc i) e = absurd (omega arith)

  pub region_stored : (i : ℕ) → (i ≡ 0 → ⊥) → region within whole levels i ≡ condition [] whole within levels i
  region_stored zero f = absurd (f refl)
  region_stored (suc i) f = refl

  -- of the whole word both ask the same
  pub region_whole : (i : ℕ) → (region within whole levels i).whole ≡ whole
  region_whole zero = refl
  region_whole (suc i) = refl

  -- a state outside R(0), or outside what lies above
  pub outside_start : (i : ℕ) → i ≡ 0 → (s : ℕ) → s < 2 ^ 32 → outside (region within whole levels i) s ≡ not (list_true within s 0)
  unfolding outside word_true excluded somewhere
  outside_start zero e s h =
      let b : s < 2 ^ 64 = omega arith in
      rw (mod-eq_of_lt b, div-eq_of_lt b) (or-false (not (list_true within s 0)))
  outside_start (suc i) e s h = absurd (omega arith)

  pub outside_stored : (i : ℕ) → (i ≡ 0 → ⊥) → (s : ℕ) → outside (region within whole levels i) s ≡ excluded i within levels s
  unfolding outside word_true list_true
  outside_stored zero f s = absurd (f refl)
  outside_stored (suc i) f s = refl

-- of a lent region too
pub lent_whole : (r : Region) (whole : Bor (List ℕ)) → (lent r whole).whole ≡ whole.now
lent_whole r whole = region_whole r.within.now whole.now r.levels.now r.i

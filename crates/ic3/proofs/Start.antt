-- What the first question shows holds of every ending: the turns begin only where there is a start state, and no turn ends for want of one. Assumes
-- nothing.
use Prim.Native.Nat.{ℕ, zero, suc, ◌≤◌, ◌<◌}
use mathlib.Core.List.{List}
use mathlib.Core.Option.{Option, none, some}
use native.Mathlib.Omega.{arith}
use Rattle.ic3.specs.Theorems.{Started}
use Rattle.ic3.specs.Answers.{Answers}
use Rattle.ic3.specs.Model.{Model}
use Rattle.ic3.specs.Search.{Entry, put, Phase, look, settle, raise, wanted, Move, Rounds, tested, found, deeper, react, begun, searched}
use Rattle.ic3.specs.Demands.{HasStart}
use Rattle.ic3.proofs.Round.{Lands, round_lands, tested_lands, kept_lands}
use Rattle.ic3.proofs.Sound.{Kept, Stands, Then, search_keeps}

module _ (r : Rounds) (M : Model) (room allowance : ℕ) where
  abbrev C : ℕ → List Entry → Phase → ℕ → Type 0
  C N st ph q = HasStart M

  abbrev P : ℕ → Move → Type 0
  P = Then M r room allowance C (λ v q. Started M allowance v)

  round_started : (N : ℕ) (st : List Entry) (i q : ℕ) → HasStart M → Lands (P q) N st i
  round_started N st i q h = record { next_level = λ j s todo a b e g. h; gap = λ j a b t g. h; again = λ e t. h }

  tested_started : (N : ℕ) (st : List Entry) (i : ℕ) (todo : List ℕ) (q : ℕ) → 1 ≤ i → i < N → HasStart M → P q (tested r N st i todo)
  tested_started N st i todo q o l h =
      tested_lands (P q) N st r i todo o l
      (record { same_level = λ s rest e g k. h; next_levels = λ k. round_started N st (suc i) q h })

  react_started : (N : ℕ) (st : List Entry) (ph : Phase) (o : Option ℕ) (q : ℕ) → Kept M N st → Stands M N st ph
      → Answers M.size (wanted M N st ph) o → HasStart M → P (suc q) (react r room N st ph o)
  unfolding react found deeper
  react_started zero st look (some s) q K w a h = h
  react_started (suc k) st look (some s) q K w a h = h
  react_started N st look none q K w a h =
      round_lands (P (suc q)) (suc N) st r N 1 (omega arith) (omega arith) (round_started (suc N) st 1 (suc q) h)
  react_started N st (settle zero s ds) (some t) q K w a h = h
  react_started N st (settle (suc k) s ds) (some t) q K w a h = h
  react_started N st (settle k s ds) none q K w a h = kept_lands (P (suc q)) room N (put st s (suc k)) k ds (λ f. h) (λ f. h)
  react_started N st (raise i s todo) (some t) q K w a h = tested_started N st i todo (suc q) w.above w.below h
  react_started N st (raise i s todo) none q K w a h = tested_started N (put st s (suc i)) i todo (suc q) w.above w.below h

  pub started : Started M allowance (searched r M room allowance).verdict
  unfolding begun searched
  started =
      search_keeps M r room allowance C (λ v q. Started M allowance v) react_started (λ N st ph K w h l. h) (λ e l. absurd (omega arith)) (λ l n. (l, n))
      (λ h. h)

-- What the search sees of a system, and what it asks. It knows no masks: another way to write systems changes only the map to models.
use Rattle.std.specs.Prelude.{ℕ, zero, suc, Bool, true, false, eqb}
use Rattle.std.proofs.Math.Option.{Option, none, some}

-- The states are the numbers below `size`; `step s t` says that s can step to t.
pub record Model : Type 0 where
  pub size : ℕ
  pub start : ℕ → Bool
  pub step : ℕ → ℕ → Bool
  pub bad : ℕ → Bool

-- A question asks for the least state, as a number, that fulfils a condition, or says that none exists.
unfoldable pub least : ℕ → (ℕ → Bool) → Option ℕ
least zero p = none
least (suc k) p = elim (least k p) [ some s ↦ some s | none ↦ elim (p k) [ true ↦ some k | false ↦ none ] ]

-- what is stored holds a state: it is that state
abbrev pub holds : ℕ → ℕ → Bool
holds stored s = eqb stored s

-- Two models with the same states that are start, step and bad alike: what is shown of one holds of the other.
use Rattle.std.specs.Prelude.{ℕ, ◌<◌, ◌≡◌}
use Rattle.ic3.specs.Model.{Model}

pub record Agree (M N : Model) : Type 0 where
  pub size : M.size ≡ N.size
  pub start : (s : ℕ) → s < M.size → M.start s ≡ N.start s
  pub step : (s t : ℕ) → s < M.size → t < M.size → M.step s t ≡ N.step s t
  pub bad : (s : ℕ) → s < M.size → M.bad s ≡ N.bad s

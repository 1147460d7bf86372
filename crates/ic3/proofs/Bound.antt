-- Demand 3. There is exactly one m (Number), and with it the exact bound holds (Exact), which is the smaller, with full rounds and with shortened ones:
-- 2 m m + 2 m + 2 and 3, and 3 + 3 (1 + .. + m), are at most 3 (m + 2) (m + 2), and what holds with a bound holds with a greater one. Assumes nothing.
use Prim.Native.Nat.{ℕ, ◌+◌, ◌*◌, ◌≤◌}
use native.Mathlib.Omega.{arith}
use native.Mathlib.Nat.{mul-add, add-mul}
use Rattle.ic3.specs.Theorems.{Bounded, Demand3}
use Rattle.ic3.specs.Model.{Model}
use Rattle.ic3.specs.Search.{Rounds, full, shortened}
use Rattle.ic3.specs.Demands.{Doomed, Number}
use Rattle.ic3.specs.Exact.{exact}
use Rattle.ic3.proofs.Number.{number_unique, doomed_number}
use Rattle.ic3.proofs.ExactSums.{up_to_twice}
use Rattle.ic3.proofs.Exact.{exact_bound}

smaller : (r : Rounds) (m : ℕ) → exact r m ≤ 3 * ((m + 2) * (m + 2))
smaller full m = omega (arith, mul-add (m + 2) m 2, add-mul m 2 m)
smaller shortened m = omega (arith, up_to_twice m, mul-add (m + 2) m 2, add-mul m 2 m)

pub bound : (r : Rounds) (M : Model) (m : ℕ) → Number (Doomed M) m → Bounded r M m (3 * ((m + 2) * (m + 2)))
bound r M m D =
    let b = exact_bound M m D r in
    let l : exact r m ≤ 3 * ((m + 2) * (m + 2)) = smaller r m in
    record {
      few = λ room allowance. omega (arith, b.few room allowance);
      answers = λ s room allowance h g. b.answers s room allowance h (omega arith);
    }

pub demand_3 : (r : Rounds) (M : Model) → Demand3 r M
demand_3 r M = record { exists = doomed_number M; unique = number_unique; bounded = bound r M }

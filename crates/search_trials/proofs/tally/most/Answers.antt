-- `search_trials::tally::most` is safe and ends. A product of two numbers that are no greater is no greater. Assumes nothing.
use Rattle.std.proofs.Common.{◌+◌, ◌*◌, ◌%◌, ◌≤◌, mul-le-mul, arith}
use Rattle.search_trials.proofs.tally.most.Goals as goal

pub overflow_mul-result-2 : goal.overflow_mul-result-2
overflow_mul-result-2 c =
    let side = c.args.m % 1025 + 2 in
    let h : 3 * side * side ≤ 3078 * 1026 = mul-le-mul {n₂ = 3078} {m₂ = 1026} (omega arith) (omega arith) in
    omega (arith, h)

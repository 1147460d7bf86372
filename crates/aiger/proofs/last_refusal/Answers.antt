-- `aiger::last_refusal` meets its contract: the tests are made in their order, and each return knows that those before it were false. Assumes
-- nothing.
use lib.ListN.{take}
use native.Mathlib.Omega.{arith}
use Rattle.aiger.proofs.Slices.{many_latches}
use Rattle.aiger.proofs.Judging.{starts_most}
use Rattle.aiger.specs.Inner.{latch_rows, last_refusal}
use Rattle.aiger.proofs.Threes.{flat_length}
use Rattle.aiger.proofs.Finding.{fixed_many}
use borrow.Author.Rules.{rules}
use Rattle.aiger.proofs.last_refusal.Goals as goal

pub returns-then-h-eq0-2 : goal.returns-then-h-eq0-2
unfolding last_refusal
returns-then-h-eq0-2 c = search rules

pub overflow_mul-fixed_starts : goal.overflow_mul-fixed_starts
overflow_mul-fixed_starts c =
    let f = c.args.rows.fits in
    omega (
      arith,
      rw c.latches.ensures at c.fixed_starts.ensures,
      fixed_many (take c.args.rows.latch_count c.args.rows.all.now),
      starts_most (latch_rows c.args.rows) (omega (arith, f.most, many_latches f, flat_length (take c.args.rows.latch_count c.args.rows.all.now))),
    )

pub returns-then-too_short : goal.returns-then-too_short
unfolding last_refusal
returns-then-too_short c =
    let many = rw (← c.latches.ensures, ← c.fixed_starts.ensures) at (fixed_many (take c.args.rows.latch_count c.args.rows.all.now)) in
    search (rules, many)

pub returns-then-h-gt4096 : goal.returns-then-h-gt4096
unfolding last_refusal
returns-then-h-gt4096 c =
    let many = rw (← c.latches.ensures, ← c.fixed_starts.ensures) at (fixed_many (take c.args.rows.latch_count c.args.rows.all.now)) in
    search (rules, many)

pub returns : goal.returns
unfolding last_refusal
returns c =
    let many = rw (← c.latches.ensures, ← c.fixed_starts.ensures) at (fixed_many (take c.args.rows.latch_count c.args.rows.all.now)) in
    search (rules, many)

-- `Lent::judge` meets its contract: a gap below N makes the answer safe, and with none comes step 2. Assumes nothing.
use mathlib.Core.Path.{sym}
use native.Mathlib.Omega.{arith}
use Rattle.search.proofs.Rounds.{judge_safe, judge_again}
use borrow.Author.Rules.{rules}
use Rattle.search.proofs.store.Lent.judge.Goals as goal

pub returns-then-i-c : goal.returns-then-i-c
returns-then-i-c c = record { onward = sym (judge_safe _ _ _ _ _ c.gap-i.ensures (omega arith)); bounded = search rules }

pub returns : goal.returns
returns c =
    rw c.at.ensures (record { onward = sym (judge_again _ _ _ _ _ c.gap-i.ensures (omega arith) (omega arith)); bounded = tt })

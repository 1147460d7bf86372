-- `house::enter::put` meets its contract: where there is room for a clause more, it is written behind the list. Assumes nothing.
use native.Mathlib.Omega.{arith}
use lib.ListN.{length-set}
use Rattle.house.proofs.Lying.{put_not, put_done}
use Rattle.house.proofs.enter.put.Goals as goal

pub returns-then-store-lt4 : goal.returns-then-store-lt4
returns-then-store-lt4 c = put_not _ _ _ _ (omega arith)

pub returns-then-store-count : goal.returns-then-store-count
returns-then-store-count c = put_not _ _ _ _ (omega arith)

pub bounds-store-count-2 : goal.bounds-store-count-2
bounds-store-count-2 c = simp length-set (omega arith)

pub shape_of-store : goal.shape_of-store
shape_of-store c = simp length-set

pub returns : goal.returns
returns c = put_done _ _ _ _ c.requires (omega arith)

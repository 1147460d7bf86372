-- `stores::clear_behind` meets its contract: the tail that was lent comes back as zeros, with the front before it as it was. Assumes nothing.
use native.Mathlib.Omega.{arith}
use Rattle.stores.proofs.Clearing.{tail_cleared, tail_none}
use Rattle.stores.proofs.clear_behind.Goals as goal

pub returns-then-front-store : goal.returns-then-front-store
returns-then-front-store c =
    tail_cleared c.args.front c.args.store.now _ (omega arith) c.clear.ensures

pub returns-else-front-store : goal.returns-else-front-store
returns-else-front-store c =
    tail_none c.args.front c.args.store.now (omega arith)

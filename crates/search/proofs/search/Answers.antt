-- `search::search` meets its contract: a refusal leaves the stores untouched, and else the run ends as the definition's and is closed. Assumes
-- nothing.
use mathlib.Core.Bool.{Bool, false}
use mathlib.Core.Path.{◌≡◌, sym, ◌∙◌}
use Rattle.base.proofs.Refusals.{number_not_none}
use Rattle.system.specs.System.{System, refusal_of}
use Rattle.call.specs.Call.{Stores, wrong_stores, refused}
use Rattle.call.proofs.Call.{refused_stores}
use Rattle.search.proofs.Promising.{system_promised, stores_promised, lends, searched_promised, promised_same}
use Rattle.search.proofs.Turns.{same_lengths}
use Rattle.search.proofs.Closing.{stores_same}
use borrow.Author.Rules.{rules}
use Rattle.search.proofs.search.Goals as goal

-- behind both tests nothing is refused
accepted : (y : System) (s : Stores) {b : Bool} → 0 ≡ refusal_of y → b ≡ wrong_stores s → b ≡ false → refused y s ≡ 0
accepted y s e f g = refused_stores y s {b = false} (sym e) (sym f ∙ g)

pub returns-in-Err : goal.returns-in-Err
returns-in-Err c = rw c.into.ensures (system_promised _ _ _ _ c.in-Err.ensures (number_not_none _))

pub returns-then-wrong_stores : goal.returns-then-wrong_stores
returns-then-wrong_stores c =
    rw c.into-then-wrong_stores.ensures
    (stores_promised _ _ _ (sym c.in_default.ensures) (sym c.wrong_stores.ensures ∙ c.if-wrong_stores.true))

pub searched-ending-requires : goal.searched-ending-requires
searched-ending-requires c =
    lends _ _ (accepted _ _ c.in_default.ensures c.wrong_stores.ensures c.if-wrong_stores.false)

pub returns : goal.returns
returns c =
    let none = accepted _ _ c.in_default.ensures c.wrong_stores.ensures c.if-wrong_stores.false in
    let run = c.searched-ending.ensures in
    let all = searched_promised _ _ none run.ends (same_lengths run.slices) c.close.ensures.closes in
    promised_same (stores_same (search rules) (search rules) (search rules)) all

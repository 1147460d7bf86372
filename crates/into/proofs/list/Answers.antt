-- `into::list` meets its contract: a refusal leaves the store as it is, and past the refusals the store is filled. Assumes nothing.
use mathlib.Core.Path.{sym}
use Rattle.into.proofs.Telling.{refused_small, promised_refused, promised_filled}
use Rattle.into.proofs.list.Goals as goal

pub returns-in-Err : goal.returns-in-Err
returns-in-Err c = promised_refused _ _ _ _ c.in-Err.ensures

pub fill-requires : goal.fill-requires
fill-requires c = refused_small _ _ (sym c.in_default.ensures)

pub returns : goal.returns
returns c = promised_filled _ _ _ _ _ (sym c.in_default.ensures) c.fill.ensures

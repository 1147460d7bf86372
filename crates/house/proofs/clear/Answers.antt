-- `house::clear` meets its contract: zeros are what lies over an empty list. Assumes nothing.
use Rattle.house.proofs.Reading.{stores_cleared}
use Rattle.house.proofs.clear.Goals as goal

pub returns-clause-lists : goal.returns-clause-lists
returns-clause-lists c =
    stores_cleared _ _ _ _ _ _ c.clear.ensures c.clear-2.ensures c.clear-3.ensures

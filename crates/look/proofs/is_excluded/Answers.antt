-- `look::is_excluded` meets its contract. The chain tests each entry with its index, as the definition does. Assumes nothing.
use mathlib.Core.Path.{◌∙◌}
use mathlib.Core.Bool.{◌&&◌}
use Rattle.std.proofs.Common.{rules, tests, ℕ, leb, nat_eq, get_or}
use Rattle.std.proofs.lemmas.Iterator.{YieldsList-from_slice}
use Rattle.std.proofs.lemmas.Iterator.Consumers.{YieldsList-from_enumerate}
use Rattle.std.proofs.lemmas.Iterator.Search.{any_from_yields_List}
use Rattle.look.proofs.States.{any_from}
use Rattle.look.proofs.is_excluded.Goals as goal

pub returns : goal.returns
returns c =
    let a = c.args in
    any_from_yields_List (λ (p : ℕ × ℕ). nat_eq p.1 a.s && leb a.r.now.i (get_or a.r.now.levels.now p.0 a.r.now.i)) _ _ _ c.any.ensures.ran
    (YieldsList-from_enumerate (YieldsList-from_slice a.r.now.within.now (cc)) (cc)) (λ x b q k. search (rules, tests))
    ∙ any_from a.r.now.i a.r.now.within.now a.r.now.levels.now a.s

-- The stores are cleared, then the lines are taken. The answer is the definition's, since what a text says depends on the stores' lengths alone.
-- After a refusal the stores are cleared again, as the definition leaves them. Assumes nothing.
use Prim.Native.Nat.{ℕ}
use mathlib.Core.List.{List, []}
use mathlib.Core.Path.{◌≡◌, refl, sym, ap, ◌∙◌}
use native.Mathlib.Omega.{arith}
use lib.ListN.{length, replicate}
use Rattle.std.specs.Prelude.{Ok, Err}
use Rattle.base.specs.Numbers.{number_of}
use Rattle.base.specs.declared.Fault.{Fault}
use Rattle.stores.proofs.Over.{over_length, over_none}
use Rattle.stores.specs.Over.{over}
use Rattle.house.specs.File.{Said, file, refused, said}
use Rattle.stores.specs.Lists.{Lists, lists, filled}
use Rattle.house.specs.Promise.{rooms_of, Report, Result, result_of, Reads}
use Rattle.house.specs.Inner.{lists_of, Lie, reading_of, Same, nothing, Took}
use Rattle.house.specs.declared.enter.Lent.{Lent}
use Rattle.house.specs.declared.enter.Reading.{Reading}
use Rattle.stores.proofs.Lying.{lies_none}
use Rattle.house.proofs.Taking.{rooms_same, same_then, took_lists, took_house}

-- ---- clearing
-- three stores of zeros
pub stores_cleared : (start step bad start' step' bad' : List ℕ)
    → start' ≡ replicate (length start) 0 → step' ≡ replicate (length step) 0 → bad' ≡ replicate (length bad) 0
    → lists start' step' bad' ≡ filled (lists start step bad) [] [] []
unfolding filled
stores_cleared start step bad start' step' bad' e f g = rw (e, f, g) (rw (over_none start, over_none step, over_none bad))

module _ (before after : Lists) (e : after ≡ filled before [] [] []) where
  -- as long as they were
  cleared_same : Same before after
  unfolding filled
  cleared_same =
      rw (e, filled) (record {
        start = over_length [] before.start (omega arith);
        step = over_length [] before.step (omega arith);
        bad = over_length [] before.bad (omega arith);
      })

  -- nothing lies in them
  pub cleared_lie : Lie nothing after
  unfolding filled
  cleared_lie =
      rw (e, filled) (record {
        most = omega arith;
        start = lies_none before.start;
        step = lies_none before.step;
        bad = lies_none before.bad;
      })

-- ---- the result
-- stores of the same lengths
filled_same : (a b : Lists) → Same a b → filled b [] [] [] ≡ filled a [] [] []
unfolding filled over
filled_same a b e = rw (e.start, e.step, e.bad)

result_same : (a b : Lists) (s : Said) → Same a b → result_of b s ≡ result_of a s
unfolding result_of filled over
result_same a b (file r) e = rw (e.start, e.step, e.bad)
result_same a b (refused number line) e = rw (e.start, e.step, e.bad)

result_of_lem : (r : Result) (house : Report) (after : Lists) → house ≡ r.house → after ≡ r.after
    → ◌≡◌ {A = Result} (record { house = house; after = after }) r
result_of_lem r house after e f = rw (e, f)

module _ (text : List ℕ) (before cleared after : Lists) (e : cleared ≡ filled before [] [] []) where
  -- what is told of the cleared stores is told of those that were lent
  told : (s : Said) → said (rooms_of cleared) text ≡ s → result_of cleared s ≡ result_of before (said (rooms_of before) text)
  told s f =
      let same = cleared_same before cleared e in
      result_same before cleared s same ∙ ap (result_of before) (sym f ∙ rw (rooms_same before cleared same))

  -- a file
  pub reads_file : (r : Reading) → Took text cleared (Ok r) after
      → Reads text before (record { number = 0; line = 0; n = r.n; start = r.start; step = r.step; bad = r.bad }) after
  reads_file r t =
      record { equation = result_of_lem _ _ after (took_house t) (took_lists t) ∙ told (file (reading_of r after)) t.tells.1 }

  -- a refusal, and the stores are cleared again
  pub reads_refused : (f : Fault) → Took text cleared (Err f) after → (last : Lists) → last ≡ filled after [] [] []
      → Reads text before (record { number = number_of f.refusal; line = f.line; n = 0; start = 0; step = 0; bad = 0 }) last
  unfolding result_of
  reads_refused f t last g =
      let s = same_then before cleared after (cleared_same before cleared e) t.same in
      record {
        equation = result_of_lem (result_of before (refused (number_of f.refusal) f.line)) _ last refl (g ∙ filled_same before after s)
            ∙ ap (result_of before) (rw (rooms_same before cleared (cleared_same before cleared e)) at (sym t.tells));
      }

-- what the three stores hold that were lent together, each holds
pub reads_lent : (text : List ℕ) (before : Lists) (house : Report) (start step bad : List ℕ) (into : Lent)
    → start ≡ into.start.now → step ≡ into.step.now → bad ≡ into.bad.now → Reads text before house (lists_of into)
    → Reads text before house (lists start step bad)
reads_lent text before house start step bad into e f g r = rw (e, f, g) r

-- What a line says, entered. A clause goes behind the list of its kind, and the other two lists stay; the room that the code finds is the
-- definition's. The size and the count of clause lines change no list. Assumes nothing.
use Prim.Native.Nat.{ℕ, ◌+◌, ◌≤◌, ◌<◌}
use mathlib.Core.Bool.{Bool, true, false, ◌&&◌}
use mathlib.Core.List.{List}
use mathlib.Core.Path.{◌≡◌, refl, ap}
use native.Mathlib.Numerals.{add-one}
use native.Mathlib.Omega.{arith}
use borrow.Author.Tests.{ltb-true, eq-eqb, ne_eqb, le-ltb, lt-ltb}
use lib.Dec.{ltb}
use Rattle.std.specs.Prelude.{Ok, Err}
use Rattle.stores.specs.Lies.{Lies}
use Rattle.base.specs.Numbers.{number_of}
use Rattle.base.specs.declared.Refusal.{Refusal}
use Rattle.base.specs.declared.Refusal.TheVariants as refusal
use Rattle.line.specs.Says.{Line, Size, Clause, Count, Wrong}
use Rattle.house.specs.File.{on, refuse, clause_of, room_for, with_clause, taken_as}
use Rattle.stores.specs.Lists.{Lists, lists}
use Rattle.house.specs.Promise.{rooms_of}
use Rattle.house.specs.Inner.{PutAs, Lie, reading_of, one_more, Same, Leads, Enters}
use Rattle.house.specs.declared.enter.Reading.{Reading}
use Rattle.house.proofs.Lying.{put_room}

-- the stores are as they were
pub same_refl : (l : Lists) → Same l l
same_refl l = record { start = refl; step = refl; bad = refl }

-- ---- the code's tests of a clause more
module _ (room : Bool) (stage : ℕ) (r : Reading) (start step bad : ℕ) where
  pub more_last : 1024 ≤ r.clauses → Err refusal.Room ≡ one_more room stage r start step bad
  unfolding one_more
  more_last h = rw (le-ltb r.clauses 1024 h, one_more)

  pub more_on : r.clauses < 1024 → room ≡ true
      → Ok (record { stage = stage; n = r.n; clauses = r.clauses + 1; start = start; step = step; bad = bad }) ≡ one_more room stage r start step bad
  unfolding one_more
  more_on h e = rw (e, lt-ltb r.clauses 1024 h, one_more)

  pub more_full : r.clauses < 1024 → room ≡ false → Err refusal.Room ≡ one_more room stage r start step bad
  unfolding one_more
  more_full h e = rw (e, lt-ltb r.clauses 1024 h, one_more)

-- ---- a clause
module _ (r : Reading) (l : Lists) (kind ones zeros : ℕ) where
  -- the stores and counts after it, if there was room
  record Grows (room : Bool) (stage start step bad : ℕ) (after : Lists) : Type 0 where
    found : room_for (rooms_of l) (reading_of r l) kind ≡ room
    same : Same l after
    lie : room ≡ true → Lies start after.start × Lies step after.step × Lies bad after.bad
    reading : room ≡ true → reading_of (record { stage = stage; n = r.n; clauses = r.clauses + 1; start = start; step = step; bad = bad }) after
        ≡ with_clause (reading_of r l) kind (clause_of ones zeros)

  clause_put : (room : Bool) (stage start step bad : ℕ) (after : Lists) → Grows room stage start step bad after
      → Enters r (Clause kind ones zeros) l (one_more room stage r start step bad) after
  unfolding one_more
  clause_put room stage start step bad after g = rw (g.found, taken_as) (pick (ltb r.clauses 1024) room refl refl)
    where
      pick : (few has : Bool) → ltb r.clauses 1024 ≡ few → room ≡ has
          → Leads (elim (few && has) [ true ↦ on (with_clause (reading_of r l) kind (clause_of ones zeros)) | false ↦ refuse 12 ]) l
          (elim (few && has) [
            | true ↦ Ok (record { stage = stage; n = r.n; clauses = r.clauses + 1; start = start; step = step; bad = bad })
            | false ↦ Err refusal.Room
          ])
          after
      pick true true t e =
          let w = g.lie e in
          record {
            same = g.same;
            leads = ap on (g.reading e);
            lies = record { most = omega (arith, ltb-true r.clauses 1024 t); start = w.0; step = w.1; bad = w.2 };
          }
      pick true false t e = record { same = g.same; leads = refl; lies = tt }
      pick false has t e = record { same = g.same; leads = refl; lies = tt }

-- each kind's list
module _ {r : Reading} {start step bad : List ℕ} (w : Lie r (lists start step bad)) {kind ones zeros : ℕ} {room : Bool} where
  pub start_put : {start' : List ℕ} → kind ≡ 1 → PutAs start r.start ones zeros room start'
      → Enters r (Clause kind ones zeros) (lists start step bad) (one_more room 1 r (r.start + 4) r.step r.bad) (lists start' step bad)
  unfolding room_for with_clause
  start_put {start'} e g =
      clause_put r (lists start step bad) kind ones zeros room 1 (r.start + 4) r.step r.bad (lists start' step bad)
      (record {
        found = rw e (put_room start r.start ones zeros room start' w.start g);
        same = record { start = g.same; step = refl; bad = refl };
        lie = λ t. (g.lies t, w.step, w.bad);
        reading = λ t. rw (e, g.list t, add-one);
      })

  pub step_put : {step' : List ℕ} → kind ≡ 2 → PutAs step r.step ones zeros room step'
      → Enters r (Clause kind ones zeros) (lists start step bad) (one_more room 2 r r.start (r.step + 4) r.bad) (lists start step' bad)
  unfolding room_for with_clause
  step_put {step'} e g =
      clause_put r (lists start step bad) kind ones zeros room 2 r.start (r.step + 4) r.bad (lists start step' bad)
      (record {
        found = rw e (put_room step r.step ones zeros room step' w.step g);
        same = record { start = refl; step = g.same; bad = refl };
        lie = λ t. (w.start, g.lies t, w.bad);
        reading = λ t. rw (e, g.list t, add-one);
      })

  pub bad_put : {bad' : List ℕ} → (kind ≡ 1 → ⊥) → (kind ≡ 2 → ⊥) → PutAs bad r.bad ones zeros room bad'
      → Enters r (Clause kind ones zeros) (lists start step bad) (one_more room 3 r r.start r.step (r.bad + 4)) (lists start step bad')
  unfolding room_for with_clause
  bad_put {bad'} e f g =
      clause_put r (lists start step bad) kind ones zeros room 3 r.start r.step (r.bad + 4) (lists start step bad')
      (record {
        found = rw (ne_eqb kind 1 e, ne_eqb kind 2 f, room_for) (put_room bad r.bad ones zeros room bad' w.bad g);
        same = record { start = refl; step = refl; bad = g.same };
        lie = λ t. (w.start, w.step, g.lies t);
        reading = λ t. rw (ne_eqb kind 1 e, ne_eqb kind 2 f, g.list t, add-one, with_clause);
      })

-- ---- what is no clause
module _ {r : Reading} {l : Lists} (w : Lie r l) {said : Line} where
  pub size_read : {n : ℕ} → said ≡ Size n
      → Enters r said l (Ok (record { stage = 1; n = n; clauses = r.clauses; start = r.start; step = r.step; bad = r.bad })) l
  size_read e =
      rw e (record { same = same_refl l; leads = refl; lies = record { most = w.most; start = w.start; step = w.step; bad = w.bad } })

  pub count_right : {count : ℕ} → said ≡ Count count → count ≡ r.clauses
      → Enters r said l (Ok (record { stage = 16; n = r.n; clauses = r.clauses; start = r.start; step = r.step; bad = r.bad })) l
  count_right {count} e f =
      rw e (record {
        same = same_refl l;
        leads = rw (eq-eqb count r.clauses f, taken_as);
        lies = record { most = w.most; start = w.start; step = w.step; bad = w.bad };
      })

  pub count_wrong : {count : ℕ} → said ≡ Count count → (count ≡ r.clauses → ⊥) → Enters r said l (Err refusal.Count) l
  count_wrong {count} e f = rw e (record { same = same_refl l; leads = rw (ne_eqb count r.clauses f, taken_as); lies = tt })

  pub line_wrong : (f : Refusal) → said ≡ Wrong (number_of f) → Enters r said l (Err f) l
  line_wrong f e = rw e (record { same = same_refl l; leads = refl; lies = tt })

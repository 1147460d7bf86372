-- Line after line. What is left of the text, from where reading stands, says what the whole text says, until a line is refused or the text ends.
-- Assumes nothing.
use Prim.Native.Nat.{ℕ, suc, ◌+◌, ◌-◌, ◌≤◌, ◌<◌}
use mathlib.Core.List.{List, [], ◌∷◌}
use mathlib.Core.Path.{◌≡◌, refl, sym, ◌∙◌}
use native.Mathlib.Numerals.{add-one}
use native.Mathlib.Omega.{arith}
use borrow.Author.Tests.{eq-eqb, ne_eqb}
use lib.ListN.{length, take, drop, drop_of_length-le}
use lib.Seq.{length-take-le}
use Rattle.std.specs.Prelude.{Result, Ok, Err}
use Rattle.base.specs.Numbers.{number_of}
use Rattle.base.specs.declared.Refusal.{Refusal}
use Rattle.base.specs.declared.Refusal.TheVariants.{Kind}
use Rattle.stores.proofs.Over.{over_same}
use Rattle.text.specs.Lines.{lines, line_length, LineAt}
use Rattle.text.proofs.Lines.{line_at}
use Rattle.line.specs.Says.{Line, says}
use Rattle.house.specs.File.{Rooms, on, refuse, line_taken, Said, file, refused, read_lines, said}
use Rattle.house.specs.File as file
use Rattle.stores.specs.Lists.{Lists, lists, filled}
use Rattle.house.specs.Promise.{rooms_of, result_of}
use Rattle.house.specs.Inner.{Lie, reading_of, Same, Enters, Takes, nothing, Stands, Took}
use Rattle.house.specs.declared.enter.Reading.{Reading}

-- ---- a line
-- what it says was entered, so it was taken
pub line_entered : (line : List ℕ) (r : Reading) (l after : Lists) (said : Line) (t : Result Reading Refusal) → said ≡ says line r.stage
    → Enters r said l t after → Takes r line l t after
line_entered line r l after said t s g = rw (← s) g

-- ---- all lines
-- what is said where a line leads to this
abbrev following : Rooms → List (List ℕ) → ℕ → file.Taken → Said
following rooms rest k (on r) = read_lines rooms rest (suc k) r
following rooms rest k (refuse number) = refused number k

read_line : (rooms : Rooms) (line : List ℕ) (rest : List (List ℕ)) (k : ℕ) (r : file.Reading) (t : file.Taken) → line_taken rooms r line ≡ t
    → read_lines rooms (line ∷ rest) k r ≡ following rooms rest k t
unfolding read_lines
read_line rooms line rest k r (on r') e = rw (e, read_lines)
read_line rooms line rest k r (refuse number) e = rw (e, read_lines)

read_end : (rooms : Rooms) (k : ℕ) (r : file.Reading) → r.stage ≡ 16 → read_lines rooms [] k r ≡ file r
unfolding read_lines
read_end rooms k r e = rw (eq-eqb r.stage 16 e, read_lines)

read_stop : (rooms : Rooms) (k : ℕ) (r : file.Reading) → (r.stage ≡ 16 → ⊥) → read_lines rooms [] k r ≡ refused 10 k
unfolding read_lines
read_stop rooms k r f = rw (ne_eqb r.stage 16 f, read_lines)

-- stores of the same lengths have the same rooms, and are filled alike
pub rooms_same : (before after : Lists) → Same before after → rooms_of after ≡ rooms_of before
rooms_same before after e = rw (e.start, e.step, e.bad)

pub same_then : (a b c : Lists) → Same a b → Same b c → Same a c
same_then a b c e f = record { start = f.start ∙ e.start; step = f.step ∙ e.step; bad = f.bad ∙ e.bad }

lists_same : (l : Lists) (start step bad : List ℕ) → l.start ≡ start → l.step ≡ step → l.bad ≡ bad → l ≡ lists start step bad
lists_same l start step bad e f g = rw (← e, ← f, ← g)

-- ---- where reading stands
-- nothing was read
pub stands_first : (text : List ℕ) (l : Lists) → Lie nothing l → Stands text 0 1 nothing l
unfolding said
stands_first text l w = record { within = omega arith; counted = omega arith; lie = w; rest = refl }

module _ {text : List ℕ} {i line : ℕ} {r : Reading} {l : Lists} (w : Stands text i line r l) where
  -- no line is left
  at_end : length text ≤ i → said (rooms_of l) text ≡ read_lines (rooms_of l) [] line (reading_of r l)
  unfolding lines
  at_end h = sym (rw (drop_of_length-le text h) at w.rest)

  -- the file has stopped behind 0F, or before it
  pub ended : (before : Lists) → length text ≤ i → Same before l → r.stage ≡ 16 → Took text before (Ok r) l
  ended before h same e =
      record {
        same = same;
        tells = (w.lie, rw (rooms_same before l same) at (at_end h ∙ read_end (rooms_of l) line (reading_of r l) e));
      }

  pub stopped : (before : Lists) → length text ≤ i → Same before l → (r.stage ≡ 16 → ⊥)
      → Took text before (Err (record { refusal = Kind; line = line })) l
  stopped before h same f =
      record { same = same; tells = rw (rooms_same before l same) at (at_end h ∙ read_stop (rooms_of l) line (reading_of r l) f) }

  module _ {end : ℕ} (left : i < length text) (ends : end ≡ i + line_length (drop i text)) where
    -- the line from i to its end
    pub line_here : LineAt text i (end - i)
    line_here = let len : end - i ≡ line_length (drop i text) = omega arith in rw len (line_at text i left)

    -- the rest is this line and what follows it
    first : (t : file.Taken) → line_taken (rooms_of l) (reading_of r l) (take (end - i) (drop i text)) ≡ t
        → following (rooms_of l) (lines (drop end text)) line t ≡ said (rooms_of l) text
    first t h =
        let to : i + (end - i) ≡ end = omega arith in
        sym (read_line (rooms_of l) _ _ line (reading_of r l) t h) ∙ (rw (line_here.first, to) at w.rest)

    -- the line was taken
    pub turned_on : {q : Reading} {after : Lists} → Takes r (take (end - i) (drop i text)) l (Ok q) after → Stands text end (line + 1) q after
    turned_on {q} {after} t =
        record {
          within = omega (arith, line_here.within);
          counted = omega (arith, line_here.filled, w.counted);
          lie = t.lies;
          rest = rw (rooms_same l after t.same, add-one) (first (on (reading_of q after)) (sym t.leads));
        }

    -- the line was refused
    pub turned_refused : {f : Refusal} {after : Lists} (before : Lists) → Same before l → Takes r (take (end - i) (drop i text)) l (Err f) after
        → Took text before (Err (record { refusal = f; line = line })) after
    turned_refused {f} {after} before same t =
        record {
          same = same_then before l after same t.same;
          tells = rw (rooms_same before l same) at (sym (first (refuse (number_of f)) (sym t.leads)));
        }

-- ---- the answer
pub took_lists : {text : List ℕ} {before : Lists} {r : Reading} {after : Lists} → Took text before (Ok r) after
    → after ≡ (result_of before (file (reading_of r after))).after
unfolding result_of filled
took_lists {text} {before} {r} {after} w =
    let v = w.tells.0 in
    lists_same after _ _ _ (v.start.rest ∙ over_same _ _ _ w.same.start) (v.step.rest ∙ over_same _ _ _ w.same.step)
    (v.bad.rest ∙ over_same _ _ _ w.same.bad)

pub took_house : {text : List ℕ} {before : Lists} {r : Reading} {after : Lists} → Took text before (Ok r) after
    → record { number = 0; line = 0; n = r.n; start = r.start; step = r.step; bad = r.bad } ≡ (result_of before (file (reading_of r after))).house
unfolding result_of
took_house {text} {before} {r} {after} w =
    let v = w.tells.0 in
    rw (
      length-take-le r.start after.start v.start.fits,
      length-take-le r.step after.step v.step.fits,
      length-take-le r.bad after.bad v.bad.fits,
    )

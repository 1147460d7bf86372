-- How far a text matters. `left` bounds the lines that can still be taken: each line that is taken lowers it, and has 37 bytes at most. So a refusal
-- stands at line 1,027 at the latest, and a file has 1,024 clauses at most. Every refusal has a number that is not 0, so the number tells a file.
-- Assumes nothing.
use Prim.Native.Nat.{ℕ, zero, suc, ◌+◌, ◌-◌, ◌*◌, ◌%◌, ◌≤◌, ◌<◌}
use mathlib.Core.Bool.{Bool, true, false, ◌&&◌, ◌||◌}
use mathlib.Core.List.{List, [], ◌∷◌, ◌++◌}
use mathlib.Core.Option.{Option, none, some}
use mathlib.Core.Path.{◌≡◌, refl, ap, ◌∙◌}
use native.Mathlib.Omega.{arith}
use borrow.Author.Tests.{eqb-true, eqb-false, ltb-true, ltb-false, leb-true, lt-ltb, le-ltb}
use lib.Dec.{eqb, ltb, leb}
use lib.ListN.{length, get_or, length-append}
use Rattle.base.proofs.Tests.{test, clash, both}
use Rattle.text.specs.Lines.{lines}
use Rattle.line.specs.Text.{bytes, sum}
use Rattle.line.specs.Says.{Line, Wrong, in_place, width, length_for, field, content, frame_says, says}
use Rattle.line.proofs.Frames.{form}
use Rattle.house.specs.File.{Rooms, Reading, Taken, on, refuse, clause_of, room_for, with_clause, taken_as, line_taken}
use Rattle.house.specs.File.{Said, file, refused, nothing, read_lines, said}

-- the 00 line, 1,024 clause lines and the 0F line; from a stage on, those of them that can still come
unfoldable pub left : Reading → ℕ
left r = elim r.stage [ zero ↦ 1026 | suc s ↦ elim (ltb s 15) [ true ↦ 1 + (1024 - r.clauses) | false ↦ 0 ] ]

module _ (r : Reading) where
  left_first : r.stage ≡ 0 → left r ≡ 1026
  unfolding left
  left_first e = rw (e, left)

  left_later : (s : ℕ) → r.stage ≡ suc s → s < 15 → left r ≡ 1 + (1024 - r.clauses)
  unfolding left
  left_later s e h = rw (e, left) (rw (lt-ltb s 15 h))

  left_last : (s : ℕ) → r.stage ≡ suc s → 15 ≤ s → left r ≡ 0
  unfolding left
  left_last s e h = rw (e, left) (rw (le-ltb s 15 h))

-- which stages a kind has its place behind
either_kind : (kind : ℕ) → ((leb 1 kind && leb kind 3) || eqb kind 15) ≡ true → (kind ≡ 15 → ⊥) → kind ≤ 3
either_kind kind e f =
    test (leb 1 kind && leb kind 3)
    (λ g. leb-true kind 3 (both (leb 1 kind) (leb kind 3) g).1)
    (λ g. absurd (f (eqb-true kind 15 (rw g at e))))

-- a kind in its place: 00 first of all, every other behind stages 1 to 15, and a clause behind those up to its own
place_size : (stage : ℕ) → in_place stage 0 ≡ true → stage ≡ 0
unfolding in_place
place_size zero e = refl
place_size (suc s) e = absurd (omega (arith, leb-true (suc s) 0 (both (leb (suc s) 0) _ e).0))

place_other : {C : Type 0} (stage kind : ℕ) → in_place stage kind ≡ true → (kind ≡ 0 → ⊥) → kind ≤ 15 → ((s : ℕ) → stage ≡ suc s → s < 15 → C) → C
unfolding in_place
place_other zero kind e f h go = absurd (f (eqb-true kind 0 e))
place_other (suc s) kind e f h go = go s refl (omega (arith, leb-true (suc s) kind (both (leb (suc s) kind) _ e).0))

place_known : (stage kind : ℕ) → in_place stage kind ≡ true → kind ≤ 15
unfolding in_place
place_known zero kind e = omega (arith, eqb-true kind 0 e)
place_known (suc s) kind e =
    test (eqb kind 15)
    (λ f. omega (arith, eqb-true kind 15 f))
    (λ f. omega (arith, either_kind kind (both (leb (suc s) kind) _ e).1 (eqb-false kind 15 f)))

-- each list has four masks a clause, and they have as many clauses as clause lines were read
pub record InFours (r : Reading) : Type 0 where
  pub start : length r.start % 4 ≡ 0
  pub step : length r.step % 4 ≡ 0
  pub bad : length r.bad % 4 ≡ 0
  pub all : length r.start + length r.step + length r.bad ≡ 4 * r.clauses
  pub few : r.clauses ≤ 1024

-- where a line of `len` bytes leads; a refusal has a number that is not 0
abbrev pub Onward : Reading → ℕ → Taken → Type 0
Onward r len (on r') = (left r' + 1 ≤ left r) × (len ≤ 37) × (InFours r → InFours r')
Onward r len (refuse number) = 0 < number

module _ (r : Reading) (kind : ℕ) (clause : List ℕ) where
  -- a reading of one clause more, with these lists
  abbrev grown : ℕ → List ℕ → List ℕ → List ℕ → Reading
  grown stage start step bad = record { stage = stage; n = r.n; clauses = suc r.clauses; start = start; step = step; bad = bad }

  by_kind : (P : Reading → Type 0) → P (grown 1 (r.start ++ clause) r.step r.bad) → P (grown 2 r.start (r.step ++ clause) r.bad)
      → P (grown 3 r.start r.step (r.bad ++ clause)) → P (with_clause r kind clause)
  unfolding with_clause
  by_kind P a b c =
      test (eqb kind 1)
      (λ e. rw (e, with_clause) a)
      (λ e. rw (e, with_clause) (test (eqb kind 2) (λ f. rw f b) (λ f. rw f c)))

  clause_left : left (with_clause r kind clause) ≡ 1 + (1024 - suc r.clauses)
  unfolding left
  clause_left = by_kind (λ x. left x ≡ 1 + (1024 - suc r.clauses)) refl refl refl

  clause_in_fours : length clause ≡ 4 → r.clauses < 1024 → InFours r → InFours (with_clause r kind clause)
  clause_in_fours four few p =
      let a : length (r.start ++ clause) ≡ length r.start + 4 = length-append r.start clause ∙ ap (λ x. length r.start + x) four in
      let b : length (r.step ++ clause) ≡ length r.step + 4 = length-append r.step clause ∙ ap (λ x. length r.step + x) four in
      let c : length (r.bad ++ clause) ≡ length r.bad + 4 = length-append r.bad clause ∙ ap (λ x. length r.bad + x) four in
      let sum = p.all in
      by_kind InFours
      (record { start = omega (arith, p.start, a); step = p.step; bad = p.bad; all = omega arith; few = few })
      (record { start = p.start; step = omega (arith, p.step, b); bad = p.bad; all = omega arith; few = few })
      (record { start = p.start; step = p.step; bad = omega (arith, p.bad, c); all = omega arith; few = few })

-- ---- a line
-- the stage changes, and n; no list does
abbrev staged : Reading → ℕ → ℕ → Reading
staged r stage n = record { stage = stage; n = n; clauses = r.clauses; start = r.start; step = r.step; bad = r.bad }

staged_in_fours : (r : Reading) (stage n : ℕ) → InFours r → InFours (staged r stage n)
staged_in_fours r stage n p = record { start = p.start; step = p.step; bad = p.bad; all = p.all; few = p.few }

when : (b : Bool) (r : Reading) (len : ℕ) (x y : Taken) → (b ≡ true → Onward r len x) → (b ≡ false → Onward r len y)
    → Onward r len (elim b as (λ z. Taken) [ true ↦ x | false ↦ y ])
when true r len x y f g = f refl
when false r len x y f g = g refl

module _ (rooms : Rooms) (r : Reading) (len : ℕ) where
  -- by a test: what each of two lines leads to
  says_when : (b : Bool) (s t : Line) → (b ≡ true → Onward r len (taken_as rooms r s)) → (b ≡ false → Onward r len (taken_as rooms r t))
      → Onward r len (taken_as rooms r (elim b as (λ z. Line) [ true ↦ s | false ↦ t ]))
  says_when true s t f g = f refl
  says_when false s t f g = g refl

  module _ (short : len ≤ 37) where
    content_onward : (kind : ℕ) (frame : List ℕ) → in_place r.stage kind ≡ true → Onward r len (taken_as rooms r (content kind frame))
    unfolding content
    content_onward kind frame e =
        says_when (eqb kind 0) _ _
        (λ z. let s : r.stage ≡ 0 = place_size r.stage (rw (eqb-true kind 0 z) at e) in
        (omega (arith, left_first r s, left_later (staged r 1 (get_or frame 1 0)) 0 refl (omega arith)), short, staged_in_fours r 1 (get_or frame 1 0)))
        (λ z. place_other r.stage kind e (eqb-false kind 0 z) (place_known r.stage kind e)
        (λ s f h.
        says_when (eqb kind 15) _ _
        (λ y. when (eqb (field frame 1 2) r.clauses) r len _ (refuse 13)
        (λ x. (omega (arith, left_later r s f h, left_last (staged r 16 r.n) 15 refl (omega arith)), short, staged_in_fours r 16 r.n))
        (λ x. omega arith))
        (λ y. when (ltb r.clauses 1024 && room_for rooms r kind) r len _ (refuse 12)
        (λ x.
        let few = ltb-true r.clauses 1024 (both (ltb r.clauses 1024) (room_for rooms r kind) x).0 in
        let clause = clause_of (field frame 1 (width kind)) (field frame (1 + width kind) (width kind)) in
        (omega (arith, left_later r s f h, clause_left r kind clause, few), short, clause_in_fours r kind clause refl few))
        (λ x. omega arith))))

    frame_onward : (frame : List ℕ) → Onward r len (taken_as rooms r (frame_says frame r.stage))
    unfolding frame_says
    frame_onward frame =
        says_when (eqb (sum frame % 256) 0) _ (Wrong 9)
        (λ e. says_when (in_place r.stage (get_or frame 0 0)) _ (Wrong 10)
        (λ f. says_when (eqb (length frame) (length_for (get_or frame 0 0))) _ (Wrong 11)
        (λ g. content_onward (get_or frame 0 0) frame f)
        (λ g. omega arith))
        (λ f. omega arith))
        (λ e. omega arith)

or_second : (a b : Bool) → (a || b) ≡ false → b ≡ false
or_second true b g = clash refl g
or_second false b g = g

-- a line makes a frame of 18 bytes at most, and so has 37 bytes at most
pub line_onward : (rooms : Rooms) (r : Reading) (line : List ℕ) → Onward r (length line) (line_taken rooms r line)
unfolding says
line_onward rooms r line = pick (bytes line) refl
  where
    pick : (frame : Option (List ℕ)) → bytes line ≡ frame
        → Onward r (length line) (taken_as rooms r (elim frame as (λ z. Line) [
          | none ↦ Wrong 8
          | some f ↦ elim (eqb (length f) 0 || ltb 18 (length f)) [ true ↦ Wrong 8 | false ↦ frame_says f r.stage ]
        ]))
    pick none e = omega arith
    pick (some f) e =
        says_when rooms r (length line) (eqb (length f) 0 || ltb 18 (length f)) (Wrong 8) (frame_says f r.stage)
        (λ g. omega arith)
        (λ g. frame_onward rooms r (length line) (omega (arith, (form line f e).size, ltb-false 18 (length f) (or_second (eqb (length f) 0) (ltb 18 (length f)) g))) f)

-- ---- a text
-- a refusal has a number that is not 0 and stands at line 1,027 at the latest; a file's lists have four masks a clause, and few clauses
abbrev pub Limited : Said → Type 0
Limited (file r) = InFours r
Limited (refused number line) = (0 < number) × (line ≤ 1027)

lines_limited : (rooms : Rooms) (ls : List (List ℕ)) (k : ℕ) (r : Reading) → k + left r ≤ 1027 → InFours r → Limited (read_lines rooms ls k r)
unfolding read_lines
lines_limited rooms [] k r h p = test (eqb r.stage 16) (λ e. rw (e, read_lines) p) (λ e. rw (e, read_lines) (omega arith, omega arith))
lines_limited rooms (l ∷ ls) k r h p = pick (line_taken rooms r l) refl (line_onward rooms r l) (lines_limited rooms ls (suc k))
  where
    pick : (t : Taken) → line_taken rooms r l ≡ t → Onward r (length l) t
        → ((r' : Reading) → suc k + left r' ≤ 1027 → InFours r' → Limited (read_lines rooms ls (suc k) r')) → Limited (read_lines rooms (l ∷ ls) k r)
    pick (on r') e w rest = rw (e, read_lines) (rest r' (omega (arith, w.0)) (w.2 p))
    pick (refuse number) e w rest = rw (e, read_lines) (w, omega arith)

pub said_limited : (rooms : Rooms) (text : List ℕ) → Limited (said rooms text)
unfolding said
said_limited rooms text =
    lines_limited rooms (lines text) 1 nothing
    (omega (arith, left_first nothing refl))
    (record { start = refl; step = refl; bad = refl; all = refl; few = omega arith })

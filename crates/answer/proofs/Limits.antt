-- The limits of a text, of its answer: what stands behind the first 37,999 bytes does not matter, the line of a refusal is 1,027 at most, and no file
-- is refused with 2 or 4, since its lists have four masks a clause and 1,024 clauses at most, and the lent stores are right. Assumes nothing.
use Prim.Native.Nat.{ℕ, ◌/◌, ◌%◌, ◌≤◌}
use mathlib.Core.Bool.{false}
use mathlib.Core.List.{List}
use mathlib.Core.Path.{◌≡◌, refl, ap}
use native.Mathlib.Omega.{arith}
use borrow.Author.Tests.{le-ltb}
use lib.ListN.{length, take}
use Rattle.base.proofs.Tests.{test}
use Rattle.ic3.specs.Search.{no_room, spent, no_start, Verdict, safe, unsafe, gave_up}
use Rattle.ic3.specs.Demands.{listed}
use Rattle.system.specs.System.{System, wrong_size, wrong_count, wrong_bits, refusal_of}
use Rattle.call.specs.Call.{Stores, wrong_stores, ended, called}
use Rattle.call.proofs.Call.{refused_system, refused_stores, called_refused, called_searches}
use Rattle.house.specs.File.{Reading, Said, file, said}
use Rattle.house.specs.File as house
use Rattle.house.proofs.Limits.{Limited, InFours, said_limited}
use Rattle.house.proofs.Cut.{said_cut}
use Rattle.answer.specs.Promise.{FromFile}
use Rattle.answer.specs.Answer.{scan_stores, clause_rooms, system_in, answered, said_lines}

pub answered_cut : (text : List ℕ) → answered text ≡ answered (take 37999 text)
unfolding answered
answered_cut text = ap said_lines (said_cut clause_rooms text)

limited : (text : List ℕ) (s : Said) → said clause_rooms text ≡ s → Limited s
limited text s e = rw (← e) (said_limited clause_rooms text)

pub refused_line : (text : List ℕ) (number line : ℕ) → said clause_rooms text ≡ house.refused number line → line ≤ 1027
refused_line text number line e = (limited text (house.refused number line) e).1

-- ---- the numbers of a file
count_right : (l : List ℕ) → length l % 4 ≡ 0 → length l ≤ 4096 → wrong_count l ≡ false
unfolding wrong_count
count_right l e h = rw (e, le-ltb 4096 (length l / 4) (omega arith))

-- the system's own number is 0, 1 or 3
refusal_of_lem : {C : Type 0} (y : System) → wrong_count y.start ≡ false → wrong_count y.step ≡ false → wrong_count y.bad ≡ false
    → (refusal_of y ≡ 0 → C) → (refusal_of y ≡ 1 → C) → (refusal_of y ≡ 3 → C) → C
unfolding refusal_of
refusal_of_lem y a b c zeroth first third =
    test (wrong_size y.n y.w)
    (λ e. first (rw (e, refusal_of)))
    (λ e. test (wrong_bits y.n y.w y.start y.step y.bad)
    (λ f. third (rw (e, refusal_of) (rw (a, b, c) (rw f))))
    (λ f. zeroth (rw (e, refusal_of) (rw (a, b, c) (rw f)))))

pub room_right : wrong_stores scan_stores ≡ false
unfolding wrong_stores scan_stores
room_right = refl

ended_number : (s : Stores) (q : ℕ) (v : Verdict) → FromFile (ended s q v).number
unfolding ended listed
ended_number s q (safe evidence) = refl
ended_number s q (unsafe path) = refl
ended_number s q (gave_up no_room) = refl
ended_number s q (gave_up spent) = refl
ended_number s q (gave_up no_start) = refl

pub file_number : (text : List ℕ) (r : Reading) → said clause_rooms text ≡ file r → FromFile (called (system_in r) scan_stores 1000000).number
unfolding listed
file_number text r e =
    let p : InFours r = limited text (file r) e in
    let y = system_in r in
    refusal_of_lem y
    (count_right r.start p.start (omega (arith, p.all, p.few)))
    (count_right r.step p.step (omega (arith, p.all, p.few)))
    (count_right r.bad p.bad (omega (arith, p.all, p.few)))
    (λ f. rw (called_searches y scan_stores 1000000 (refused_stores y scan_stores f room_right)) (ended_number scan_stores _ _))
    (λ f. rw (called_refused y scan_stores 1000000 0 (refused_system y scan_stores 0 f)))
    (λ f. rw (called_refused y scan_stores 1000000 2 (refused_system y scan_stores 2 f)))

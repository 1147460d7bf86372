-- The frame of a line. Pairs of digits with a line feed make the frame that is read by index; whatever line makes a frame has that form, so a line
-- that has not is malformed. Both go by pairs. Assumes nothing.
use Prim.Native.Nat.{ℕ, zero, suc, ◌+◌, ◌*◌, ◌<◌}
use mathlib.Core.Bool.{Bool, true, false, ◌&&◌}
use mathlib.Core.List.{List, [], ◌∷◌}
use mathlib.Core.Option.{Option, none, some}
use mathlib.Core.Path.{◌≡◌, refl, ap, ◌∙◌}
use native.Mathlib.Omega.{arith}
use borrow.Author.Tests.{ltb-true, eqb-true, lt-ltb, eq-eqb}
use lib.Dec.{eqb, ltb}
use lib.ListN.{length, get_or, take, drop}
use lib.Seq.{drop-cons}
use Rattle.base.proofs.Tests.{test, both}
use Rattle.base.proofs.Lists.{next_two}
use Rattle.line.specs.Text.{digit, ahead, bytes}
use Rattle.line.specs.Inner.{byte_at, frame_at}
use Rattle.line.proofs.Digits.{AllDigits}

-- ---- from a line to its frame
-- a pair, by its test
abbrev after : Bool → ℕ → Option (List ℕ) → Option (List ℕ)
after right b rest = elim right as (λ x. Option (List ℕ)) [ true ↦ ahead b rest | false ↦ none ]

bytes_two : (h l : ℕ) (rest : List ℕ) → bytes (h ∷ (l ∷ rest)) ≡ after (ltb (digit h) 16 && ltb (digit l) 16) (16 * digit h + digit l) (bytes rest)
unfolding bytes
bytes_two h l rest = refl

bytes_pair : (h l : ℕ) (rest : List ℕ) → digit h < 16 → digit l < 16
    → bytes (h ∷ (l ∷ rest)) ≡ ahead (16 * digit h + digit l) (bytes rest)
bytes_pair h l rest d e = rw (bytes_two h l rest, lt-ltb (digit h) 16 d, lt-ltb (digit l) 16 e)

-- the last byte, by its test
abbrev alone : Bool → Option (List ℕ)
alone feed = elim feed as (λ x. Option (List ℕ)) [ true ↦ some [] | false ↦ none ]

bytes_one : (c : ℕ) → bytes (c ∷ []) ≡ alone (eqb c 10)
unfolding bytes
bytes_one c = refl

bytes_feed : (c : ℕ) → c ≡ 10 → bytes (c ∷ []) ≡ some []
bytes_feed c e = rw (bytes_one c, eq-eqb c 10 e)

bytes_none : bytes [] ≡ none
unfolding bytes
bytes_none = refl

module _ (text : List ℕ) where
  take_one : (i : ℕ) → i < length text → take 1 (drop i text) ≡ get_or text i 0 ∷ []
  take_one i h = rw (drop-cons text i 0 h)

  take_two : (i n : ℕ) → i + 1 < length text → take (suc (suc n)) (drop i text) ≡ get_or text i 0 ∷ (get_or text (i + 1) 0 ∷ take n (drop (i + 2) text))
  take_two i n h =
      let e : i + 1 + 1 ≡ i + 2 = omega arith in
      ap (take (suc (suc n))) (rw e at (next_two text i h))

  -- pairs of digits with a line feed
  pub frame_whole : (count i : ℕ) → i + 2 * count < length text → AllDigits text (i + 2 * count)
      → get_or text (i + 2 * count) 0 ≡ 10 → bytes (take (suc (2 * count)) (drop i text)) ≡ some (frame_at text i count)
  unfolding ahead frame_at byte_at
  frame_whole zero i h digits last =
      let e : i + 0 ≡ i = omega arith in
      rw (take_one i (omega arith)) (bytes_feed (get_or text i 0) (rw e at last))
  frame_whole (suc count) i h digits last =
      let e : 2 * suc count ≡ suc (suc (2 * count)) = omega arith in
      let f : i + 2 * suc count ≡ i + 2 + 2 * count = omega arith in
      let rest = frame_whole count (i + 2) (omega arith) (λ j l. digits j (omega arith)) (rw f at last) in
      rw (e, take_two i (suc (2 * count)) (omega arith))
      (bytes_pair (get_or text i 0) (get_or text (i + 1) 0) (take (suc (2 * count)) (drop (i + 2) text))
      (digits i (omega arith))
      (digits (i + 1) (omega arith))
      ∙ ap (ahead (byte_at text i)) rest)

-- ---- whatever line makes a frame
-- what stands behind a pair
ahead_some : {C : Type 0} (b : ℕ) (rest : Option (List ℕ)) (frame : List ℕ) → ahead b rest ≡ some frame
    → ((more : List ℕ) → rest ≡ some more → frame ≡ b ∷ more → C) → C
unfolding ahead
ahead_some b none frame e f = let z : ◌≡◌ {A = ℕ} 0 1 = cc in absurd (omega arith)
ahead_some b (some more) frame e f = f more refl (cc)

-- the form of a line with a frame: a byte more than the pairs, the last one a line feed, those before it digits
pub record Form (line frame : List ℕ) : Type 0 where
  pub size : length line ≡ 1 + 2 * length frame
  pub last : get_or line (2 * length frame) 0 ≡ 10
  pub digits : AllDigits line (2 * length frame)

-- a line without a frame has none
none_some : {C : Type 0} (o : Option (List ℕ)) (frame : List ℕ) → o ≡ none → o ≡ some frame → C
none_some o frame e f = let z : ◌≡◌ {A = ℕ} 0 1 = cc in absurd (omega arith)

form_one : (c : ℕ) (frame : List ℕ) → bytes (c ∷ []) ≡ some frame → Form (c ∷ []) frame
form_one c frame e =
    test (eqb c 10)
    (λ f.
    let g : some [] ≡ some frame = rw (bytes_one c, f) at e in
    let k : [] ≡ frame = cc in
    rw (← k) (record { size = refl; last = eqb-true c 10 f; digits = λ j h. absurd (omega arith) }))
    (λ f. none_some (bytes (c ∷ [])) frame (rw (bytes_one c, f)) e)

form_two : (h l : ℕ) (rest more : List ℕ) → digit h < 16 → digit l < 16 → Form rest more
    → Form (h ∷ (l ∷ rest)) ((16 * digit h + digit l) ∷ more)
form_two h l rest more d e w = record {
  size = omega (arith, w.size);
  last = rw (twice more) w.last;
  digits = λ j. at_each j;
}
  where
    twice : (more : List ℕ) → 2 * suc (length more) ≡ suc (suc (2 * length more))
    twice more = omega arith

    at_each : (j : ℕ) → j < 2 * suc (length more) → digit (get_or (h ∷ (l ∷ rest)) j 0) < 16
    at_each zero k = d
    at_each (suc zero) k = e
    at_each (suc (suc j)) k = w.digits j (omega arith)

pub form : (line frame : List ℕ) → bytes line ≡ some frame → Form line frame
form [] frame e = none_some (bytes []) frame bytes_none e
form (c ∷ []) frame e = form_one c frame e
form (h ∷ (l ∷ rest)) frame e =
    test (ltb (digit h) 16 && ltb (digit l) 16)
    (λ f.
    let right = both (ltb (digit h) 16) (ltb (digit l) 16) f in
    ahead_some (16 * digit h + digit l) (bytes rest) frame (rw (bytes_two h l rest, f) at e)
    (λ more g k. rw k (form_two h l rest more (ltb-true (digit h) 16 right.0) (ltb-true (digit l) 16 right.1) (form rest more g))))
    (λ f. none_some (bytes (h ∷ (l ∷ rest))) frame (rw (bytes_two h l rest, f)) e)

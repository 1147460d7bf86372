-- The numbers of a line, byte by byte. A digit makes the number larger, and once it reaches 2^32 the line has no numbers; a blank ends a number and
-- another one has to follow; a line feed ends the last; any other byte is wrong, as is any that is no digit where a number has to begin. So a walk
-- over the line has the numbers in front of it in its store, and the line's numbers are these and those of the rest. Assumes nothing.
use Prim.Native.Nat.{ℕ, zero, suc, ◌+◌, ◌-◌, ◌*◌, ◌^◌, ◌≤◌, ◌<◌}
use mathlib.Core.Bool.{Bool, true, false, ◌&&◌}
use mathlib.Core.List.{List, [], ◌∷◌, ◌++◌}
use mathlib.Core.Logic.{⊎_elim}
use mathlib.Core.Option.{Option, none, some}
use mathlib.Core.Path.{◌≡◌, refl, sym, ap, ◌∙◌}
use native.Mathlib.Numerals.{add-one}
use native.Mathlib.Omega.{arith}
use borrow.Author.Tests.{lt-ltb, le-ltb, ltb-true, eq-eqb, ne_eqb, eqb-true, leb-true}
use lib.Dec.{eqb, ltb}
use lib.ListN.{length, get_or, drop, set, length-append, length-drop, drop_of_length-le}
use lib.Seq.{drop-cons}
use Rattle.std.specs.Prelude as Std
use Rattle.std.specs.Prelude.{None, Some}
use Rattle.std.specs.Char.{is_ascii_digit}
use Rattle.base.proofs.Tests.{test, both, eq_or_ne}
use Rattle.text.specs.Writing.{Writes}
use Rattle.text.proofs.Laying.{laid_one, writes_none, writes_then, writes_length}
use Rattle.aiger.specs.Numbers.{is_digit, ahead, numbers_from, numbers}
use Rattle.aiger.specs.Inner.{Numbered}

-- ---- digits
pub digit_least : (c : ℕ) → is_digit c ≡ true → 48 ≤ c
unfolding is_digit
digit_least c e = leb-true 48 c (both _ _ e).0

-- the library's test
pub digit_same : (c : ℕ) → is_ascii_digit c ≡ is_digit c
unfolding is_digit
digit_same c = refl

-- ---- a byte and what follows it
module _ (begun : Bool) (value c : ℕ) (cs : List ℕ) where
  from_digit : is_digit c ≡ true → numbers_from begun value (c ∷ cs) ≡ numbers_from true (10 * value + (c - 48)) cs
  unfolding numbers_from
  from_digit d = rw (d, numbers_from)

  from_early : is_digit c ≡ false → (begun && ltb value (2 ^ 32)) ≡ false → numbers_from begun value (c ∷ cs) ≡ none
  unfolding numbers_from
  from_early d e = rw (d, e, numbers_from)

module _ (value c : ℕ) (cs : List ℕ) (d : is_digit c ≡ false) (small : value < 2 ^ 32) where
  from_blank : c ≡ 32 → numbers_from true value (c ∷ cs) ≡ ahead value (numbers_from false 0 cs)
  unfolding numbers_from
  from_blank e = rw (d, lt-ltb value (2 ^ 32) small, eq-eqb c 32 e, numbers_from)

  from_feed : c ≡ 10 → length cs ≡ 0 → numbers_from true value (c ∷ cs) ≡ some (value ∷ [])
  unfolding numbers_from
  from_feed e l = rw (d, lt-ltb value (2 ^ 32) small, ne_eqb c 32 (omega arith), eq-eqb c 10 e, eq-eqb (length cs) 0 l, numbers_from)

  from_other : (c ≡ 32 → ⊥) → (c ≡ 10 → length cs ≡ 0 → ⊥) → numbers_from true value (c ∷ cs) ≡ none
  unfolding numbers_from
  from_other f g = rw (d, lt-ltb value (2 ^ 32) small, ne_eqb c 32 f, no_end (eqb c 10) refl, numbers_from)
    where
      no_end : (b : Bool) → eqb c 10 ≡ b → (b && eqb (length cs) 0) ≡ false
      no_end true e = ne_eqb (length cs) 0 (g (eqb-true c 10 e))
      no_end false e = refl

from_huge : (begun : Bool) (value : ℕ) (cs : List ℕ) → 2 ^ 32 ≤ value → numbers_from begun value cs ≡ none
unfolding numbers_from
from_huge begun value [] h = refl
from_huge begun value (c ∷ cs) h =
    test (is_digit c) (λ d. from_digit begun value c cs d ∙ from_huge true (10 * value + (c - 48)) cs (omega arith))
    (λ d. from_early begun value c cs d (too_large begun))
  where
    too_large : (b : Bool) → (b && ltb value (2 ^ 32)) ≡ false
    too_large true = le-ltb value (2 ^ 32) h
    too_large false = refl

-- there is a number, and each is below 2^32
record Sound (xs : List ℕ) : Type 0 where
  some_number : 1 ≤ length xs
  small : (k : ℕ) → get_or xs k 0 < 2 ^ 32

sound_more : (x : ℕ) (xs : List ℕ) → x < 2 ^ 32 → ((k : ℕ) → get_or xs k 0 < 2 ^ 32) → Sound (x ∷ xs)
sound_more x xs h s = record { some_number = omega arith; small = each }
  where
    each : (k : ℕ) → get_or (x ∷ xs) k 0 < 2 ^ 32
    each zero = h
    each (suc k) = s k

-- no list is there and is not
pub none_clash {ℓ} : {C : Type ℓ} (o : Option (List ℕ)) {xs : List ℕ} → o ≡ none → o ≡ some xs → C
none_clash o e f = let z : ◌≡◌ {A = ℕ} 0 1 = cc in absurd (omega arith)

module _ (value c : ℕ) (cs : List ℕ) (d : is_digit c ≡ false) {xs : List ℕ} where
  sound_blank : value < 2 ^ 32 → ((ys : List ℕ) → numbers_from false 0 cs ≡ some ys → Sound ys) → (o : Option (List ℕ)) → numbers_from false 0 cs ≡ o
      → ahead value o ≡ some xs → Sound xs
  unfolding ahead
  sound_blank h others none r e = none_clash _ refl e
  sound_blank h others (some ys) r e =
      let g : xs ≡ value ∷ ys = cc in
      rw g (sound_more value ys h (others ys r).small)

  sound_end : value < 2 ^ 32 → (c ≡ 32 → ⊥) → numbers_from true value (c ∷ cs) ≡ some xs → Sound xs
  sound_end h f e =
      ⊎_elim
      (λ b. ⊎_elim
      (λ l.
      let g : xs ≡ value ∷ [] = cc (from_feed value c cs d h b l) in
      rw g (sound_more value [] h (λ k. omega arith)))
      (λ l. none_clash _ (from_other value c cs d h f (λ p q. l q)) e) (eq_or_ne (length cs) 0))
      (λ b. none_clash _ (from_other value c cs d h f (λ p q. b p)) e) (eq_or_ne c 10)

  sound_other : ((ys : List ℕ) → numbers_from false 0 cs ≡ some ys → Sound ys) → (begun : Bool) → numbers_from begun value (c ∷ cs) ≡ some xs → Sound xs
  sound_other others false e = none_clash _ (from_early false value c cs d refl) e
  sound_other others true e =
      test (ltb value (2 ^ 32))
      (λ l.
      let h = ltb-true value (2 ^ 32) l in
      ⊎_elim (λ b. sound_blank h others _ refl (sym (from_blank value c cs d h b) ∙ e)) (λ f. sound_end h f e) (eq_or_ne c 32))
      (λ l. none_clash _ (from_early true value c cs d l) e)

from_sound : (begun : Bool) (value : ℕ) (cs : List ℕ) {xs : List ℕ} → numbers_from begun value cs ≡ some xs → Sound xs
unfolding numbers_from
from_sound begun value [] e = none_clash _ refl e
from_sound begun value (c ∷ cs) e =
    test (is_digit c) (λ d. from_sound true (10 * value + (c - 48)) cs (sym (from_digit begun value c cs d) ∙ e))
    (λ d. sound_other value c cs d (λ ys r. from_sound false 0 cs r) begun e)

-- each number of a line is below 2^32
pub numbers_small : (line : List ℕ) {xs : List ℕ} → numbers line ≡ some xs → (k : ℕ) → get_or xs k 0 < 2 ^ 32
unfolding numbers
numbers_small line e = (from_sound false 0 line e).small

-- an empty line has none
pub numbers_none : numbers [] ≡ none
unfolding numbers numbers_from
numbers_none = refl

-- ---- numbers in front of the others
unfoldable pub prepend : List ℕ → Option (List ℕ) → Option (List ℕ)
prepend [] o = o
prepend (x ∷ xs) o = ahead x (prepend xs o)

prepend_none : (xs : List ℕ) → prepend xs none ≡ none
unfolding prepend ahead
prepend_none [] = refl
prepend_none (x ∷ xs) = ap (ahead x) (prepend_none xs)

prepend_some : (xs ys : List ℕ) → prepend xs (some ys) ≡ some (xs ++ ys)
unfolding prepend ahead
prepend_some [] ys = refl
prepend_some (x ∷ xs) ys = ap (ahead x) (prepend_some xs ys)

prepend_last : (xs : List ℕ) (x : ℕ) (o : Option (List ℕ)) → prepend xs (ahead x o) ≡ prepend (xs ++ (x ∷ [])) o
unfolding prepend
prepend_last [] x o = refl
prepend_last (y ∷ xs) x o = ap (ahead y) (prepend_last xs x o)

-- ---- a number that may have begun
abbrev pub has_begun : Std.Option ℕ → Bool
has_begun None = false
has_begun (Some value) = true

-- ---- a walk over a line: the numbers in front of this index are in the store, and one may have begun
pub record Walked (line before into : List ℕ) (count : ℕ) (begun : Bool) (value j : ℕ) : Type 0 where
  pub xs : List ℕ
  pub says : numbers line ≡ prepend xs (numbers_from begun value (drop j line))
  pub fits : count ≤ length before
  pub writes : Writes 0 xs before count into
  pub small : value < 2 ^ 32

-- a line of other things
numbered_none : {line before into : List ℕ} → length into ≡ length before → numbers line ≡ none → Numbered line before None into
numbered_none same e = record { same = same; found = λ k h. cc; lacks = λ r xs f. none_clash _ e f }

pub walked_first : (line before : List ℕ) → Walked line before before 0 false 0 0
unfolding numbers prepend
walked_first line before = record { xs = []; says = refl; fits = omega arith; writes = writes_none 0 before; small = omega arith }

module _ {line before into : List ℕ} {count : ℕ} {begun : Bool} {value j : ℕ} (w : Walked line before into count begun value j) where
  pub walked_length : length into ≡ length before
  walked_length = writes_length w.writes

  -- where the rest has no numbers, the line has none
  ended : numbers_from begun value (drop j line) ≡ none → Numbered line before None into
  ended e = numbered_none walked_length (w.says ∙ (ap (prepend w.xs) e ∙ prepend_none w.xs))

  pub walked_past : length line ≤ j → Numbered line before None into
  unfolding numbers_from
  walked_past h = ended (rw (drop_of_length-le line h))

module _ {line before into : List ℕ} {count : ℕ} {begun : Bool} {value j : ℕ} (h : j < length line)
    (w : Walked line before into count begun value j) where
  rest_at : drop j line ≡ get_or line j 0 ∷ drop (j + 1) line
  rest_at = rw (add-one j, drop-cons line j 0 h)

  digit_at : is_digit (get_or line j 0) ≡ true
      → numbers_from begun value (drop j line) ≡ numbers_from true (10 * value + (get_or line j 0 - 48)) (drop (j + 1) line)
  digit_at d = rw rest_at (from_digit begun value _ _ d)

  pub walked_digit : is_digit (get_or line j 0) ≡ true → 10 * value + (get_or line j 0 - 48) < 2 ^ 32
      → Walked line before into count true (10 * value + (get_or line j 0 - 48)) (j + 1)
  walked_digit d l =
      record { xs = w.xs; says = w.says ∙ ap (prepend w.xs) (digit_at d); fits = w.fits; writes = w.writes; small = l }

  pub walked_huge : is_digit (get_or line j 0) ≡ true → 2 ^ 32 ≤ 10 * value + (get_or line j 0 - 48) → Numbered line before None into
  walked_huge d l = ended w (digit_at d ∙ from_huge true _ (drop (j + 1) line) l)

  pub walked_early : is_digit (get_or line j 0) ≡ false → begun ≡ false → Numbered line before None into
  walked_early d e = ended w (rw rest_at (from_early begun value _ _ d (rw e)))

  module _ (d : is_digit (get_or line j 0) ≡ false) (e : begun ≡ true) where
    -- a number ends here, and so the line has one more than the store
    pub walked_full : count ≡ length into → Numbered line before None into
    walked_full full =
        record {
          same = walked_length w;
          found = λ k l. cc;
          lacks = λ l xs f. more (numbers_from begun value (drop j line)) refl f;
        }
      where
        more : (o : Option (List ℕ)) → numbers_from begun value (drop j line) ≡ o → {xs : List ℕ} → numbers line ≡ some xs → length before < length xs
        more none r f = none_clash _ (w.says ∙ (ap (prepend w.xs) r ∙ prepend_none w.xs)) f
        more (some ys) r {xs} f =
            let all : xs ≡ w.xs ++ ys = cc (w.says, prepend_some w.xs ys) in
            let one = (from_sound begun value (drop j line) r).some_number in
            omega (arith, walked_length w, w.writes.end, ap length all, length-append w.xs ys)

    -- the number is put behind those in the store
    module _ (room : (count ≡ length into) → ⊥) where
      put_writes : Writes 0 (w.xs ++ (value ∷ [])) before (count + 1) (set into count value)
      put_writes = writes_then w.writes (record { content = sym (laid_one count value into); end = omega arith })

      fits_one : count + 1 ≤ length before
      fits_one = omega (arith, walked_length w, w.fits)

      pub walked_blank : get_or line j 0 ≡ 32 → Walked line before (set into count value) (count + 1) false 0 (j + 1)
      walked_blank b =
          record {
            xs = w.xs ++ (value ∷ []);
            says = w.says ∙ (ap (prepend w.xs) (rw (rest_at, e) (from_blank value _ _ d w.small b)) ∙ prepend_last w.xs value _);
            fits = fits_one;
            writes = put_writes;
            small = omega arith;
          }

      pub walked_feed : get_or line j 0 ≡ 10 → j + 1 ≡ length line → Numbered line before (Some (count + 1)) (set into count value)
      walked_feed b l =
          record {
            same = writes_length put_writes;
            found = λ k q.
                let same : count + 1 ≡ k = cc in
                record {
                  xs = w.xs ++ (value ∷ []);
                  says = w.says
                      ∙ (ap (prepend w.xs) (rw (rest_at, e) (from_feed value _ _ d w.small b (simp length-drop (omega arith))))
                      ∙ prepend_some w.xs _);
                  count = omega (arith, put_writes.end, same);
                  fits = omega (arith, fits_one, same);
                  content = put_writes.content;
                };
            lacks = λ k. cc;
          }

      pub walked_other : (get_or line j 0 ≡ 32 → ⊥) → (get_or line j 0 ≡ 10 → j + 1 ≡ length line → ⊥) → Numbered line before None (set into count value)
      walked_other f g =
          numbered_none (writes_length put_writes)
          (w.says
          ∙ (ap (prepend w.xs) (rw (rest_at, e) (from_other value _ _ d w.small f (λ b l. g b (omega (arith, l, length-drop (j + 1) line)))))
          ∙ prepend_none w.xs))

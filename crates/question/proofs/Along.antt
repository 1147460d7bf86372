-- The trail leads from the bits that were settled before its first entry to those that are settled behind its last. A reason at its end, resolved along
-- it, is a reason at its beginning, and a word that passes at its end passes at its beginning. One entry more keeps both, by the law of one bit; so
-- nothing is said of the settings between. Assumes nothing.
use Prim.Native.Nat.{ℕ, ◌+◌, ◌-◌, ◌≤◌, ◌<◌}
use mathlib.Core.Bool.{Bool}
use mathlib.Core.List.{List, [], ◌∷◌, ◌++◌, reverse}
use mathlib.Core.Path.{◌≡◌, refl, ap, ◌∙◌}
use native.Mathlib.Omega.{arith}
use borrow.Rule.Slice.PartMut.{put_mid, take_put}
use lib.Count.{ones, ones-le}
use lib.ListN.{length, set, take}
use Rattle.std.proofs.lemmas.List.{reverse-append, take_more_set}
use Rattle.masks.specs.Word.{width, word_of}
use Rattle.look.specs.Reason.{Reason, Forces, more, Setting}
use Rattle.question.specs.Reason.{Sound, Passing, Falls, resolved, resolved_along, LongEnough}
use Rattle.question.specs.declared.trail.Entry.{Entry}
use Rattle.question.proofs.More.{more_sound, more_falls}
use Rattle.question.proofs.Resolution.{resolved_reason}
use Rattle.question.proofs.Solving.{more_passes, forced}

-- the last of the entries is given up first
along_more : (width : ℕ) (entries : List Entry) (e : Entry) (m : ℕ)
    → resolved_along width (entries ++ (e ∷ [])) m ≡ resolved_along width entries (resolved width m (word_of e.reason) (word_of e.bit))
unfolding resolved_along
along_more width [] e m = refl
along_more width (x ∷ entries) e m = rw (along_more width entries e m) refl

-- the reason that is left when entries are given up one by one, in the order of the list
abbrev pub back : List Entry → ℕ → ℕ
back [] m = m
back (e ∷ entries) m = back entries (resolved width m (word_of e.reason) (word_of e.bit))

pub back_more : (entries : List Entry) (e : Entry) (m : ℕ)
    → back (entries ++ (e ∷ [])) m ≡ resolved width (back entries m) (word_of e.reason) (word_of e.bit)
back_more [] e m = refl
back_more (x ∷ entries) e m = back_more entries e _

-- from the last back they are given up along the trail
pub back_along : (entries : List Entry) (m : ℕ) → back (reverse entries) m ≡ resolved_along width entries m
unfolding resolved_along
back_along [] m = refl
back_along (e ∷ entries) m =
    rw (reverse-append (e ∷ []) entries)
    (back_more (reverse entries) e m ∙ ap (λ r. resolved width r (word_of e.reason) (word_of e.bit)) (back_along entries m))

-- The first k entries of the trail lead from s to r.
pub record Led (width : ℕ) (P : ℕ → Bool) (s : Setting) (trail : List Entry) (k : ℕ) (r : Setting) : Type 0 where
  pub sound : Sound width r
  pub count : ones r.bits ≡ ones s.bits + k
  pub passes : (w : ℕ) → Passing width P r w → Passing width P s w
  pub reasons : (m : ℕ) → Reason P r m → Reason P s (resolved_along width (take k trail) m)

-- no entry
pub led_none : {width : ℕ} {P : ℕ → Bool} {s : Setting} {trail : List Entry} → Sound width s → Led width P s trail 0 s
unfolding resolved_along
led_none {width} {P} {s} {trail} ok = record { sound = ok; count = omega arith; passes = λ w p. p; reasons = λ m r. r }

module _ {width : ℕ} {P : ℕ → Bool} {s r : Setting} {trail : List Entry} {k : ℕ} (L : Led width P s trail k r) where
  -- the trail when what stands behind them was lent, and came back as ys
  abbrev pub put : List Entry → List Entry
  put = put_mid k (length trail - k) trail

  -- the entries are the same on it
  pub led_lent : (ys : List Entry) → k ≤ length trail → Led width P s (put ys) k r
  led_lent ys h =
      record {
        sound = L.sound;
        count = L.count;
        passes = L.passes;
        reasons = λ m q. rw (take_put k (length trail - k) trail ys h) (L.reasons m q);
      }

  -- no more entries than positions
  pub led_few : k ≤ width
  led_few = omega (arith, L.count, ones-le width r.bits L.sound.fits)

  -- they are on the trail
  pub led_within : LongEnough width s trail → k ≤ length trail
  led_within h = omega (arith, L.count, ones-le width r.bits L.sound.fits)

  -- an entry more
  module _ (e : Entry) {value : ℕ} (F : Forces width P r (word_of e.reason) (word_of e.bit) value) where
    -- there is a place for it
    pub led_next : LongEnough width s trail → k < length trail
    led_next h =
        let f : Falls width r (more r (word_of e.bit) value) = more_falls (forced L.sound F) L.sound in
        omega (arith, f.one, f.most, L.count)

    pub led_more : k < length trail → Led width P s (set trail k e) (k + 1) (more r (word_of e.bit) value)
    led_more h =
        record {
          sound = more_sound (forced L.sound F) L.sound;
          count = omega (arith, L.count, (more_falls (forced L.sound F) L.sound).one);
          passes = λ w p. L.passes w (more_passes (forced L.sound F) P w p);
          reasons = λ m q.
              rw (take_more_set trail k e h, along_more width (take k trail) e m)
              (L.reasons _ (resolved_reason L.sound (forced L.sound F) P m (word_of e.reason) q F.fails));
        }

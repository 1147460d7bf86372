-- A buffer that is written over: its length stays, nothing written changes nothing, one byte written is one place set, and one piece behind
-- another is both written at once. So writing goes piece by piece. Assumes nothing.
use Prim.Native.Nat.{ℕ, zero, suc, ◌+◌, ◌≤◌}
use mathlib.Core.List.{List, [], ◌∷◌, ◌++◌}
use mathlib.Core.Path.{◌≡◌, refl, sym, ap, ◌∙◌}
use native.Mathlib.Omega.{arith}
use lib.ListN.{length, set, length-append}
use lib.Seq.{set_out}
use Rattle.text.specs.Writing.{laid, Writes}

pub laid_length : (i : ℕ) (w buffer : List ℕ) → length (laid i w buffer) ≡ length buffer
unfolding laid
laid_length i w [] = refl
laid_length zero [] (b ∷ buffer) = refl
laid_length zero (x ∷ w) (b ∷ buffer) = ap suc (laid_length zero w buffer)
laid_length (suc i) w (b ∷ buffer) = ap suc (laid_length i w buffer)

laid_none : (i : ℕ) (buffer : List ℕ) → laid i [] buffer ≡ buffer
unfolding laid
laid_none i [] = refl
laid_none zero (b ∷ buffer) = refl
laid_none (suc i) (b ∷ buffer) = ap {B = List ℕ} (λ l. b ∷ l) (laid_none i buffer)

pub laid_one : (i x : ℕ) (buffer : List ℕ) → laid i (x ∷ []) buffer ≡ set buffer i x
unfolding laid
laid_one i x [] = refl
laid_one zero x (b ∷ buffer) = ap {B = List ℕ} (λ l. x ∷ l) (laid_none zero buffer)
laid_one (suc i) x (b ∷ buffer) = ap {B = List ℕ} (λ l. b ∷ l) (laid_one i x buffer)

pub laid_past : (i x : ℕ) (buffer : List ℕ) → length buffer ≤ i → laid i (x ∷ []) buffer ≡ buffer
laid_past i x buffer h = laid_one i x buffer ∙ set_out buffer i x h

laid_append : (i r : ℕ) (w v buffer : List ℕ) → r ≡ i + length w → laid r v (laid i w buffer) ≡ laid i (w ++ v) buffer
unfolding laid
laid_append i r w v [] h = refl
laid_append zero zero [] v (b ∷ buffer) h = refl
laid_append zero (suc r) [] v (b ∷ buffer) h = absurd (omega arith)
laid_append zero zero (x ∷ w) v (b ∷ buffer) h = absurd (omega arith)
laid_append zero (suc r) (x ∷ w) v (b ∷ buffer) h = ap {B = List ℕ} (λ l. x ∷ l) (laid_append zero r w v buffer (omega arith))
laid_append (suc i) zero w v (b ∷ buffer) h = absurd (omega arith)
laid_append (suc i) (suc r) w v (b ∷ buffer) h = ap {B = List ℕ} (λ l. b ∷ l) (laid_append i r w v buffer (omega arith))

module _ {i : ℕ} {w before : List ℕ} {r : ℕ} {after : List ℕ} (first : Writes i w before r after) where
  -- a buffer keeps its length
  pub writes_length : length after ≡ length before
  writes_length = ap length first.content ∙ laid_length i w before

  -- one piece behind another
  pub writes_then : {v : List ℕ} {r' : ℕ} {after' : List ℕ} → Writes r v after r' after' → Writes i (w ++ v) before r' after'
  writes_then {v} {r'} {after'} second =
      record {
        content = second.content ∙ (ap (laid r v) first.content ∙ laid_append i r w v before first.end);
        end = omega (arith, length-append w v, second.end, first.end);
      }

pub writes_none : (i : ℕ) (buffer : List ℕ) → Writes i [] buffer i buffer
writes_none i buffer = record { content = sym (laid_none i buffer); end = omega arith }

-- What is forced follows: a word that agrees and has the other value fails, so one that passes has this value. So no word is lost where forced bits stay
-- settled; and where nothing passes behind them, nothing does before. Assumes nothing.
use Prim.Native.Nat.{ℕ, ◌-◌}
use mathlib.Core.Bool.{Bool, true, false}
use mathlib.Core.Logic.{inl, inr, ⊎_elim}
use mathlib.Core.Path.{◌≡◌}
use native.Mathlib.Omega.{arith}
use Rattle.base.proofs.Tests.{test, clash}
use Rattle.masks.specs.Bit.{bit}
use Rattle.masks.proofs.Bits.{bit_le}
use Rattle.look.specs.Reason.{Reason, Forces, more, Setting}
use Rattle.look.proofs.Agreement.{agree_among, among_by}
use Rattle.look.proofs.Values.{Choice, other, other_here}
use Rattle.question.specs.Reason.{Agrees, Sound, Follows, Passing, LeastWord}
use Rattle.question.proofs.More.{more_sound, more_falls, agrees_fewer, agrees_more}
use Rattle.question.proofs.Resolution.{eq_or_other}
use Rattle.question.proofs.Solving.{forced}
use Rattle.question.proofs.Walk.{Walked}

-- a reason, and a word that agrees with all that is settled
fails : {P : ℕ → Bool} {s : Setting} {m : ℕ} → Reason P s m → (w : ℕ) → Agrees s w → P w ≡ false
fails {P} {s} {m} r w g = r.why w (agree_among m s.bits w s.values r.among g)

-- nothing is forced
pub follows_none : {width : ℕ} {P : ℕ → Bool} {s : Setting} → Sound width s → Follows width P s s
follows_none ok = record { sound = ok; beyond = omega arith; narrower = λ w g. g; kept = λ w e g. g }

module _ {width : ℕ} {P : ℕ → Bool} {s r : Setting} (F : Follows width P s r) where
  -- one bit more is forced
  pub follows_more : {reason b value : ℕ} → Forces width P r reason b value → Follows width P s (more r b value)
  follows_more {reason} {b} {value} X =
      record {
        sound = more_sound C F.sound;
        beyond = omega (arith, F.beyond, (more_falls C F.sound).one);
        narrower = λ w g. F.narrower w (agrees_fewer C w g);
        kept = λ w e g. agrees_more C w (F.kept w e g) (has w e (F.kept w e g));
      }
    where
      C : Choice width r b value
      C = forced F.sound X

      has : (w : ℕ) → P w ≡ true → Agrees r w → bit w C.free.k ≡ bit value C.free.k
      has w e g =
          ⊎_elim
          (λ q. q)
          (λ q. absurd (clash e (fails X.fails w (agrees_more (other C) w g q))))
          (eq_or_other (bit w C.free.k) (bit value C.free.k) (bit (b - value) C.free.k) (bit_le w C.free.k) (other_here C))

  -- nothing passes
  pub follows_fails : {m : ℕ} → Reason P r m → Reason P s s.bits
  follows_fails q =
      record {
        among = among_by s.bits s.bits (λ j. omega arith);
        why = λ w g. test (P w) (λ e. absurd (clash e (fails q w (F.kept w e g)))) (λ e. e);
      }

  -- a word with the least front of those that agree with r has the least of those that agree with s
  pub follows_least : {front w : ℕ} → LeastWord width P front r w → LeastWord width P front s w
  follows_least {w = w} L =
      record {
        word = record { fits = L.word.fits; agrees = F.narrower w L.word.agrees; true_of = L.word.true_of };
        least = λ t g e. L.least t (F.kept t e g) e;
      }

-- the walk goes on from what follows
pub walked_follows : {width : ℕ} {P : ℕ → Bool} {front : ℕ} {s r q : Setting} {w : ℕ} → Walked width P front s r w → Follows width P r q
    → Walked width P front s q w
walked_follows {width} {P} {r = r} {w = w} W F =
    record {
      stands = record {
        sound = F.sound;
        word = record { fits = p.fits; agrees = F.kept w p.true_of p.agrees; true_of = p.true_of };
      };
      keeps = record {
        narrower = λ x g. W.keeps.narrower x (F.narrower x g);
        kept = λ t e g. ⊎_elim (λ a. inl (F.kept t e a)) (λ b. inr (λ x a. b x (F.narrower x a))) (W.keeps.kept t e g);
      };
    }
  where
    p : Passing width P r w
    p = W.stands.word

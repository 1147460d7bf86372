-- What is told, of the one list that there is: the refusals in their order, or what the store was filled with. Assumes nothing.
use Prim.Native.Nat.{ℕ, zero, suc, ◌%◌, ◌^◌, ◌≤◌, ◌<◌}
use mathlib.Core.Bool.{not}
use mathlib.Core.List.{List}
use mathlib.Core.Path.{◌≡◌, refl, sym, ◌∙◌}
use native.Mathlib.Omega.{arith}
use borrow.Author.Tests.{lt-ltb, le-ltb}
use lib.Dec.{ltb}
use Rattle.std.specs.Prelude.{Result, Err}
use Rattle.base.specs.Refusals.{◌if◌}
use Rattle.base.specs.Numbers.{number_of}
use Rattle.base.specs.declared.Refusal.{Refusal}
use Rattle.base.proofs.Refusals.{else_first, else_none, number_not_none}
use Rattle.masks.proofs.OneBit.{pow_within}
use Rattle.system.specs.System.{System, some_true, pair, model, refusal_of}
use Rattle.system.proofs.Refusals.{size_right, refusal_none}
use Rattle.into.specs.Into.{Into, refused, result, told}
use Rattle.into.specs.Promise.{result_of, Promised, Filled}
use Rattle.into.specs.declared.Listing.{Listing}
use Rattle.into.specs.declared.Unlisted.{Unlisted}
use Rattle.into.proofs.Lists.{lists_some, lists_unique}

module _ (y : System) (t : ℕ) where
  -- the system's own refusals come first
  pub number_refused : (f : Refusal) → number_of f ≡ refusal_of y → number_of f ≡ refused y t
  unfolding refused
  number_refused f e = else_first (number_of f) (refusal_of y) _ e (number_not_none f)

  -- past them n is at most 32
  small : refusal_of y ≡ 0 → y.n ≤ 32
  small e = (size_right y.n y.w (refusal_none y e).0).1

  -- so 2^n fits the code's numbers, and the given state is held to it
  module _ (end : ℕ) (free : refusal_of y ≡ 0) (e : end ≡ 2 ^ y.n % 2 ^ 64) where
    whole : end ≡ 2 ^ y.n
    whole = let h = small free in e ∙ pow_within 64 y.n (omega arith)

    pub state_taken : t < end → 0 ≡ refused y t
    unfolding refused
    state_taken h = let l : t < 2 ^ y.n = omega (arith, whole) in sym (rw (free, refused) (rw lt-ltb))

    pub state_refused : end ≤ t → 29 ≡ refused y t
    unfolding refused
    state_refused h = let l : 2 ^ y.n ≤ t = omega (arith, whole) in sym (rw (free, refused) (rw le-ltb))

  pub refused_small : refused y t ≡ 0 → y.n ≤ 32
  unfolding refused
  refused_small e = small (else_none (refusal_of y) (29 if not (ltb t (2 ^ y.n))) e).0

  -- the list that there is
  module _ (lent : List ℕ) (r : Result Listing Unlisted) (after : List ℕ) where
    promised : ((xs : List ℕ) → Into (model y) t xs → result_of r after ≡ told y t xs lent) → Promised y t lent r after
    promised f =
        let some = lists_some (λ s. (model y).step s t) (model y).size in
        record {
          list = some.0;
          is = some.1;
          only = λ xs l. lists_unique (λ s. (model y).step s t) l some.1;
          equation = f some.0 some.1;
        }

    pub promised_filled : refused y t ≡ 0 → Filled (2 ^ y.n) (λ s. some_true y.w y.step (pair s t)) lent r after → Promised y t lent r after
    unfolding told model
    promised_filled e f = promised (λ xs l. f xs l ∙ sym (rw (e, told)))

  told_refused : (lent xs : List ℕ) (number : ℕ) → number ≡ refused y t → (number ≡ 0 → ⊥) → result number 0 0 lent ≡ told y t xs lent
  unfolding told
  told_refused lent xs zero e f = absurd (f refl)
  told_refused lent xs (suc k) e f = rw (← e, told)

  pub promised_refused : (lent : List ℕ) (f : Refusal) → number_of f ≡ refused y t → Promised y t lent (Err (record { refusal = f; questions = 0 })) lent
  promised_refused lent f e = promised lent _ lent (λ xs l. told_refused lent xs (number_of f) e (number_not_none f))

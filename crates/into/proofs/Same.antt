-- What is answered is told whole: two answers and stores that are told alike are the same, so the equation of the promise fixes both. Assumes nothing.
use Prim.Native.Nat.{ℕ}
use mathlib.Core.List.{List}
use mathlib.Core.Path.{◌≡◌, sym, ap, ◌∙◌}
use Rattle.std.specs.Prelude.{Ok, Err}
use Rattle.std.specs.Prelude as std
use Rattle.base.specs.declared.Refusal.{Refusal}
use Rattle.base.proofs.Refusals.{number_not_none}
use Rattle.base.proofs.Named.{number_same}
use Rattle.into.specs.Into.{Result}
use Rattle.into.specs.Promise.{result_of}
use Rattle.into.specs.declared.Listing.{Listing}
use Rattle.into.specs.declared.Unlisted.{Unlisted}

pub result_same : (r s : std.Result Listing Unlisted) (a b : List ℕ) → result_of r a ≡ result_of s b → (r ≡ s) × (a ≡ b)
result_same (Ok l) (Ok m) a b e = (ap (λ (t : Result). Ok (record { count = t.count; questions = t.questions })) e, ap (λ (t : Result). t.after) e)
result_same (Ok l) (Err v) a b e = absurd (number_not_none v.refusal (sym (ap (λ (t : Result). t.number) e)))
result_same (Err u) (Ok m) a b e = absurd (number_not_none u.refusal (ap (λ (t : Result). t.number) e))
result_same (Err u) (Err v) a b e = (
  ap (λ (r : Refusal). Err (record { refusal = r; questions = u.questions })) (number_same _ _ (ap (λ (t : Result). t.number) e))
      ∙ ap (λ (q : ℕ). Err (record { refusal = v.refusal; questions = q })) (ap (λ (t : Result). t.questions) e),
  ap (λ (t : Result). t.after) e,
)

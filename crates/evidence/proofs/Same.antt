-- What the checks answer is told whole: two answers that are told alike are one, so the equation of a promise fixes the answer. Assumes nothing.
use mathlib.Core.Path.{◌≡◌, refl, sym, ap, ◌∙◌}
use Rattle.std.specs.Prelude.{Result, Ok, Err}
use Rattle.base.specs.declared.Refusal.{Refusal}
use Rattle.base.proofs.Named.{named, named_number}
use Rattle.evidence.specs.Check.{Checked, Yes, No, Refused}
use Rattle.evidence.specs.Told.{checked_of}
use Rattle.evidence.specs.declared.Checked as code
use Rattle.evidence.specs.declared.Checked.TheVariants as told

answer : Checked → Result code.Checked Refusal
answer (Yes questions) = Ok (told.Yes questions)
answer (No questions) = Ok (told.No questions)
answer (Refused number) = Err (named number)

answered : (r : Result code.Checked Refusal) → answer (checked_of r) ≡ r
unfolding answer
answered (Ok (told.Yes questions)) = refl
answered (Ok (told.No questions)) = refl
answered (Err r) = ap Err (named_number r)

pub checked_same : (r s : Result code.Checked Refusal) → checked_of r ≡ checked_of s → r ≡ s
checked_same r s e = sym (answered r) ∙ ap answer e ∙ answered s

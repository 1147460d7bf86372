-- What the checks tell, in the terms of the definition: a refusal by its number.
use Rattle.std.specs.Prelude.{Result, Ok, Err}
use Rattle.base.specs.Numbers.{number_of}
use Rattle.base.specs.declared.Refusal.{Refusal}
use Rattle.evidence.specs.Check.{Checked, Yes, No, Refused}
use Rattle.evidence.specs.declared.Checked as code
use Rattle.evidence.specs.declared.Checked.TheVariants as told

abbrev pub told_of : code.Checked → Checked
told_of (told.Yes questions) = Yes questions
told_of (told.No questions) = No questions

abbrev pub checked_of : Result code.Checked Refusal → Checked
checked_of (Ok c) = told_of c
checked_of (Err r) = Refused (number_of r)

-- What `parse` tells, in the terms of the definition: a list by its kind, a refusal by its number.
use Rattle.std.specs.Prelude.{ℕ, Result, Ok, Err}
use Rattle.base.specs.Numbers as base
use Rattle.base.specs.declared.Refusal.{Refusal}
use Rattle.line.specs.Says.{Line, Size, Clause, Count, Wrong}
use Rattle.line.specs.declared.Line as code
use Rattle.line.specs.declared.Line.TheVariants as line
use Rattle.line.specs.declared.List.{List}
use Rattle.line.specs.declared.List.TheVariants as list

-- the kind of a list's clauses
abbrev pub number_of : List → ℕ
number_of list.Start = 1
number_of list.Step = 2
number_of list.Bad = 3

abbrev pub said_of : Result code.Line Refusal → Line
said_of (Ok (line.Size n)) = Size n
said_of (Ok (line.Clause l ones zeros)) = Clause (number_of l) ones zeros
said_of (Ok (line.Count count)) = Count count
said_of (Err r) = Wrong (base.number_of r)

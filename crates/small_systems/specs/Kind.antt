-- The numbers of the kinds of lists.
use Rattle.std.specs.Prelude.{ℕ}
use Rattle.small_systems.specs.declared.Kind.{Kind}
use Rattle.small_systems.specs.declared.Kind.TheVariants.{Nothing, Everything, Part, Clauses, Chain, Loops, Down, Counter, Gates, Barred}

abbrev pub number_of : Kind → ℕ
number_of Nothing = 0
number_of Everything = 1
number_of Part = 2
number_of Clauses = 3
number_of Chain = 4
number_of Loops = 5
number_of Down = 6
number_of Counter = 7
number_of Gates = 8
number_of Barred = 9

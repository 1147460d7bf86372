-- What a line says is told whole: two answers that are told alike are one, so the equation of the promise fixes the answer. Assumes nothing.
use Prim.Native.Nat.{ℕ}
use mathlib.Core.Bool.{true, false}
use mathlib.Core.Path.{◌≡◌, refl, sym, ap, ◌∙◌}
use Rattle.std.specs.Prelude.{Result, Ok, Err, eqb}
use Rattle.base.specs.declared.Refusal.{Refusal}
use Rattle.base.proofs.Named.{named, named_number}
use Rattle.line.specs.Says.{Line, Size, Clause, Count, Wrong}
use Rattle.line.specs.Told.{number_of, said_of}
use Rattle.line.specs.declared.Line as code
use Rattle.line.specs.declared.Line.TheVariants as line
use Rattle.line.specs.declared.List.{List}
use Rattle.line.specs.declared.List.TheVariants as list

-- the list whose clauses are of a kind
of_kind : ℕ → List
of_kind k = elim (eqb k 1) [ true ↦ list.Start | false ↦ elim (eqb k 2) [ true ↦ list.Step | false ↦ list.Bad ] ]

kind_of : (l : List) → of_kind (number_of l) ≡ l
unfolding of_kind
kind_of list.Start = refl
kind_of list.Step = refl
kind_of list.Bad = refl

answer : Line → Result code.Line Refusal
answer (Size n) = Ok (line.Size n)
answer (Clause k ones zeros) = Ok (line.Clause (of_kind k) ones zeros)
answer (Count count) = Ok (line.Count count)
answer (Wrong k) = Err (named k)

answered : (r : Result code.Line Refusal) → answer (said_of r) ≡ r
unfolding answer
answered (Ok (line.Size n)) = refl
answered (Ok (line.Clause l ones zeros)) = ap (λ (k : List). Ok (line.Clause k ones zeros)) (kind_of l)
answered (Ok (line.Count count)) = refl
answered (Err r) = ap Err (named_number r)

pub said_same : (r s : Result code.Line Refusal) → said_of r ≡ said_of s → r ≡ s
said_same r s e = sym (answered r) ∙ ap answer e ∙ answered s

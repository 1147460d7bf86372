-- The numbers of the refusals. 0 is no refusal.
use Rattle.std.specs.Prelude.{ℕ, Result, Ok, Err}
use Rattle.base.specs.declared.Refusal.{Refusal}
use Rattle.base.specs.declared.Refusal.TheVariants as refusal

abbrev pub number_of : Refusal → ℕ
number_of refusal.Size = 1
number_of refusal.Masks = 2
number_of refusal.Bits = 3
number_of refusal.Stores = 4
number_of refusal.Evidence = 7
number_of refusal.Digits = 8
number_of refusal.Sum = 9
number_of refusal.Kind = 10
number_of refusal.Length = 11
number_of refusal.Room = 12
number_of refusal.Count = 13
number_of refusal.Form = 20
number_of refusal.TooFew = 21
number_of refusal.Latches = 22
number_of refusal.Wires = 23
number_of refusal.Variables = 24
number_of refusal.Loop = 25
number_of refusal.Watched = 26
number_of refusal.Justice = 27
number_of refusal.StartValue = 28
number_of refusal.Given = 29
number_of refusal.Store = 30
number_of refusal.ClauseStore = 32

-- of what succeeds or is refused: 0, or the refusal's number
abbrev pub code_of : {A : Type 0} → Result A Refusal → ℕ
code_of (Ok a) = 0
code_of (Err r) = number_of r

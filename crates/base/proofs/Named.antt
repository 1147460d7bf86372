-- A number names one refusal: no two have the same, so what is told by its number is told whole. Assumes nothing.
use Prim.Native.Nat.{ℕ}
use mathlib.Core.Bool.{true, false}
use mathlib.Core.Path.{◌≡◌, refl, sym, ap, ◌∙◌}
use Rattle.std.specs.Prelude.{eqb, Result, Ok, Err}
use Rattle.base.specs.Numbers.{number_of, code_of}
use Rattle.base.specs.declared.Fault.{Fault}
use Rattle.base.specs.declared.Refusal.{Refusal}
use Rattle.base.proofs.Refusals.{number_not_none}
use Rattle.base.specs.declared.Refusal.TheVariants.{Size, Masks, Bits, Stores, Evidence, Digits, Sum, Kind, Length, Room, Count, Form, TooFew, Latches, Wires, Variables, Loop, Watched, Justice, StartValue, Given, Store, ClauseStore}

at : ℕ → ℕ → Refusal → Refusal → Refusal
at k number r next = elim (eqb k number) [ true ↦ r | false ↦ next ]

-- the refusal that a number names, where it names one
pub named : ℕ → Refusal
named k =
    at k 1 Size
    (at k 2 Masks
    (at k 3 Bits
    (at k 4 Stores
    (at k 7 Evidence
    (at k 8 Digits
    (at k 9 Sum
    (at k 10 Kind
    (at k 11 Length
    (at k 12 Room
    (at k 13 Count
    (at k 20 Form
    (at k 21 TooFew
    (at k 22 Latches
    (at k 23 Wires
    (at k 24 Variables
    (at k 25 Loop
    (at k 26 Watched
    (at k 27 Justice
    (at k 28 StartValue
    (at k 29 Given
    (at k 30 Store
    ClauseStore)))))))))))))))))))))

pub named_number : (r : Refusal) → named (number_of r) ≡ r
unfolding named at
named_number Size = refl
named_number Masks = refl
named_number Bits = refl
named_number Stores = refl
named_number Evidence = refl
named_number Digits = refl
named_number Sum = refl
named_number Kind = refl
named_number Length = refl
named_number Room = refl
named_number Count = refl
named_number Form = refl
named_number TooFew = refl
named_number Latches = refl
named_number Wires = refl
named_number Variables = refl
named_number Loop = refl
named_number Watched = refl
named_number Justice = refl
named_number StartValue = refl
named_number Given = refl
named_number Store = refl
named_number ClauseStore = refl

pub number_same : (r s : Refusal) → number_of r ≡ number_of s → r ≡ s
number_same r s e = sym (named_number r) ∙ ap named e ∙ named_number s

-- nor do two refusals with their lines
pub fault_same : (f g : Fault) → number_of f.refusal ≡ number_of g.refusal → f.line ≡ g.line → f ≡ g
fault_same f g e l =
    ap (λ (r : Refusal). record { refusal = r; line = f.line }) (number_same f.refusal g.refusal e)
    ∙ ap (λ (k : ℕ). record { refusal = g.refusal; line = k }) l

-- nor two of what succeeds with nothing to say, or is refused
pub code_same : (r s : Result Unit Refusal) → code_of r ≡ code_of s → r ≡ s
code_same (Ok a) (Ok b) e = refl
code_same (Ok a) (Err s) e = absurd (number_not_none s (sym e))
code_same (Err r) (Ok b) e = absurd (number_not_none r e)
code_same (Err r) (Err s) e = ap Err (number_same r s e)

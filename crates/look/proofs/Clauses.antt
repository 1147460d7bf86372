-- A clause of four masks is a clause over the 128 positions of a word: its literals at the first 64 are those of the pair's masks, at the others those of the
-- wires'. Assumes nothing.
use mathlib.Core.Logic.{⊎_elim}
use Prim.Native.Nat.{◌+◌, ◌/◌, ◌%◌, ◌^◌}
use native.Mathlib.Omega.{arith}
use Rattle.masks.specs.Word.{width, word_of}
use Rattle.masks.proofs.Halves.{bit_mod, bit_div}
use Rattle.masks.proofs.Somewhere.{or_fails}
use Rattle.masks.proofs.Words.{low_width, high_width, which_word, first_word, second_word}
use Rattle.system.specs.System.{clause_true, four_true}
use Rattle.system.specs.declared.Clause.{Clause}
use Rattle.system.proofs.Clauses.{clause_literals}
use Rattle.look.specs.Look.{clause_of}
use Rattle.look.proofs.Forcing.{Clausal}

pub clause_of_lem : (c : Clause) → Clausal width (clause_of c) (word_of c.ones) (word_of c.zeros)
unfolding clause_of four_true
clause_of_lem c w =
    let pairs = clause_true c.ones.pair c.zeros.pair (w % 2 ^ 64) in
    let wires = clause_true c.ones.wires c.zeros.wires (w / 2 ^ 64) in (
      λ e i l.
          let both = (or_fails pairs wires).0 e in
          ⊎_elim
          (λ h. omega (
            arith,
            (clause_literals c.ones.pair c.zeros.pair (w % 2 ^ 64)).0 both.0 i h,
            first_word c.ones i h,
            first_word c.zeros i h,
            bit_mod 64 i w h,
          ))
          (λ h. rw h.2 (omega (
            arith,
            (clause_literals c.ones.wires c.zeros.wires (w / 2 ^ 64)).0 both.1 h.0 h.1,
            second_word c.ones h.0 h.1,
            second_word c.zeros h.0 h.1,
            bit_div 64 h.0 w,
          )))
          (which_word i l),
      λ f.
          (or_fails pairs wires).1 (
            (clause_literals c.ones.pair c.zeros.pair (w % 2 ^ 64)).1
                (λ i h. omega (arith, f i (low_width i h), first_word c.ones i h, first_word c.zeros i h, bit_mod 64 i w h)),
            (clause_literals c.ones.wires c.zeros.wires (w / 2 ^ 64)).1
                (λ i h. omega (arith, f (64 + i) (high_width i h), second_word c.ones i h, second_word c.zeros i h, bit_div 64 i w)),
          ),
    )

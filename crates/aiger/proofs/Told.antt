-- A text that says a circuit: each of its parts is whole. So it has a line for the header, one for each input and one for each latch, and there are no
-- more lines than bytes. Assumes nothing.
use Prim.Native.Nat.{ℕ, ◌+◌, ◌/◌, ◌≤◌}
use mathlib.Core.Bool.{Bool, true, false}
use mathlib.Core.List.{List, [], ◌∷◌}
use mathlib.Core.Option.{Option, none, some}
use mathlib.Core.Path.{◌≡◌, refl, sym, ap, subst}
use native.Mathlib.Omega.{arith}
use lib.ListN.{length}
use Rattle.base.proofs.Tests.{test, clash}
use Rattle.text.specs.Lines.{lines}
use Rattle.circuit.specs.Circuit.{Circuit}
use Rattle.aiger.specs.Text.{Part, broken, whole, circuit_of, header_of, Told, malformed, told, behind, defines, latch_form, parts_of}
use Rattle.aiger.specs.Text.{asks_justice, behind_header, lines_tell, tells}
use Rattle.aiger.specs.declared.read.Header.{Header}
use Rattle.aiger.proofs.Threes.{length_threes, latches_many}
use Rattle.aiger.proofs.Rows.{part_whole}
use Rattle.aiger.proofs.Cut.{lines_most, In, part_in}

-- a text says a circuit or it does not
abbrev circuit? : Told → Bool
circuit? (malformed number k) = false
circuit? (told m c) = true

pub never : {C : Type 0} {number k m : ℕ} {c : Circuit} → malformed number k ≡ told m c → C
never e = clash refl (ap circuit? (sym e))

abbrev circuit_of_lem : Circuit → Told → Circuit
circuit_of_lem other (malformed number k) = other
circuit_of_lem other (told m c) = c

pub same_circuit : {m n : ℕ} {c d : Circuit} → told m c ≡ told n d → c ≡ d
same_circuit {c = c} e = ap (circuit_of_lem c) e

-- what stands behind a part says a circuit, so the part is whole
pub record Behind (p : Part) (next : List ℕ → ℕ → List (List ℕ) → Told) (m : ℕ) (c : Circuit) : Type 0 where
  pub rows : List ℕ
  pub line : ℕ
  pub others : List (List ℕ)
  pub is_whole : p ≡ whole rows line others
  pub says : next rows line others ≡ told m c

pub behind_told : (p : Part) (next : List ℕ → ℕ → List (List ℕ) → Told) (m : ℕ) (c : Circuit) → behind p next ≡ told m c → Behind p next m c
unfolding behind
behind_told (broken k) next m c e = never e
behind_told (whole rows line others) next m c e = record { rows = rows; line = line; others = others; is_whole = refl; says = e }

-- ---- the lines
module _ (h : Header) (inputs latches singles gates : List ℕ) where
  made_inputs : length (circuit_of h inputs latches singles gates).inputs ≡ length inputs / 3
  unfolding circuit_of
  made_inputs = length_threes _ inputs

  made_latches : length (circuit_of h inputs latches singles gates).latches ≡ length latches / 3
  unfolding circuit_of
  made_latches = latches_many latches

module _ (h : Header) (ls : List (List ℕ)) (m : ℕ) (c : Circuit) where
  parts_lines : parts_of h ls ≡ told m c → length c.inputs + length c.latches ≤ length ls
  unfolding parts_of
  parts_lines e =
      let i = behind_told _ _ m c e in
      let l = behind_told _ _ m c i.says in
      let s = behind_told _ _ m c l.says in
      let g = behind_told _ _ m c s.says in
      let most = 2 + length ls in
      let inputs = part_whole _ _ _ _ i.is_whole in
      let latches = part_whole _ _ _ _ l.is_whole in
      let first = subst (In 2 most) i.is_whole (part_in (defines h 1) h.inputs 2 ls 2 most (omega arith) (omega arith)) in
      let second =
      subst (In 2 most) l.is_whole (part_in (latch_form h) h.latches i.line i.others 2 most first.0 first.1) in
      rw (← same_circuit g.says)
      (omega (
        arith,
        made_inputs h i.rows l.rows s.rows g.rows,
        made_latches h i.rows l.rows s.rows g.rows,
        inputs.many,
        inputs.next,
        latches.many,
        latches.next,
        second.1,
      ))

  behind_lines : behind_header h ls ≡ told m c → length c.inputs + length c.latches ≤ length ls
  unfolding behind_header
  behind_lines e =
      test (asks_justice h) (λ j. never (rw (j, behind_header) at e)) (λ j. parts_lines (rw (j, behind_header) at e))

module _ (newer : Bool) (m : ℕ) (c : Circuit) where
  lines_told : (ls : List (List ℕ)) → lines_tell newer ls ≡ told m c → 1 + length c.inputs + length c.latches ≤ length ls
  unfolding lines_tell
  lines_told [] e = never e
  lines_told (l ∷ ls) e = by_header (header_of newer l) refl
    where
      by_header : (o : Option Header) → header_of newer l ≡ o → 1 + length c.inputs + length c.latches ≤ length (l ∷ ls)
      by_header none q = never (rw (q, lines_tell) at e)
      by_header (some h) q = omega (arith, behind_lines h ls m c (rw (q, lines_tell) at e))

  pub told_lines_lem : (text : List ℕ) → tells newer text ≡ told m c → 1 + length c.inputs + length c.latches ≤ length text
  unfolding tells
  told_lines_lem text e = omega (arith, lines_told (lines text) e, lines_most text)

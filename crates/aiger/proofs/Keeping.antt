-- Rows that were written in the order of the file stand in the order of their places: latches, inputs, gates. So what was kept can be judged. Assumes
-- nothing.
use Prim.Native.Nat.{ℕ, zero, suc, ◌+◌, ◌*◌, ◌≤◌}
use mathlib.Core.Bool.{false}
use mathlib.Core.List.{List, [], ◌∷◌, ◌++◌, append_assoc}
use mathlib.Core.Path.{◌≡◌, refl, sym, ap, ◌∙◌}
use native.Mathlib.Omega.{arith}
use lib.ListN.{length, take, drop, length-append, length-drop, take-append-drop}
use lib.Seq.{length-take-le, take_at, drop_at}
use Rattle.text.specs.Writing.{laid}
use Rattle.circuit.specs.Circuit.{any}
use Rattle.circuit.specs.Refusals.{wrong_start}
use Rattle.aiger.specs.Text.{latches_of, Told}
use Rattle.aiger.specs.Inner.{flattened, most_rows, Kept, too_few, header_refusal, Held}
use Rattle.aiger.specs.declared.table.Row.{Row}
use Rattle.aiger.specs.declared.read.Reading.{Reading}
use Rattle.aiger.proofs.Heading.{header_limits}
use Rattle.aiger.proofs.Threes.{flat_length, flat_take}

-- ---- a list written over a front part, and behind one
laid_behind : (p q w : List ℕ) (i : ℕ) → length p ≡ i → laid i w (p ++ q) ≡ p ++ laid 0 w q
unfolding laid
laid_behind [] q w zero e = refl
laid_behind [] q w (suc i) e = absurd (omega arith)
laid_behind (x ∷ p) q w zero e = absurd (omega arith)
laid_behind (x ∷ p) q w (suc i) e = ap {B = List ℕ} (λ l. x ∷ l) (laid_behind p q w i (omega arith))

laid_over : (w q : List ℕ) → length w ≤ length q → laid 0 w q ≡ w ++ drop (length w) q
unfolding laid
laid_over [] [] h = refl
laid_over [] (b ∷ q) h = refl
laid_over (x ∷ w) [] h = absurd (omega arith)
laid_over (x ∷ w) (b ∷ q) h = ap {B = List ℕ} (λ l. x ∷ l) (laid_over w q (omega arith))

-- ---- three parts: the second first, then the first, then the third
module _ (a b c buffer : List ℕ) (fits : length a + length b + length c ≤ length buffer) where
  second : laid (length a) b buffer ≡ take (length a) buffer ++ (b ++ drop (length b) (drop (length a) buffer))
  second =
      ap (laid (length a) b) (sym (take-append-drop (length a) buffer))
      ∙ laid_behind (take (length a) buffer) (drop (length a) buffer) b (length a) (length-take-le (length a) buffer (omega arith))
      ∙ ap (λ l. take (length a) buffer ++ l) (laid_over b (drop (length a) buffer) (omega (arith, length-drop (length a) buffer)))

  first : laid 0 a (laid (length a) b buffer) ≡ a ++ (b ++ drop (length b) (drop (length a) buffer))
  first =
      let taken = length-take-le (length a) buffer (omega arith) in
      rw second
      (laid_over a (take (length a) buffer ++ (b ++ drop (length b) (drop (length a) buffer)))
      (omega (arith, taken, length-append (take (length a) buffer) (b ++ drop (length b) (drop (length a) buffer))))
      ∙ ap (λ l. a ++ l) (drop_at (take (length a) buffer) (b ++ drop (length b) (drop (length a) buffer)) (length a) taken))

  pub third : take (length a + length b + length c) (laid (length a + length b) c (laid 0 a (laid (length a) b buffer))) ≡ a ++ (b ++ c)
  third =
      let rest = drop (length b) (drop (length a) buffer) in
      let left : length c ≤ length rest = omega (arith, length-drop (length b) (drop (length a) buffer), length-drop (length a) buffer) in
      rw (
        first,
        ← append_assoc a b rest,
        laid_behind (a ++ b) rest c (length a + length b) (length-append a b),
        laid_over c rest left,
        ← append_assoc (a ++ b) c (drop (length c) rest),
      )
      (take_at ((a ++ b) ++ c) (drop (length c) rest) (length a + length b + length c) (omega (arith, length-append (a ++ b) c, length-append a b))
      ∙ append_assoc a b c)

-- ---- what was kept
unfoldable pub kept_held : (text : List ℕ) (what : Told) (before : List Row) (r : Reading) (after : List Row)
    → (k : Kept text what (flattened before) r (flattened after)) → length before ≡ most_rows → too_few r.header ≡ false
    → any wrong_start (latches_of k.latches) ≡ false → header_refusal r.header ≡ 0
    → Held text r (take (r.header.latches + r.header.inputs + r.header.gates) after)
kept_held text what before r after k e enough right f =
    let n = k.counted in
    let l = header_limits r.header f in
    let i : 3 * r.header.latches ≡ length k.latches = sym n.many_latches in
    let j : 3 * r.header.latches + 3 * r.header.inputs ≡ length k.latches + length k.inputs =
    omega (arith, n.many_latches, n.many_inputs) in
    let m : 3 * (r.header.latches + r.header.inputs + r.header.gates) ≡ length k.latches + length k.inputs + length k.gates =
    omega (arith, n.many_latches, n.many_inputs, n.many_gates) in
    record {
      inputs = k.inputs;
      latches = k.latches;
      singles = k.singles;
      gates = k.gates;
      counted = n;
      content =
          flat_take (r.header.latches + r.header.inputs + r.header.gates) after
          ∙ rw (k.content, j, i, m)
          (third k.latches k.inputs k.gates (flattened before)
          (omega (arith, e, flat_length before, n.many_latches, n.many_inputs, n.many_gates, l.latches, l.wires)));
      enough = enough;
      right = right;
      header = f;
    }

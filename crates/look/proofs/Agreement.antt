-- Agreement and containment of masks, read bit by bit: two words agree on a mask if they have the same bit wherever the mask has a 1, and a mask
-- is among another if the other has a 1 wherever it has. With these two readings both ways, what is to be shown of words is shown at one
-- position at a time. Assumes nothing.
use Prim.Native.Nat.{ℕ, ◌≤◌}
use mathlib.Core.Logic.{⊎_elim}
use mathlib.Core.Path.{◌≡◌}
use native.Mathlib.Omega.{arith}
use lib.Bits.{bit_and, and_le_r}
use Rattle.masks.specs.Bit.{bit}
use Rattle.masks.proofs.Bits.{bit_le, bit_cases, bits_ext, at_bit}
use Rattle.masks.proofs.Operations.{meet}
use Rattle.look.specs.Reason.{Agree, Among}

pub agree_at : (m w v : ℕ) → Agree m w v → (j : ℕ) → bit m j ≡ 1 → bit w j ≡ bit v j
unfolding Agree
agree_at m w v e j o = omega (arith, meet w m j, meet v m j, at_bit j e)

pub agree_by : (m w v : ℕ) → ((j : ℕ) → bit m j ≡ 1 → bit w j ≡ bit v j) → Agree m w v
unfolding Agree
agree_by m w v h =
    bits_ext (bit_and w m) (bit_and v m)
    (λ j. ⊎_elim
    (λ z. omega (arith, meet w m j, meet v m j))
    (λ o. omega (arith, meet w m j, meet v m j, h j o))
    (bit_cases m j))

pub among_at : (m s : ℕ) → Among m s → (j : ℕ) → bit m j ≤ bit s j
unfolding Among
among_at m s e j = omega (arith, meet m s j, at_bit j e)

pub among_by : (m s : ℕ) → ((j : ℕ) → bit m j ≤ bit s j) → Among m s
unfolding Among
among_by m s h = bits_ext (bit_and m s) m (λ j. omega (arith, meet m s j, h j))

-- a mask among another is no larger
pub among_le : (m s : ℕ) → Among m s → m ≤ s
unfolding Among
among_le m s e = omega (arith, and_le_r m s)

-- words that agree on a mask agree on what is among it
pub agree_among : (m s w v : ℕ) → Among m s → Agree s w v → Agree m w v
agree_among m s w v a g =
    agree_by m w v (λ j o. agree_at s w v g j (omega (arith, among_at m s a j, bit_le s j)))

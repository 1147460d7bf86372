-- Excluded states. A state is excluded exactly if some entry of the store is that state, with a level of i or more; so entries are looked at one
-- by one. An entry below 2^32 is a clause too: it wants a 0 where the entry has a 1, and a 1 where it has a 0. Such a clause is false of a word only
-- if the word's state is the entry, bit by bit; so what it says of settled bits, the store says as well. Assumes nothing.
use mathlib.Core.Path.{◌≡◌, refl, sym, ◌∙◌}
use mathlib.Core.Bool.{Bool, true, false, ◌&&◌, not-eq-not}
use mathlib.Core.List.{List, [], ◌∷◌}
use mathlib.Core.Logic.{⊎_elim}
use Prim.Native.Nat.{ℕ, suc, ◌+◌, ◌-◌, ◌%◌, ◌^◌, ◌<◌}
use native.Mathlib.Nat.{mod-lt}
use native.Mathlib.Omega.{arith}
use borrow.Author.Tests.{eq-eqb}
use lib.Dec.{eqb, leb}
use lib.ListN.{length, get_or}
use lib.Bits.{and_mask}
use lib.Pow.{pow_pos}
use Rattle.std.specs.Prelude.{nat_eq}
use Rattle.std.specs.List.{list_any, enumerate_from}
use Rattle.base.proofs.Tests.{clash, lt_or_ge}
use Rattle.masks.specs.Bit.{bit, somewhere}
use Rattle.masks.proofs.Bits.{bit_le, bit_of_zero, bit_past, at_bit, bits_below}
use Rattle.masks.proofs.Operations.{flip, full}
use Rattle.masks.proofs.Halves.{bit_mod}
use Rattle.masks.proofs.Somewhere.{somewhere_false, somewhere_first, somewhere_same}
use Rattle.masks.proofs.Words.{low_width, first_word}
use Rattle.system.specs.declared.Clause.{Clause}
use Rattle.look.specs.Excluded.{excluded}
use Rattle.look.specs.Condition.{state_of, allowed}
use Rattle.look.specs.Reason.{Agree, Among, Reason, Setting}
use Rattle.look.specs.Look.{clause_of, Scanned}
use Rattle.look.specs.declared.Look.{Look}
use Rattle.look.specs.declared.Settled.{Settled}
use Rattle.look.proofs.Agreement.{among_by}
use Rattle.look.proofs.Clauses.{clause_of_lem}
use Rattle.look.proofs.Looks.{scanned_by}

-- a search through a list, each number with its index, is one through the positions
any_at : (p : ℕ → ℕ → Bool) (n : ℕ) (xs : List ℕ)
    → list_any (λ (q : ℕ × ℕ). p q.0 q.1) (enumerate_from n xs) ≡ somewhere (length xs) (λ j. p (n + j) (get_or xs j 0))
any_at p n [] = sym ((somewhere_false 0 (λ j. p (n + j) (get_or [] j 0))).1 (λ i h. absurd (omega arith)))
any_at p n (x ∷ xs) =
    let here : n + 0 ≡ n = omega arith in
    rw (any_at p (n + 1) xs)
    (sym (somewhere_first (length xs) (λ j. p (n + j) (get_or (x ∷ xs) j 0))
    ∙ rw (
      here,
      somewhere_same (length xs) (λ j. p (n + suc j) (get_or xs j 0)) (λ j. p (n + 1 + j) (get_or xs j 0))
          (λ j h. let e : n + suc j ≡ n + 1 + j = omega arith in rw e),
    ) refl))

pub any_from : (i : ℕ) (states levels : List ℕ) (s : ℕ)
    → list_any (λ (q : ℕ × ℕ). nat_eq q.1 s && leb i (get_or levels q.0 i)) (enumerate_from 0 states) ≡ excluded i states levels s
unfolding excluded
any_from i states levels s =
    any_at (λ j x. nat_eq x s && leb i (get_or levels j i)) 0 states
    ∙ somewhere_same (length states) _ _ (λ j h. let e : 0 + j ≡ j = omega arith in rw e)

-- entry j is s, with a level of i or more
unfoldable pub entry : ℕ → List ℕ → List ℕ → ℕ → ℕ → Bool
entry i states levels s j = eqb (get_or states j 0) s && leb i (get_or levels j i)

module _ (i : ℕ) (states levels : List ℕ) (s : ℕ) where
  -- an entry of that state has the answer of its level
  pub entry_same : (j : ℕ) → get_or states j 0 ≡ s → entry i states levels s j ≡ leb i (get_or levels j i)
  unfolding entry
  entry_same j e = rw (eq-eqb (get_or states j 0) s e)

  -- an entry that passes excludes
  pub excluded_by : (j : ℕ) → j < length states → entry i states levels s j ≡ true → excluded i states levels s ≡ true
  unfolding excluded entry
  excluded_by j h e = not-eq-not.0 (λ f. clash e ((somewhere_false (length states) (entry i states levels s)).0 f j h))

  -- no entry passes
  pub excluded_none : ((j : ℕ) → j < length states → entry i states levels s j ≡ false) → excluded i states levels s ≡ false
  unfolding excluded entry
  excluded_none h = (somewhere_false (length states) (entry i states levels s)).1 h

-- the clause that some bit of the state differs from e
abbrev pub other_than : ℕ → Clause
other_than e = record { ones = record { pair = 2 ^ 32 - 1 - e; wires = 0 }; zeros = record { pair = e; wires = 0 } }

-- it is false only of words with that state
clause_state : (e w : ℕ) → e < 2 ^ 32 → clause_of (other_than e) w ≡ false → state_of w ≡ e
clause_state e w h f =
    bits_below 32 (state_of w) e (mod-lt w (pow_pos 32)) h
    (λ k l.
    omega (
      arith,
      bit_mod 32 k w l,
      flip 32 e k h l,
      (clause_of_lem (other_than e) w).0 f k (low_width k (omega arith)),
      first_word (other_than e).ones k (omega arith),
      first_word (other_than e).zeros k (omega arith),
      bit_le w k,
    ))

module _ (i : ℕ) (states levels : List ℕ) (j : ℕ) (h : j < length states) (l : leb i (get_or levels j i) ≡ true)
    (b : get_or states j 0 < 2 ^ 32) where
  -- the clause of an entry fails only where the store excludes
  entry_clause : (w : ℕ) → clause_of (other_than (get_or states j 0)) w ≡ false → allowed states levels i w ≡ false
  unfolding allowed
  entry_clause w f =
      let e = sym (clause_state (get_or states j 0) w b f) in
      rw (excluded_by i states levels (state_of w) j h (entry_same i states levels (state_of w) j e ∙ l))

  -- what the clause of an entry says, the store says
  pub entry_scanned : (s : Settled) (r : Look)
      → Scanned (clause_of (other_than (get_or states j 0))) s r → Scanned (allowed states levels i) s r
  entry_scanned = scanned_by _ _ entry_clause

-- ---- the whole state is settled
-- a failure at an excluded state rests on the state's bits alone
pub excluded_reason : (i : ℕ) (states levels : List ℕ) (s : Setting) → Among (2 ^ 32 - 1) s.bits
    → excluded i states levels (state_of s.values) ≡ true → Reason (allowed states levels i) s (2 ^ 32 - 1)
unfolding allowed Agree
excluded_reason i states levels s a e =
    record {
      among = a;
      why = λ w g.
          let same : state_of w ≡ state_of s.values = sym (and_mask w 32) ∙ g ∙ and_mask s.values 32 in
          rw (same, e);
    }

-- the low half of a word has no open bit
pub state_settled : (b m : ℕ) → b < 2 ^ 64 → ((j : ℕ) → j < 64 → bit m j ≡ bit b j) → (2 ^ 64 - 1 - b) % 2 ^ 32 ≡ 0 → Among (2 ^ 32 - 1) m
state_settled b m h same z =
    among_by (2 ^ 32 - 1) m (λ j.
    ⊎_elim
    (λ l. omega (
      arith,
      full 32 j l,
      same j (omega arith),
      flip 64 b j h (omega arith),
      bit_mod 32 j (2 ^ 64 - 1 - b) l,
      at_bit j z,
      bit_of_zero j,
    ))
    (λ g. omega (arith, bit_past 32 (2 ^ 32 - 1) j (omega arith) g))
    (lt_or_ge j 32))

-- What one clause of a list says, the list says. A walk takes clause after clause off the list's front: where the clause in hand is false of a word, or
-- what is left behind it, so is the whole list. A part of the list, from a clause on, says no more than the list. So a look at one clause is a look at the
-- list: a test that fails wherever another does has all reasons of the other. Assumes nothing.
use mathlib.Core.Path.{◌≡◌, refl, sym, ◌∙◌}
use mathlib.Core.Bool.{true, false}
use mathlib.Core.List.{List, [], ◌∷◌, ◌++◌}
use Prim.Native.Nat.{ℕ, zero, suc, ◌+◌, ◌*◌, ◌/◌, ◌%◌, ◌^◌, ◌≤◌}
use native.Mathlib.Omega.{arith}
use lib.ListN.{length, get_or, take, drop}
use Rattle.std.proofs.lemmas.List.{take-append-drop, drop-drop}
use Rattle.base.proofs.Tests.{clash, test}
use Rattle.system.specs.System.{four_true, list_true}
use Rattle.system.specs.declared.Clause.{Clause}
use Rattle.system.proofs.Lists.{list_clause, list_stops}
use Rattle.look.specs.Condition.{word_true}
use Rattle.look.specs.Look.{clause_of, Scanned}
use Rattle.look.specs.declared.Look.{Look}
use Rattle.look.specs.declared.Settled.{Settled}
use Rattle.look.proofs.Looks.{scanned_by}

module _ (s x : ℕ) where
  -- a list is false where what stands behind its first clause is
  four_false : (l : List ℕ) → list_true (drop 4 l) s x ≡ false → list_true l s x ≡ false
  unfolding list_true
  four_false [] e = e
  four_false (a ∷ []) e = e
  four_false (a ∷ (b ∷ [])) e = e
  four_false (a ∷ (b ∷ (c ∷ []))) e = e
  four_false (a ∷ (b ∷ (c ∷ (d ∷ rest)))) e =
      test (four_true a b c d s x) (λ h. list_clause true a b c d rest s x h ∙ e) (list_clause false a b c d rest s x)

  -- or what stands behind its first j clauses
  behind_false : (l : List ℕ) (j : ℕ) → list_true (drop (4 * j) l) s x ≡ false → list_true l s x ≡ false
  behind_false l zero e = e
  behind_false l (suc j) e =
      let four : 4 * suc j ≡ 4 * j + 4 = omega arith in
      behind_false l j (four_false (drop (4 * j) l) (rw (drop-drop 4 (4 * j) l) (rw four at e)))

  -- or its front
  more_false : (l m : List ℕ) → list_true l s x ≡ false → list_true (l ++ m) s x ≡ false
  unfolding list_true
  more_false [] m e = clash refl e
  more_false (a ∷ []) m e = clash refl e
  more_false (a ∷ (b ∷ [])) m e = clash refl e
  more_false (a ∷ (b ∷ (c ∷ []))) m e = clash refl e
  more_false (a ∷ (b ∷ (c ∷ (d ∷ rest)))) m e =
      test (four_true a b c d s x)
      (λ h. list_clause true a b c d (rest ++ m) s x h ∙ more_false rest m (sym (list_clause true a b c d rest s x h) ∙ e))
      (list_clause false a b c d (rest ++ m) s x)

  part_false : (l : List ℕ) (j k : ℕ) → list_true (take k (drop (4 * j) l)) s x ≡ false → list_true l s x ≡ false
  part_false l j k e =
      behind_false l j (rw take-append-drop at (more_false (take k (drop (4 * j) l)) (drop k (drop (4 * j) l)) e))

-- what a part of a list says, the list says
pub part_scanned : (l : List ℕ) (from k : ℕ) (s : Settled) (r : Look)
    → Scanned (word_true (take k (drop (4 * from) l))) s r → Scanned (word_true l) s r
unfolding word_true
part_scanned l from k =
    scanned_by (word_true (take k (drop (4 * from) l))) (word_true l) (λ w. part_false _ _ l from k)

-- ---- a walk over the list l
-- where what is left is false of a word, so is the list
abbrev pub Walks : List ℕ → List ℕ → Type 0
Walks l left = (w : ℕ) → word_true left w ≡ false → word_true l w ≡ false

-- the first clause of what is left
abbrev pub front_clause : List ℕ → Clause
front_clause left =
    record {
      ones = record { pair = get_or left 0 0; wires = get_or left 2 0 };
      zeros = record { pair = get_or left 1 0; wires = get_or left 3 0 };
    }

module _ (l left : List ℕ) (h : Walks l left) where
  -- the first clause is passed
  pub walks_on : (k : ℕ) → Walks l (take k (drop 4 left))
  unfolding word_true
  walks_on k w e = h w (part_false _ _ left 1 k e)

  -- a look at the first clause is a look at the list
  pub list_scanned : 4 ≤ length left → (s : Settled) (r : Look) → Scanned (clause_of (front_clause left)) s r → Scanned (word_true l) s r
  unfolding word_true clause_of
  list_scanned long =
      scanned_by (clause_of (front_clause left)) (word_true l) (λ w e. h w (list_stops left 0 (w % 2 ^ 64) (w / 2 ^ 64) (omega arith) e))

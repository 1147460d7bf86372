-- The two kinds of question of the scope, over lent lists: a state of R(i) that is bad, and a state of R(i) that can step to a given state; of
-- each the least that is not below a given number.
-- Every input has its answer: lists and stores are taken as they are, an n above 32 for 32, and a w above 64 finds what 64 finds.
use Rattle.std.specs.Prelude.{ℕ, zero, suc, ◌^◌, min, Bool, true, not, ◌&&◌, List, ltb, Option as Returned, Some, None}
use Rattle.std.proofs.Math.Option.{Option, none, some}
use Rattle.ic3.specs.Model.{least}
use Rattle.system.specs.System.{list_true, some_true, pair}
use Rattle.look.specs.Excluded.{excluded}

-- an answer is a state, or says that none exists
abbrev pub answered : Returned ℕ → Option ℕ
answered (Some s) = some s
answered None = none

-- R(0) is the set of start states; for i above 0, R(i) is every state except those stored with a level of i or more
unfoldable pub inside : List ℕ → List ℕ → List ℕ → ℕ → ℕ → Bool
inside start states levels zero s = list_true start s 0
inside start states levels (suc i) s = not (excluded (suc i) states levels s)

-- s is not below the number `from`
abbrev pub not_below : ℕ → ℕ → Bool
not_below zero s = true
not_below (suc k) s = ltb k s

-- the least state of R(i) that is bad and not below `from`
unfoldable pub bad_in : ℕ → ℕ → List ℕ → List ℕ → List ℕ → List ℕ → ℕ → ℕ → Option ℕ
bad_in n w start bad states levels i from =
    least (2 ^ min n 32) (λ s. not_below from s && (inside start states levels i s && some_true w bad s))

-- the least state of R(i) that steps to t and is not below `from`
unfoldable pub step_in : ℕ → ℕ → List ℕ → List ℕ → List ℕ → List ℕ → ℕ → ℕ → ℕ → Option ℕ
step_in n w start step states levels i t from =
    least (2 ^ min n 32) (λ s. not_below from s && (inside start states levels i s && some_true w step (pair s t)))

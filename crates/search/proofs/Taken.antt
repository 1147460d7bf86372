-- An answer taken in, for steps 2 and 3: what the search does next is what its definition has for that answer, a state or none. Assumes nothing.
use Prim.Native.Nat.{ℕ, suc, ◌+◌, ◌-◌}
use mathlib.Core.List.{List}
use mathlib.Core.Option.{none, some}
use mathlib.Core.Path.{◌≡◌, refl, sym, ◌∙◌}
use native.Mathlib.Omega.{arith}
use native.Mathlib.Numerals.{add-one}
use lib.ListN.{take}
use Rattle.std.specs.declared.ops.ControlFlow.{ControlFlow}
use Rattle.ic3.specs.Search.{look, settle, wanted, at, put, round, found, deeper, kept, react, next}
use Rattle.ic3.specs.Search as ic3
use Rattle.system.specs.System.{System, model}
use Rattle.question.specs.Question.{bad_in, step_in}
use Rattle.call.specs.Call.{Stores, rounds}
use Rattle.search.specs.declared.react.Verdict.{Verdict}
use Rattle.search.specs.declared.react.Config.{Config}
use Rattle.search.specs.Lent.{store_of}
use Rattle.search.specs.Inner.{Asks, Moves}
use Rattle.search.proofs.Asked.{look_next, step_next}

-- a move that is the definition's for the answer is the definition's for the question
pub moves_to : {r : ControlFlow Verdict Config} {s : Stores} {m m' : ic3.Move} → m ≡ m' → Moves r s m → Moves r s m'
moves_to e w = record { onward = w.onward ∙ e; bounded = w.bounded }

module _ (y : System) (count : ℕ) (ss ls : List ℕ) (a : Asks y.n count ss ls) (room N : ℕ) where
  -- a bad state is found
  pub look_some : (s : ℕ) → some s ≡ bad_in y.n y.w y.start y.bad (take count ss) (take count ls) N 0
      → found N (store_of count ss ls) s ≡ next rounds (model y) room (at N (store_of count ss ls) look)
  unfolding react
  look_some s e = sym (look_next y count ss ls a room N (some s) e)

  -- with no bad state step 4 begins, and N is one more
  pub look_none : none ≡ bad_in y.n y.w y.start y.bad (take count ss) (take count ls) N 0
      → round rounds (N + 1) (N + 1 - 1) 1 (store_of count ss ls) ≡ next rounds (model y) room (at N (store_of count ss ls) look)
  unfolding react
  look_none e =
      let z : suc N - 1 ≡ N = omega arith in
      rw (add-one N, z) (sym (look_next y count ss ls a room N none e))

  module _ (k s : ℕ) (ds : List ℕ) where
    -- a state steps to that of the duty
    pub settle_some : (t : ℕ) → some t ≡ step_in y.n y.w y.start y.step (take count ss) (take count ls) k s 0
        → deeper N (store_of count ss ls) k s ds t ≡ next rounds (model y) room (at N (store_of count ss ls) (settle k s ds))
    unfolding react wanted
    settle_some t e = sym (step_next y count ss ls a room N k s (settle k s ds) (some t) refl e)

    -- none does: the state of the duty gets its level
    pub settle_none : none ≡ step_in y.n y.w y.start y.step (take count ss) (take count ls) k s 0
        → kept room N (put (store_of count ss ls) s (suc k)) k ds ≡ next rounds (model y) room (at N (store_of count ss ls) (settle k s ds))
    unfolding react wanted
    settle_none e = sym (step_next y count ss ls a room N k s (settle k s ds) none refl e)

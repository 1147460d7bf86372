-- Turn after turn over the lent stores. Where a search can stand, each question's needs are met by the shape alone; a turn moves as the
-- definition's and keeps the shape, whatever the system; and the rest of the run is the run that was begun, until one ends it or the allowance is
-- used up. Assumes nothing.
use Prim.Native.Nat.{ℕ, suc, ◌+◌, ◌-◌, ◌≤◌, ◌<◌}
use mathlib.Core.Path.{◌≡◌, sym, ap, ◌∙◌}
use native.Mathlib.Numerals.{add-one}
use native.Mathlib.Omega.{arith}
use lib.ListN.{length}
use Rattle.std.specs.declared.ops.ControlFlow.TheVariants.{Continue, Break}
use Rattle.ic3.specs.Search.{next, search_from}
use Rattle.ic3.specs.Search as ic3
use Rattle.ic3.proofs.From.{from_out, from_go, from_stop}
use Rattle.ic3.proofs.Shape.{next_keeps_shape}
use Rattle.system.specs.System.{System, model}
use Rattle.call.specs.Call.{Stores, rounds}
use Rattle.call.proofs.Call.{Lengths}
use Rattle.search.specs.declared.store.Lent.{Lent}
use Rattle.search.specs.Lent.{stores_of, store_of, config, config_of}
use Rattle.search.specs.Inner.{SameSlices, Asks, Raises, Lends, Ready, Moves, Ends}
use Rattle.search.specs.declared.react.Verdict.{Verdict}
use Rattle.search.specs.declared.react.Why.TheVariants.{Spent}
use Rattle.search.specs.declared.react.Verdict.TheVariants.{GaveUp}
use Rattle.search.specs.declared.react.Phase.{Phase}
use Rattle.search.specs.declared.react.Phase.TheVariants.{Raise}
use Rattle.search.specs.declared.react.Config.{Config}
use Rattle.search.proofs.Rounds.{level_entry}
use Rattle.search.proofs.Windows.{window_length}

-- the same slices are as long as before
pub same_lengths : {s s' : Lent} → SameSlices s s' → Lengths (stores_of s) (stores_of s')
same_lengths w = record { states = w.states_length; levels = w.levels_length; path = w.path_length }

-- and stay the same from step to step
pub slices_again : {s s' s'' : Lent} → SameSlices s s' → SameSlices s' s'' → SameSlices s s''
slices_again w v =
    record {
      states = v.states ∙ w.states;
      levels = v.levels ∙ w.levels;
      path = v.path ∙ w.path;
      states_length = v.states_length ∙ w.states_length;
      levels_length = v.levels_length ∙ w.levels_length;
      path_length = v.path_length ∙ w.path_length;
    }

-- stores of the same lengths hold a search as well
pub lends_kept : {n room : ℕ} {s s' : Stores} → Lends n room s → Lengths s s' → Lends n room s'
lends_kept w l =
    record {
      small = w.small;
      most = w.most;
      states = l.states ∙ w.states;
      levels = l.levels ∙ w.levels;
      enough = rw l.path w.enough;
    }

module _ {n room N count : ℕ} {s : Stores} where
  -- the stored states are within the lent stores
  pub ready_asks : {p : Phase} → Ready n room (config N count p) s → Asks n count s.states s.levels
  unfolding store_of
  ready_asks w =
      record {
        small = w.lends.small;
        holds = record {
          same = w.lends.levels ∙ sym w.lends.states;
          within = rw w.lends.states (rw (window_length count 0 s.states s.levels) at w.shape.stored);
        };
        tidy = w.shape.tidy;
      }

  -- the level of the entry is that of its state, since no state is stored twice
  pub raise_ready : {i j : ℕ} → Ready n room (config N count (Raise i j)) s → Raises n N count i j s.states s.levels
  unfolding store_of
  raise_ready {i} {j} w =
      let l = level_entry count s.states s.levels j count 0 (omega arith) (omega arith) w.indexed w.shape.tidy in
      record {
        asks = ready_asks w;
        indexed = w.indexed;
        here = sym l.0 ∙ w.shape.placed.here;
        below = w.shape.placed.below;
      }

-- the run that was begun over the stores s₀ and ends with `ending` stands at c, and of the questions allowed `asked` are asked
pub record Running (y : System) (allowance : ℕ) (s₀ : Stores) (ending : ic3.Ending) (c : Config) (asked : ℕ) (s : Stores) : Type 0 where
  pub ready : Ready y.n (length s₀.states) c s
  pub lengths : Lengths s₀ s
  pub within : asked ≤ allowance
  pub rest : search_from rounds (allowance - asked) (model y) (length s₀.states) (config_of c s) asked ≡ ending

module _ {y : System} {allowance : ℕ} {s₀ : Stores} {ending : ic3.Ending} {c : Config} {asked : ℕ} {s s' : Stores}
    (w : Running y allowance s₀ ending c asked s) (l : Lengths s s') where
  abbrev room : ℕ
  room = length s₀.states

  -- the turn keeps the shape, in every system; and the rest of the run is one turn shorter
  pub running_go : {d : Config} → asked < allowance → Moves (Continue d) s' (next rounds (model y) room (config_of c s))
      → Running y allowance s₀ ending d (asked + 1) s'
  running_go {d} h m =
      let left : allowance - asked ≡ suc (allowance - (asked + 1)) = omega arith in
      record {
        ready = record {
          lends = lends_kept w.ready.lends l;
          shape = rw (sym m.onward) at (next_keeps_shape room rounds (model y) (config_of c s) w.ready.shape);
          indexed = m.bounded;
        };
        lengths = record {
          states = l.states ∙ w.lengths.states;
          levels = l.levels ∙ w.lengths.levels;
          path = l.path ∙ w.lengths.path;
        };
        within = omega arith;
        rest = rw (add-one asked) (sym (from_go rounds (model y) room (allowance - suc asked) (config_of c s) (config_of d s') asked (sym m.onward))
            ∙ (rw (left, add-one asked) at w.rest));
      }

  -- the ending of the turn is that of the run
  pub running_stop : {v : Verdict} → asked < allowance → Moves (Break v) s' (next rounds (model y) room (config_of c s))
      → Ends y.n room ending v (asked + 1) s'
  running_stop h m =
      let left : allowance - asked ≡ suc (allowance - suc asked) = omega arith in
      let all = sym (rw left at w.rest) ∙ from_stop rounds (model y) room (allowance - suc asked) (config_of c s) _ asked (sym m.onward) in
      record {
        verdict = sym (ap (λ z. z.verdict) all);
        questions = add-one asked ∙ sym (ap (λ z. z.questions) all);
        counted = m.bounded;
        lends = lends_kept w.ready.lends l;
      }

-- the allowance is used up
pub running_spent : {y : System} {allowance : ℕ} {s₀ : Stores} {ending : ic3.Ending} {c : Config} {asked : ℕ} {s : Stores}
    → Running y allowance s₀ ending c asked s → allowance ≤ asked → Ends y.n (length s₀.states) ending (GaveUp Spent) asked s
running_spent {y} {allowance} {s₀} {c = c} {asked} {s} w h =
    let none : allowance - asked ≡ 0 = omega arith in
    let all = sym (rw none at w.rest) ∙ from_out rounds (model y) (length s₀.states) (config_of c s) asked in
    record {
      verdict = sym (ap (λ z. z.verdict) all);
      questions = sym (ap (λ z. z.questions) all);
      counted = tt;
      lends = w.ready.lends;
    }

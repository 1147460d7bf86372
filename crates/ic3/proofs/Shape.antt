-- Every answer keeps the shape of a configuration, in every model: storing and raising keep the store tidy, and what outgrows the room ends the
-- search; a duty is opened below the last or the last is settled; and a round comes to a state that sits at its level, or leaves a state at
-- each level below N, which shows N - 1 of them within the room. So evidence and path of every run from such a configuration fit the lent
-- stores. Assumes nothing.
use Prim.Native.Nat.{ℕ, zero, suc, ◌+◌, ◌≤◌, ◌<◌}
use mathlib.Core.List.{List, [], ◌∷◌}
use mathlib.Core.Option.{Option, none, some}
use mathlib.Core.Path.{◌≡◌, refl}
use native.Mathlib.Omega.{arith}
use lib.Dec.{leb}
use lib.ListN.{length}
use Rattle.ic3.specs.Model.{Model, least}
use Rattle.ic3.specs.Search.{Entry, put, Phase, look, settle, raise, Config, at, wanted, Move, go, stop, Rounds, settled, tested, found, deeper, kept, react, next, search_from, begun, searched}
use Rattle.ic3.specs.Shape.{Tidy, Shape, FitsEnding, Shaped}
use Rattle.ic3.proofs.Store.{put_tidy, put_old, states_length}
use Rattle.ic3.proofs.Round.{Lands, round_lands, tested_lands, kept_lands, level_head, taken_length}
use Rattle.ic3.proofs.From.{Turned, from_keeps, searched_keeps}

module _ (room : ℕ) where
  -- ---- steps 4 and 5, with N no more than they can begin with
  module _ (N : ℕ) (st : List Entry) (w : Tidy st) (h : length st ≤ room) (l : N ≤ suc (suc room)) where
    round_shaped : (i : ℕ) → 1 ≤ i → Lands (Shaped room) N st i
    round_shaped i o =
        record {
          next_level = λ j s todo a b e q.
              record {
                tidy = w;
                stored = h;
                low = l;
                placed = record { above = omega arith; below = b; here = level_head st w j (omega arith) s todo q };
              };
          gap = λ j a b t q. omega (arith, states_length (leb j) st);
          again = λ e t. record { tidy = w; stored = h; low = omega (arith, taken_length st N t); placed = tt };
        }

    tested_shaped : (r : Rounds) (i : ℕ) (todo : List ℕ) → 1 ≤ i → i < N → Shaped room (tested r N st i todo)
    tested_shaped r i todo o b =
        tested_lands (Shaped room) N st r i todo o b
        (record {
          same_level = λ s rest e g k. record { tidy = w; stored = h; low = l; placed = record { above = o; below = b; here = e } };
          next_levels = λ k. round_shaped (suc i) (omega arith);
        })

  -- ---- steps 1 to 3
  found_shaped : (N : ℕ) (st : List Entry) (s : ℕ) → Shape room (at N st look) → Shaped room (found N st s)
  unfolding found
  found_shaped zero st s w = omega arith
  found_shaped (suc k) st s w = record { tidy = w.tidy; stored = w.stored; low = w.low; placed = omega arith }

  deeper_shaped : (N : ℕ) (st : List Entry) (k s : ℕ) (ds : List ℕ) (t : ℕ) → Shape room (at N st (settle k s ds)) → Shaped room (deeper N st k s ds t)
  unfolding deeper
  deeper_shaped N st zero s ds t w = omega (arith, w.low, w.placed)
  deeper_shaped N st (suc k) s ds t w =
      record { tidy = w.tidy; stored = w.stored; low = w.low; placed = omega (arith, w.placed) }

  kept_shaped : (N : ℕ) (st : List Entry) (k : ℕ) (ds : List ℕ) → Tidy st → N ≤ suc room → N ≡ suc (k + length ds) → Shaped room (kept room N st k ds)
  unfolding settled
  kept_shaped N st k ds w l e = kept_lands (Shaped room) room N st k ds (λ h. rest ds h e) (λ h. tt)
    where
      rest : (xs : List ℕ) → length st ≤ room → N ≡ suc (k + length xs) → Shaped room (go (settled N st k xs))
      rest [] h e = record { tidy = w; stored = h; low = l; placed = tt }
      rest (x ∷ xs) h e = record { tidy = w; stored = h; low = l; placed = omega arith }

  -- ---- one question
  -- whatever the answer is
  react_keeps_shape : (r : Rounds) (N : ℕ) (st : List Entry) (ph : Phase) (o : Option ℕ) → Shape room (at N st ph) → Shaped room (react r room N st ph o)
  unfolding react
  react_keeps_shape r N st look (some s) w = found_shaped N st s w
  react_keeps_shape r N st look none w =
      round_lands (Shaped room) (suc N) st r N 1 (omega arith) (omega arith)
      (round_shaped (suc N) st w.tidy w.stored (omega (arith, w.low)) 1 (omega arith))
  react_keeps_shape r N st (settle k s ds) (some t) w = deeper_shaped N st k s ds t w
  react_keeps_shape r N st (settle k s ds) none w =
      kept_shaped N (put st s (suc k)) k ds (put_tidy st s (suc k) (omega arith) w.tidy) w.low w.placed
  react_keeps_shape r N st (raise i s todo) (some t) w =
      let p = w.placed in
      tested_shaped N st w.tidy w.stored w.low r i todo p.above p.below
  react_keeps_shape r N st (raise i s todo) none w =
      let p = w.placed in
      let same : length (put st s (suc i)) ≡ length st = put_old st s (suc i) (omega (arith, p.above, p.here)) in
      tested_shaped N (put st s (suc i)) (put_tidy st s (suc i) (omega arith) w.tidy) (rw same w.stored) w.low r i todo p.above p.below

  pub next_keeps_shape : (r : Rounds) (M : Model) (c : Config) → Shape room c → Shaped room (next r M room c)
  unfolding next
  next_keeps_shape r M c w =
      react_keeps_shape r c.N c.store c.phase (least M.size (wanted M c.N c.store c.phase)) w

  -- ---- a run
  pub opening_shape : Shape room (at 0 [] look)
  opening_shape = record { tidy = tt; stored = omega arith; low = omega arith; placed = tt }

  turned : (r : Rounds) (M : Model) (allowance p : ℕ) (m : Move) → Shaped room m → Turned r M room allowance (λ d p. Shape room d) (λ v p. FitsEnding room v) p m
  turned r M allowance p (go d) x = x
  turned r M allowance p (stop v) x = x

  -- a run from any configuration that has the shape, in any model
  pub from_fits : (r : Rounds) (M : Model) (left : ℕ) (c : Config) (q : ℕ) → Shape room c → FitsEnding room (search_from r left M room c q).verdict
  from_fits r M left c q w =
      from_keeps r M room (left + q) (λ d p. Shape room d) (λ v p. FitsEnding room v)
      (λ d p x. turned r M (left + q) (suc p) (next r M room d) (next_keeps_shape r M d x)) (λ d x. tt) left c q refl w

-- the whole search
pub ending_fits : (r : Rounds) (M : Model) (room allowance : ℕ) → FitsEnding room (searched r M room allowance).verdict
unfolding begun searched
ending_fits r M room allowance =
    searched_keeps r M room allowance (λ d p. Shape room d) (λ v p. FitsEnding room v)
    (λ d p x. turned room r M allowance (suc p) (next r M room d) (next_keeps_shape room r M d x)) (λ d x. tt) (λ e. tt) (λ l n. tt)
    (λ h. opening_shape room)

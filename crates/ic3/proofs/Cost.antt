-- How a bound on the questions is shown: at each question, the number of questions that led there is held by some account C, which each answer
-- keeps, and which leaves room below the bound for one question more. Then no search asks more, and none gives up that has a start state, room and
-- leave enough. Assumes nothing.
use Prim.Native.Nat.{ℕ, suc, ◌≤◌}
use mathlib.Core.List.{List, []}
use mathlib.Core.Option.{Option}
use native.Mathlib.Omega.{arith}
use Rattle.ic3.specs.Theorems.{Answered, Bounded}
use Rattle.ic3.specs.Answers.{Answers}
use Rattle.base.proofs.Tests.{clash}
use Rattle.ic3.specs.Model.{Model}
use Rattle.ic3.specs.Search.{Entry, Phase, look, wanted, Verdict, Move, go, stop, Rounds, react, begun, searched}
use Rattle.ic3.specs.Demands.{HasStart}
use Rattle.ic3.proofs.Sound.{Kept, Stands, Then, search_keeps}

module _ (M : Model) (m : ℕ) (C : ℕ → List Entry → Phase → ℕ → Type 0) where
  -- the account of where an answer leads; with room for m states it does not lead to giving up
  abbrev pub Cheap : ℕ → ℕ → Move → Type 0
  Cheap room q (go c) = C c.N c.store c.phase q
  Cheap room q (stop v) = m ≤ room → Answered v

  record Ended (most room allowance : ℕ) (v : Verdict) (q : ℕ) : Type 0 where
    few : q ≤ most
    answers : HasStart M → m ≤ room → most ≤ allowance → Answered v

  pub bounded : (r : Rounds) (most : ℕ) → ((N : ℕ) (st : List Entry) (ph : Phase) (q : ℕ) → Kept M N st → Stands M N st ph → C N st ph q → suc q ≤ most)
      → ((room N : ℕ) (st : List Entry) (ph : Phase) (o : Option ℕ) (q : ℕ) → Kept M N st → Stands M N st ph
      → Answers M.size (wanted M N st ph) o → C N st ph q → Cheap room (suc q) (react r room N st ph o))
      → 1 ≤ most → C 0 [] look 1 → Bounded r M m most
  unfolding begun searched
  bounded r most left keeps one begin =
      record { few = λ room allowance. (all room allowance).few; answers = λ h room allowance. (all room allowance).answers h }
    where
      then : (room allowance q : ℕ) (v : Move) → q ≤ most → Cheap room q v → Then M r room allowance C (Ended most room allowance) q v
      then room allowance q (go c) h g = g
      then room allowance q (stop v) h g = record { few = h; answers = λ s k l. g k }

      all : (room allowance : ℕ) → Ended most room allowance (searched r M room allowance).verdict (searched r M room allowance).questions
      all room allowance =
          search_keeps M r room allowance C (Ended most room allowance)
          (λ N st ph o q K w a c. then room allowance (suc q) (react r room N st ph o) (left N st ph q K w c) (keeps room N st ph o q K w a c))
          (λ N st ph K w c. let h : suc allowance ≤ most = left N st ph allowance K w c in
          record { few = omega arith; answers = λ s k l. absurd (omega arith) })
          (λ e. record { few = omega arith; answers = λ s k l. absurd (omega arith) })
          (λ l n. record { few = one; answers = λ s l k. clash s.starts (n s.state s.inside) })
          (λ h. begin)

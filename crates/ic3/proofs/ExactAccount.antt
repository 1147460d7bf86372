-- The account of the exact bounds, one for full and shortened rounds.
--
-- Frames give N ≤ 1 + level + steps for every way to a bad state. So the state of a duty sits exactly one level below the duty's: settling
-- raises by one level; and a state is settled at most once at each N, since afterwards it sits too high to be a duty again. After a round that
-- finds no gap some state keeps level 1, so a state that is not stored steps to it; step 2 finds nothing at the next N only if that one has
-- been stored too: each further round stores a further state, and N ≤ m. With T the sum of the levels, σ the number stored now, p that number
-- at the end of the last round, n = N - 1 and `done` the states settled at this N:
--   in steps 2 and 3              q + n n ≤ 2 + 2 n + T + 2 n p + |done| + open duties
--   in step 4 after N rounds      q + (those still to be tested at i, and those above i) + N N ≤ 2 + 2 N + T + 2 N σ
-- T is small while levels are taken. A round that finds no gap leaves a state at each of the levels 1 to n, and each settled state adds one. When a
-- further state is stored, the duties for all higher levels are open, and are then settled at these: so before a round each level up to N is taken.
-- That each answer keeps it is shown in ExactRound and ExactKept, what it comes to in ExactCounts, ExactTested and Exact. Assumes nothing.
use Prim.Native.Nat.{ℕ, zero, suc, ◌+◌, ◌*◌, max, ◌≤◌, ◌<◌}
use mathlib.Core.Bool.{true}
use mathlib.Core.List.{List, [], ◌∷◌}
use mathlib.Core.Path.{◌≡◌, ◌∙◌}
use native.Mathlib.Omega.{arith}
use lib.Dec.{leb}
use lib.ListN.{length}
use Rattle.ic3.specs.Model.{Model}
use Rattle.ic3.specs.Search.{Entry, level_of, put, states, Phase, look, settle, raise}
use Rattle.ic3.specs.Demands.{Leads, listed, Doomed, Distinct}
use Rattle.ic3.specs.Exact.{up_to}
use Rattle.ic3.proofs.Store.{level_put_other, Stored, total}
use Rattle.ic3.proofs.ExactLayers.{Has}

module _ (M : Model) where
  -- s is no start state and leads to a bad one in fewer than N steps
  pub record Sown (N s : ℕ) : Type 0 where
    pub doomed : Doomed M s
    pub short : length doomed.onward < N

  pub sown_later : (N : ℕ) (st : List Entry) → Stored (Sown N) st → Stored (Sown (suc N)) st
  sown_later N st w s h = let S = w s h in record { doomed = S.doomed; short = omega (arith, S.short) }

  -- s was settled at this N: whatever way it leads to a bad state, its level is high
  pub record Done (N : ℕ) (st : List Entry) (s : ℕ) : Type 0 where
    pub stored : 1 ≤ level_of st s
    pub ahead : (ds : List ℕ) → Leads M s ds → N ≤ level_of st s + length ds

  -- a state that is not stored and leads to a bad one in at most n steps
  pub record Missing (n : ℕ) (st : List Entry) : Type 0 where
    pub state : ℕ
    pub unstored : level_of st state ≡ 0
    pub onward : List ℕ
    pub leads : Leads M state onward
    pub short : length onward ≤ n

  -- it stays so while another state is stored or raised
  pub missing_still : (n : ℕ) (st : List Entry) (s k : ℕ) (x : Missing n st) → (x.state ≡ s → ⊥) → Missing n (put st s k)
  missing_still n st s k x f =
      record {
        state = x.state;
        unstored = level_put_other st s k x.state f ∙ x.unstored;
        onward = x.onward;
        leads = x.leads;
        short = x.short;
      }

  -- after n rounds, with p states stored at the end of the last: a further state has been stored, or one is still to be stored
  pub data Fresh (n p : ℕ) (st : List Entry) : Type 0 where
    first : n ≡ 0 → p ≡ 0 → Fresh n p st
    grew : p < length st → Fresh n p st
    lacks : Missing n st → Fresh n p st

  -- one of those settled sits at level l
  pub record SettledAt (st : List Entry) (done : List ℕ) (l : ℕ) : Type 0 where
    pub state : ℕ
    pub here : level_of st state ≡ l
    pub settled : listed done state ≡ true

  -- steps 2 and 3 with N = n + 1, where `duties` duties are open
  pub record Opened (n : ℕ) (st : List Entry) (duties q : ℕ) : Type 0 where
    pub sown : Stored (Sown (suc n)) st
    pub before : ℕ
    pub fewer : n ≤ before
    pub grown : before ≤ length st
    pub done : List ℕ
    pub distinct : Distinct done
    pub ahead : (s : ℕ) → listed done s ≡ true → Done (suc n) st s
    pub fresh : Fresh n before st
    pub few : q + n * n ≤ 2 + 2 * n + total st + 2 * (n * before) + length done + duties
    pub low : total st + up_to n ≤ suc n * before + length done
    pub climbed : before < length st → (l : ℕ) → 1 ≤ l → l + duties ≤ suc n → SettledAt st done l

  -- step 4 after N rounds, where `todo` of level i are still to be tested
  pub record Testing (N : ℕ) (st : List Entry) (i : ℕ) (todo : List ℕ) (q : ℕ) : Type 0 where
    pub sown : Stored (Sown N) st
    pub once : 1 ≤ N
    pub enough : N ≤ max 1 (length st)
    pub failed : (s : ℕ) → level_of st s ≡ 1 → (i ≡ 1 → listed todo s ≡ true → ⊥) → Missing N st
    pub few : q + (length todo + length (states (leb (suc i)) st)) + N * N ≤ 2 + 2 * N + total st + 2 * (N * length st)
    pub upper : (l : ℕ) → i < l → l ≤ N → Has st l

  -- the account at each question
  abbrev pub C : ℕ → List Entry → Phase → ℕ → Type 0
  C zero st look q = (q ≡ 1) × (st ≡ [])
  C (suc n) st look q = Opened n st 0 q
  C zero st (settle k s ds) q = ⊥
  C (suc n) st (settle k s ds) q = Opened n st (suc (length ds)) q
  C zero st (raise i s todo) q = ⊥
  C (suc N) st (raise i s todo) q = Testing N st i (s ∷ todo) q

-- The paths of a circuit's meaning are its runs with inputs. A step, and a bad state, is some inputs that are allowed and do something besides; the
-- next state is a state, so a run need not say so. Assumes nothing.
use Prim.Native.Nat.{ℕ, ◌^◌, ◌<◌}
use mathlib.Core.Path.{◌≡◌}
use mathlib.Core.Logic.{◌↔◌}
use mathlib.Core.Bool.{Bool, true, ◌&&◌}
use mathlib.Core.List.{List, [], ◌∷◌, map}
use borrow.Author.Tests.{eqb-true, eq-eqb}
use lib.Dec.{eqb}
use lib.ListN.{length, length-map}
use Rattle.base.proofs.Tests.{both}
use Rattle.masks.specs.Bit.{somewhere}
use Rattle.masks.proofs.Somewhere.{somewhere_at, somewhere_true}
use Rattle.ic3.specs.Demands.{Leads, IsPath}
use Rattle.circuit.specs.Circuit.{Circuit, Latch, literal, any, values, next_state, constrained, watched, meaning}
use Rattle.circuit.specs.Runs.{Allows, RunsOn, Runs}
use Rattle.circuit.proofs.Lists.{number_lt}

module _ (c : Circuit) where
  next_lt : (a : ℕ → Bool) → next_state c a < 2 ^ length c.latches
  unfolding next_state
  next_lt a =
      let f : Latch → Bool = λ (l : Latch). literal a l.next in
      rw (← length-map c.latches f) (number_lt (map f c.latches))

  -- some inputs pass the test and fulfil the constraints
  allowed : (s : ℕ) (p : ℕ → Bool)
      → (somewhere (2 ^ length c.inputs) (λ i. p i && constrained c (values c s i)) ≡ true)
      ↔ ((i : ℕ) × Allows c s i × (p i ≡ true))
  allowed s p =
      let q : ℕ → Bool = λ i. p i && constrained c (values c s i) in (
        λ e.
            let r = somewhere_true (2 ^ length c.inputs) q e in
            let d = both (p r.0) (constrained c (values c s r.0)) r.2 in
            (r.0, record { inputs = r.1; holds = d.1 }, d.0),
        λ r. somewhere_at (2 ^ length c.inputs) q r.0 r.1.inputs (rw (r.2, r.1.holds)),
      )

  pub bad_run : (s : ℕ) → ((meaning c).bad s ≡ true) ↔ RunsOn c s []
  unfolding meaning
  bad_run s = allowed s (λ i. any (literal (values c s i)) (watched c))

  pub step_run : (s t : ℕ) → ((meaning c).step s t ≡ true) ↔ ((i : ℕ) × Allows c s i × (t ≡ next_state c (values c s i)))
  unfolding meaning
  step_run s t =
      let r = allowed s (λ i. eqb t (next_state c (values c s i))) in (
        λ e. let d = r.0 e in (d.0, d.1, eqb-true t (next_state c (values c s d.0)) d.2),
        λ d. r.1 (d.0, d.1, eq-eqb t (next_state c (values c s d.0)) d.2),
      )

  leads_run : (s : ℕ) (xs : List ℕ) → Leads (meaning c) s xs ↔ ((s < 2 ^ length c.latches) × RunsOn c s xs)
  unfolding meaning
  leads_run s [] = (λ p. (p.0, (bad_run s).0 p.1), λ p. (p.0, (bad_run s).1 p.1))
  leads_run s (t ∷ xs) = (
    λ p. (p.0, ((step_run s t).0 p.1, ((leads_run t xs).0 p.2).1)),
    λ p.
        let r = p.1.0 in
        let l : t < 2 ^ length c.latches = rw r.2 (next_lt (values c s r.0)) in
        (p.0, (step_run s t).1 r, (leads_run t xs).1 (l, p.1.1)),
  )

  -- "Constraints must hold in every state of a path, the last included."
  pub paths_are_runs : (xs : List ℕ) → IsPath (meaning c) xs ↔ Runs c xs
  unfolding meaning
  paths_are_runs [] = (λ p. p, λ p. p)
  paths_are_runs (s ∷ xs) = (
    λ p. let q = (leads_run s xs).0 p.1 in (q.0, p.0, q.1),
    λ p. (p.1, (leads_run s xs).1 (p.0, p.2)),
  )

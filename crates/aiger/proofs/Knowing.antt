-- Which literals rows use. A right start value is known: it is 0, 1, or the literal of a latch that is defined; so of latches the next literals are left.
-- Of gates it is both literals. Assumes nothing.
use Prim.Native.Nat.{ℕ, ◌*◌, ◌/◌}
use mathlib.Core.Bool.{Bool, true, false, ◌&&◌, and-true, or-true}
use mathlib.Core.List.{List, [], ◌∷◌, map}
use mathlib.Core.Path.{◌≡◌, refl, ap, ap₂, ◌∙◌}
use native.Mathlib.Omega.{arith}
use borrow.Author.Tests.{eqb-true, eq-eqb, not-false}
use lib.Dec.{eqb}
use Rattle.base.proofs.Tests.{test}
use Rattle.masks.proofs.Somewhere.{or_fails}
use Rattle.ic3.specs.Demands.{listed}
use Rattle.circuit.specs.Circuit.{Latch, Gate, every, any}
use Rattle.circuit.specs.Refusals.{wrong_start, known}
use Rattle.aiger.specs.Text.{threes, vars, latches_of, gates_of}
use Rattle.aiger.specs.Inner.{known_in, all_known}

-- ---- literals that rows use
-- a right start value is known: 0, 1, or the latch's own literal
start_known : (vs : List ℕ) (l : Latch) → wrong_start l ≡ false → listed vs l.var ≡ true → known_in vs l.start ≡ true
unfolding wrong_start known_in
start_known vs l e known =
    test (eqb l.start 0)
    (λ p. rw (eqb-true l.start 0 p))
    (λ p. test (eqb l.start 1)
    (λ q. rw (eqb-true l.start 1 q))
    (λ q.
    let own = eqb-true l.start (2 * l.var) (not-false (eqb l.start (2 * l.var)) (rw (p, q) at e)) in
    let half : l.start / 2 ≡ l.var = omega arith in
    rw half (rw known (or-true (eqb l.var 0)))))

pub starts_known : (vs latches : List ℕ) → ((v : ℕ) → listed (vars latches) v ≡ true → listed vs v ≡ true) → any wrong_start (latches_of latches) ≡ false
    → all_known vs latches ≡ every (known_in vs) (map (λ (l : Latch). l.next) (latches_of latches))
unfolding threes every any listed
starts_known vs [] own e = refl
starts_known vs (a ∷ []) own e = refl
starts_known vs (a ∷ (b ∷ [])) own e = refl
starts_known vs (a ∷ (b ∷ (c ∷ rows))) own e =
    let l : Latch = record { var = a / 2; next = b; start = c } in
    let p = (or_fails (wrong_start l) (any wrong_start (latches_of rows))).0 e in
    let here : listed vs (a / 2) ≡ true = own (a / 2) (rw (eq-eqb (a / 2) (a / 2) refl, listed)) in
    ap₂ (λ (x y : Bool). x && y) (ap (λ (t : Bool). known_in vs b && t) (start_known vs l p.0 here) ∙ and-true (known_in vs b))
    (starts_known vs rows (λ v q. own v (test (eqb (a / 2) v) (λ t. rw (t, listed)) (λ t. rw (t, listed) q))) p.1)

pub gates_known : (vs gates : List ℕ) → all_known vs gates
    ≡ (every (known_in vs) (map (λ (g : Gate). g.left) (gates_of gates)) && every (known_in vs) (map (λ (g : Gate). g.right) (gates_of gates)))
unfolding every
gates_known vs gates = go (gates_of gates)
  where
    turn : (a b x y : Bool) → ((a && b) && (x && y)) ≡ ((a && x) && (b && y))
    turn true true x y = refl
    turn true false true y = refl
    turn true false false y = refl
    turn false b x y = refl

    go : (gs : List Gate) → every (λ (g : Gate). known_in vs g.left && known_in vs g.right) gs
        ≡ (every (known_in vs) (map (λ (g : Gate). g.left) gs) && every (known_in vs) (map (λ (g : Gate). g.right) gs))
    go [] = refl
    go (g ∷ gs) =
        ap (λ (x : Bool). (known_in vs g.left && known_in vs g.right) && x) (go gs)
        ∙ turn (known_in vs g.left) (known_in vs g.right) _ _

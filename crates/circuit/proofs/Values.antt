-- The values of gates. An assignment solves the gates over given values if each gate's variable is the and of the gate's literals, and every other
-- variable is as given. Where every chain of gates is finite exactly one assignment does, and it is `value`. Assumes nothing.
use Prim.Native.Nat.{ℕ, zero, suc, ◌/◌, ◌%◌}
use mathlib.Core.Path.{◌≡◌, refl, sym, ap, ap₂, fun_ext, ◌∙◌}
use mathlib.Core.Logic.{⊎_elim}
use mathlib.Core.Bool.{Bool, true, false, ◌&&◌, true≢false}
use mathlib.Core.List.Memᴰ
use mathlib.Core.List.{List, [], ◌∷◌, Memᴰ}
use mathlib.Core.Option.{Option, none, some}
use borrow.Author.Tests.{eqb-true, eq-eqb}
use lib.Dec.{eqb}
use lib.ListN.{length}
use Rattle.base.proofs.Tests.{test, clash, both}
use Rattle.masks.specs.Bit.{bit}
use Rattle.ic3.specs.Demands.{listed, Distinct}
use Rattle.circuit.specs.Circuit.{Gate, literal, signed, and_of, gate_of, outs, index, among, value}
use Rattle.circuit.specs.Loops.{settled, loop_free}
use Rattle.circuit.proofs.Lists.{every_mem}

-- ---- the bit of a variable that stands in a list
pub among_in : (vs : List ℕ) (m : ℕ) (other : Bool) (v : ℕ) → listed vs v ≡ true → among vs m other v ≡ eqb (bit m (index vs v)) 1
unfolding among
among_in vs m other v e = rw (e, among)

pub among_out : (vs : List ℕ) (m : ℕ) (other : Bool) (v : ℕ) → listed vs v ≡ false → among vs m other v ≡ other
unfolding among
among_out vs m other v e = rw (e, among)

-- ---- the gate that defines a variable
some≢none : {g : Gate} → ◌≡◌ {A = Option Gate} (some g) none → ⊥
some≢none e = true≢false (ap some? e)
  where
    some? : Option Gate → Bool
    some? none = false
    some? (some g) = true

pub gate_found : (gs : List Gate) (v : ℕ) (g : Gate) → gate_of gs v ≡ some g → Memᴰ g gs × (g.out ≡ v)
unfolding gate_of
gate_found [] v g e = absurd (some≢none (sym e))
gate_found (h ∷ gs) v g e =
    test (eqb h.out v)
    (λ q. let same : h ≡ g = cc (rw (q, gate_of) at e) in (Memᴰ.head (sym same), rw (← same) (eqb-true h.out v q)))
    (λ q. let r = gate_found gs v g (rw (q, gate_of) at e) in (Memᴰ.tail r.0, r.1))

-- a listed variable has a gate, any other has none
pub gate_none : (gs : List Gate) (v : ℕ) → listed (outs gs) v ≡ false → gate_of gs v ≡ none
unfolding gate_of listed
gate_none [] v e = refl
gate_none (g ∷ gs) v e =
    test (eqb g.out v)
    (λ q. clash refl (rw (q, listed) at e))
    (λ q. rw (q, gate_of) (gate_none gs v (rw (q, listed) at e)))

pub gate_unlisted : (gs : List Gate) (v : ℕ) → gate_of gs v ≡ none → listed (outs gs) v ≡ false
unfolding gate_of listed
gate_unlisted [] v e = refl
gate_unlisted (g ∷ gs) v e =
    test (eqb g.out v)
    (λ q. absurd (some≢none (rw (q, gate_of) at e)))
    (λ q. rw (q, listed) (gate_unlisted gs v (rw (q, gate_of) at e)))

pub gate_listed : (gs : List Gate) (g : Gate) → Memᴰ g gs → listed (outs gs) g.out ≡ true
unfolding listed
gate_listed [] g m = absurd (Memᴰ.not-nil m)
gate_listed (h ∷ gs) g m =
    test (eqb h.out g.out)
    (λ q. rw (q, listed))
    (λ q. rw (q, listed)
    (⊎_elim (λ e. clash (eq-eqb h.out g.out (ap (λ (x : Gate). x.out) (sym e))) q) (gate_listed gs g) (Memᴰ.cases_cons m)))

-- where no variable is defined twice, each gate is found by its variable
pub gate_of_lem : (gs : List Gate) → Distinct (outs gs) → (g : Gate) → Memᴰ g gs → gate_of gs g.out ≡ some g
unfolding gate_of
gate_of_lem [] d g m = absurd (Memᴰ.not-nil m)
gate_of_lem (h ∷ gs) d g m =
    ⊎_elim
    (λ e. rw e (rw (eq-eqb h.out h.out refl, gate_of)))
    (λ n. test (eqb h.out g.out)
    (λ q. clash (gate_listed gs g n) (rw (eqb-true h.out g.out q) at d.0))
    (λ q. rw (q, gate_of) (gate_of_lem gs d.1 g n)))
    (Memᴰ.cases_cons m)

-- ---- the heart
-- the value that the gates give to v, from an assignment of the others
abbrev pub through : (ℕ → Bool) → (ℕ → Bool) → ℕ → Option Gate → Bool
through b a v none = b v
through b a v (some g) = and_of a g

abbrev pub Solves : List Gate → (ℕ → Bool) → (ℕ → Bool) → Type 0
Solves gs b a = (v : ℕ) → a v ≡ through b a v (gate_of gs v)

module _ (gs : List Gate) (b : ℕ → Bool) where
  -- a variable whose chains have at most k gates is a given one, or its gate's operands have chains of at most k - 1
  settled_through : (k v : ℕ) (a a' : ℕ → Bool) → ((u : ℕ) → settled gs k u ≡ true → a u ≡ a' u)
      → settled gs (suc k) v ≡ true → through b a v (gate_of gs v) ≡ through b a' v (gate_of gs v)
  unfolding settled and_of literal
  settled_through k v a a' ih = go (gate_of gs v)
    where
      go : (o : Option Gate)
          → (elim o as (λ x. Bool) [ none ↦ true | some g ↦ settled gs k (g.left / 2) && settled gs k (g.right / 2) ]) ≡ true
          → through b a v o ≡ through b a' v o
      go none e = refl
      go (some g) e =
          let p = both (settled gs k (g.left / 2)) (settled gs k (g.right / 2)) e in
          ap₂ (λ x y. signed (g.left % 2) x && signed (g.right % 2) y) (ih (g.left / 2) p.0) (ih (g.right / 2) p.1)

  settled_zero : (v : ℕ) (a : ℕ → Bool) → settled gs zero v ≡ true → through b a v (gate_of gs v) ≡ b v
  unfolding settled
  settled_zero v a = go (gate_of gs v)
    where
      go : (o : Option Gate) → (elim o as (λ x. Bool) [ none ↦ true | some g ↦ false ]) ≡ true → through b a v o ≡ b v
      go none e = refl
      go (some g) e = clash e refl

  -- one gate more is looked through
  value_suc : (k v : ℕ) → value gs b (suc k) v ≡ through b (value gs b k) v (gate_of gs v)
  unfolding value
  value_suc k v = go (gate_of gs v)
    where
      go : (o : Option Gate) → (elim o as (λ x. Bool) [ none ↦ b v | some g ↦ and_of (value gs b k) g ]) ≡ through b (value gs b k) v o
      go none = refl
      go (some g) = refl

  -- an assignment that solves the gates has the value
  settled_unique : (a : ℕ → Bool) → Solves gs b a → (k v : ℕ) → settled gs k v ≡ true → a v ≡ value gs b k v
  unfolding value
  settled_unique a h zero v e = h v ∙ settled_zero v a e
  settled_unique a h (suc k) v e =
      h v ∙ settled_through k v a (value gs b k) (settled_unique a h k) e ∙ sym (value_suc k v)

  -- looking deeper changes nothing
  settled_stable : (k v : ℕ) → settled gs k v ≡ true → value gs b k v ≡ value gs b (suc k) v
  unfolding value
  settled_stable zero v e = sym (value_suc zero v ∙ settled_zero v b e)
  settled_stable (suc k) v e =
      value_suc k v ∙ settled_through k v (value gs b k) (value gs b (suc k)) (settled_stable k) e ∙ sym (value_suc (suc k) v)

-- in a circuit that passes the test every variable is settled
pub all_settled : (gs : List Gate) → loop_free gs ≡ true → (v : ℕ) → settled gs (length gs) v ≡ true
unfolding loop_free settled
all_settled gs t v = go (gate_of gs v) refl
  where
    given : (k : ℕ) → gate_of gs v ≡ none → settled gs k v ≡ true
    given zero e = rw (e, settled)
    given (suc k) e = rw (e, settled)

    go : (o : Option Gate) → gate_of gs v ≡ o → settled gs (length gs) v ≡ true
    go none e = given (length gs) e
    go (some g) e =
        let r = gate_found gs v g e in
        rw (← r.1) ((every_mem (λ (h : Gate). settled gs (length gs) h.out) gs).0 t g r.0)

module _ (gs : List Gate) (t : loop_free gs ≡ true) (b : ℕ → Bool) where
  -- the values solve the gates,
  pub value_solves : Solves gs b (value gs b (length gs))
  value_solves v = settled_stable gs b (length gs) v (all_settled gs t v) ∙ value_suc gs b (length gs) v

  -- and nothing else does
  pub value_unique : (a : ℕ → Bool) → Solves gs b a → a ≡ value gs b (length gs)
  value_unique a h = fun_ext (λ v. settled_unique gs b a h (length gs) v (all_settled gs t v))

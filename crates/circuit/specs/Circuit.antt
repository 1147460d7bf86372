-- A circuit as AIGER describes it, and what it means by itself. A literal is twice a variable, plus 1 if it is inverted; variable 0 is false.
use Rattle.std.specs.Prelude.{ℕ, zero, suc, ◌+◌, ◌*◌, ◌/◌, ◌%◌, ◌^◌, Bool, true, false, not, ◌&&◌, ◌||◌, List, [], ◌∷◌, map, eqb, length}
use Rattle.std.proofs.Math.Option.{Option, none, some}
use Rattle.masks.specs.Bit.{bit, somewhere}
use Rattle.ic3.specs.Model.{Model}
use Rattle.ic3.specs.Demands.{listed}

-- A latch has a variable, the literal of its next value, and its start value as written: 0, 1, or its own literal for "either". In the first edition
-- it is 0.
pub record Latch : Type 0 where
  pub var : ℕ
  pub next : ℕ
  pub start : ℕ

pub data First : Type 0 where
  low high either : First

unfoldable pub first : Latch → First
first l = elim l.start [ zero ↦ low | suc r ↦ elim r [ zero ↦ high | suc q ↦ either ] ]

-- a gate has a variable and two literals
pub record Gate : Type 0 where
  pub out : ℕ
  pub left : ℕ
  pub right : ℕ

-- Inputs are variables, outputs, bad-state lines and constraints are literals; the first edition has none of the last two.
pub record Circuit : Type 0 where
  pub inputs : List ℕ
  pub latches : List Latch
  pub gates : List Gate
  pub outputs : List ℕ
  pub bads : List ℕ
  pub constraints : List ℕ

-- all, or one, of a list pass the test
unfoldable pub every : {A : Type 0} → (A → Bool) → List A → Bool
every p [] = true
every p (x ∷ xs) = p x && every p xs

unfoldable pub any : {A : Type 0} → (A → Bool) → List A → Bool
any p [] = false
any p (x ∷ xs) = p x || any p xs

-- the first position of v in a list; the list's length if it is not there
unfoldable pub index : List ℕ → ℕ → ℕ
index [] v = 0
index (u ∷ us) v = elim (eqb u v) [ true ↦ 0 | false ↦ suc (index us v) ]

-- ---- the value of a literal, where `a` gives each variable's
unfoldable pub signed : ℕ → Bool → Bool
signed zero b = b
signed (suc r) b = not b

unfoldable pub literal : (ℕ → Bool) → ℕ → Bool
literal a l = signed (l % 2) (a (l / 2))

-- a gate is the "and" of its two literals
unfoldable pub and_of : (ℕ → Bool) → Gate → Bool
and_of a g = literal a g.left && literal a g.right

-- the gate that defines v
unfoldable pub gate_of : List Gate → ℕ → Option Gate
gate_of [] v = none
gate_of (g ∷ gs) v = elim (eqb g.out v) [ true ↦ some g | false ↦ gate_of gs v ]

-- the value of v, if it stands in the list: the bit at its position in the list; else `other`
unfoldable pub among : List ℕ → ℕ → Bool → ℕ → Bool
among vs m other v = elim (listed vs v) [ true ↦ eqb (bit m (index vs v)) 1 | false ↦ other ]

-- the variables that latches and gates define, in file order
abbrev pub latch_vars : Circuit → List ℕ
latch_vars c = map (λ (l : Latch). l.var) c.latches

abbrev pub outs : List Gate → List ℕ
outs gs = map (λ (g : Gate). g.out) gs

-- latches have the state's bits and inputs the inputs' bits; without the gates any other variable is false
unfoldable pub given : Circuit → ℕ → ℕ → ℕ → Bool
given c s i v = among (latch_vars c) s (among c.inputs i false v) v

-- the value of v where gates are looked through at most k deep
unfoldable pub value : List Gate → (ℕ → Bool) → ℕ → ℕ → Bool
value gs b zero v = b v
value gs b (suc k) v = elim (gate_of gs v) [ none ↦ b v | some g ↦ and_of (value gs b k) g ]

-- the values of a circuit under a state and inputs: no chain of gates is longer than their number
unfoldable pub values : Circuit → ℕ → ℕ → ℕ → Bool
values c s i = value c.gates (given c s i) (length c.gates)

-- ---- the circuit's own start states, steps and bad states
-- bit k of s is as the latch in position k says
unfoldable pub starts : ℕ → List Latch → ℕ → Bool
starts k [] s = true
starts k (l ∷ ls) s = (elim (first l) [ low ↦ eqb (bit s k) 0 | high ↦ eqb (bit s k) 1 | either ↦ true ]) && starts (suc k) ls s

-- the number with these bits, lowest first
unfoldable pub number : List Bool → ℕ
number [] = 0
number (b ∷ bs) = (elim b [ true ↦ 1 | false ↦ 0 ]) + 2 * number bs

unfoldable pub next_state : Circuit → (ℕ → Bool) → ℕ
next_state c a = number (map (λ (l : Latch). literal a l.next) c.latches)

unfoldable pub constrained : Circuit → (ℕ → Bool) → Bool
constrained c a = every (literal a) c.constraints

-- if there are bad-state lines, they count and the outputs do not
unfoldable pub watched : Circuit → List ℕ
watched c = elim c.bads [ [] ↦ c.outputs | b ∷ bs ↦ c.bads ]

-- THE MEANING. Some inputs fulfil the constraints and lead to the later state, or make a watched literal 1.
unfoldable pub meaning : Circuit → Model
meaning c =
    record {
      size = 2 ^ length c.latches;
      start = starts 0 c.latches;
      step = λ s t. somewhere (2 ^ length c.inputs) (λ i. eqb t (next_state c (values c s i)) && constrained c (values c s i));
      bad = λ s. somewhere (2 ^ length c.inputs) (λ i. any (literal (values c s i)) (watched c) && constrained c (values c s i));
    }

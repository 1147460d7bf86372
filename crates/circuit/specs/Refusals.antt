-- Refusals 21 to 26 and 28 of a circuit whose lines have the right form: in their order, each over the whole circuit before the next. M is the
-- header's largest variable. (20 and 27 are about the text; 32, and the system's own, come last: Import.)
use Rattle.std.specs.Prelude.{ℕ, suc, ◌+◌, ◌*◌, ◌/◌, ◌≤◌, Bool, true, false, not, ◌||◌, ◌&&◌, List, [], ◌∷◌, ◌++◌, map, ◌≡◌, eqb, ltb, length}
use Rattle.base.specs.Refusals.{◌if◌, ◌else◌}
use Rattle.ic3.specs.Demands.{listed, Distinct}
use Rattle.circuit.specs.Circuit.{Circuit, Latch, Gate, latch_vars, outs, every, any}
use Rattle.circuit.specs.Loops.{loop_free}

-- the variables that become wires, in their order, and all that are defined
abbrev pub wires : Circuit → List ℕ
wires c = c.inputs ++ outs c.gates

abbrev pub defined : Circuit → List ℕ
defined c = latch_vars c ++ wires c

-- the literals that are used; outputs count even where bad-state lines make them idle
abbrev pub used : Circuit → List ℕ
used c =
    map (λ (l : Latch). l.next) c.latches
    ++ (map (λ (g : Gate). g.left) c.gates
    ++ (map (λ (g : Gate). g.right) c.gates ++ (c.outputs ++ (c.bads ++ c.constraints))))

-- a start value that is neither 0 nor 1 nor the latch's own literal
unfoldable pub wrong_start : Latch → Bool
wrong_start l = not (eqb l.start 0 || (eqb l.start 1 || eqb l.start (2 * l.var)))

-- how many latches stand before the first with a wrong start value
unfoldable pub right_starts : List Latch → ℕ
right_starts [] = 0
right_starts (l ∷ ls) = elim (wrong_start l) [ true ↦ 0 | false ↦ suc (right_starts ls) ]

-- a number stands twice in the list
unfoldable pub twice : List ℕ → Bool
twice [] = false
twice (v ∷ vs) = listed vs v || twice vs

-- the literal's variable is 0 or defined
unfoldable pub known : Circuit → ℕ → Bool
known c l = eqb (l / 2) 0 || listed (defined c) (l / 2)

unfoldable pub nothing_watched : Circuit → Bool
nothing_watched c = eqb (length c.outputs) 0 && eqb (length c.bads) 0

-- 21: M smaller than I + L + A; 28: a wrong start value; 22: no latch or over 32; 23: inputs plus gates over 64; 24: a variable defined twice, or
-- used and not defined; 25: a gate that depends on itself through gates; 26: neither outputs nor bad-state lines
unfoldable pub circuit_refusal : ℕ → Circuit → ℕ
circuit_refusal m c =
    21 if ltb m (length c.inputs + length c.latches + length c.gates)
    else 28 if any wrong_start c.latches
    else 22 if eqb (length c.latches) 0 || ltb 32 (length c.latches)
    else 23 if ltb 64 (length c.inputs + length c.gates)
    else 24 if twice (defined c) || not (every (known c) (used c))
    else 25 if not (loop_free c.gates)
    else 26 if nothing_watched c

-- What the theorem asks of a circuit. A circuit that is not refused is accepted.
pub record Accepted (c : Circuit) : Type 0 where
  pub some_latch : 1 ≤ length c.latches
  pub latches : length c.latches ≤ 32
  pub wires : length c.inputs + length c.gates ≤ 64
  pub once : Distinct (defined c)
  pub all_known : every (known c) (used c) ≡ true
  pub loops : loop_free c.gates ≡ true

-- Beyond demand 3: the exact bound, with full rounds and with shortened ones, and Chain of the scope, a model that meets both.
use Rattle.std.specs.Prelude.{ℕ, zero, suc, ◌+◌, ◌*◌, max, ◌&&◌, ◌||◌, [], ◌∷◌, ◌≡◌, eqb}
use Rattle.ic3.specs.Model.{Model}
use Rattle.ic3.specs.Search.{safe, Rounds, full, shortened, searched}
use Rattle.ic3.specs.Demands.{Doomed, Number}

-- the sum of the numbers up to m
unfoldable pub up_to : ℕ → ℕ
up_to zero = 0
up_to (suc m) = suc m + up_to m

-- the most questions that a search asks
abbrev pub exact : Rounds → ℕ → ℕ
exact full m = max 3 (2 * (m * m) + 2 * m + 2)
exact shortened m = 3 + 3 * up_to m

-- four states, start {0}, bad {3}, steps 0→0 and 2→1→3→0
abbrev pub chain : Model
chain =
    record {
      size = 4;
      start = eqb 0;
      step = λ s t. eqb s 0 && eqb t 0 || (eqb s 2 && eqb t 1 || (eqb s 1 && eqb t 3 || eqb s 3 && eqb t 0));
      bad = eqb 3;
    }

abbrev pub chain_asks : Rounds → ℕ
chain_asks full = 26
chain_asks shortened = 21

-- with m = 3, and room and leave for no more than that, Chain is safe after so many questions, as many as the bound allows
pub record Met (r : Rounds) : Type 0 where
  pub m : Number (Doomed chain) 3
  pub evidence : (searched r chain 3 (chain_asks r)).verdict ≡ safe (3 ∷ (1 ∷ (2 ∷ [])))
  pub asked : (searched r chain 3 (chain_asks r)).questions ≡ chain_asks r
  pub most : exact r 3 ≡ chain_asks r

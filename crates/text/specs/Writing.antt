-- Writing into a lent buffer, piece by piece, as far as it reaches.
use Rattle.std.specs.Prelude.{ℕ, zero, suc, ◌+◌, List, [], ◌∷◌, ◌≡◌, length}

-- w written over a buffer from index i on, as far as the buffer reaches
unfoldable pub laid : ℕ → List ℕ → List ℕ → List ℕ
laid i w [] = []
laid zero [] (b ∷ buffer) = b ∷ buffer
laid zero (x ∷ w) (b ∷ buffer) = x ∷ laid zero w buffer
laid (suc i) w (b ∷ buffer) = b ∷ laid i w buffer

-- w was written into a buffer from index i on, and ends at index r
pub record Writes (i : ℕ) (w before : List ℕ) (r : ℕ) (after : List ℕ) : Type 0 where
  pub content : after ≡ laid i w before
  pub end : r ≡ i + length w

-- The example of the scope: `scan` on Ring, input whole and output whole.
use Rattle.std.specs.Prelude.{ℕ, List, [], ◌∷◌, ◌++◌}
use Prim.Native.Char.{code}
use Prim.Native.String.{String, [] as none, ◌∷◌ as ◌then◌}

-- the bytes of a line, with its line feed, and of lines
abbrev pub line : String → List ℕ
line none = 10 ∷ []
line (c then s) = code c ∷ line s

abbrev pub text : List String → List ℕ
text [] = []
text (l ∷ ls) = line l ++ text ls

abbrev pub ring_file : List ℕ
ring_file =
    text ("0002FE"
    ∷ ("010000000000000001FE"
    ∷ ("010000000000000002FD"
    ∷ ("0200000002000000000000000000000001FB"
    ∷ ("0200000000000000010000000200000000FB"
    ∷ ("0200000001000000030000000000000000FA"
    ∷ ("0200000001000000000000000000000003FA"
    ∷ ("0200000000000000010000000100000002FA"
    ∷ ("0200000000000000020000000100000001FA"
    ∷ ("030000000100000000FC"
    ∷ ("030000000200000000FB"
    ∷ ("0F000AE7" ∷ []))))))))))))

abbrev pub ring_answer : List ℕ
ring_answer = text ("80000000060000000179" ∷ ("81000000037C" ∷ []))

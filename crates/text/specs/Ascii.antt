-- The bytes of an ASCII text, and the parts of a text.
use Rattle.std.specs.Prelude.{List, [], ◌∷◌, ℕ}
use Prim.Native.Char.{code}
use Prim.Native.String.{String, [] as empty, ◌∷◌ as join_char}

-- one for each character
unfoldable pub ascii : String → List ℕ
ascii empty = []
ascii (join_char c s) = code c ∷ ascii s

-- a byte more in front of the first part
abbrev pub on_first : ℕ → List (List ℕ) → List (List ℕ)
on_first c [] = (c ∷ []) ∷ []
on_first c (n ∷ ns) = (c ∷ n) ∷ ns

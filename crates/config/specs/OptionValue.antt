-- The value of an option that lists names, the Rust's `to_option_value`: quotes are doubled, and a comma parts two names. SCOPE 2.7; 01, "Texts
-- and positions". ReadBack.antt has the server's reading of it.
use Rattle.std.specs.Prelude.{ℕ, List, [], ◌∷◌, ◌++◌, eqb}
use Rattle.std.specs.Borrow.{Bor}
use Rattle.wire.specs.Bytes.{pick}

-- a byte, a single quote twice
abbrev pub quoted : ℕ → List ℕ
quoted c = pick (eqb c 39) (39 ∷ 39 ∷ []) (c ∷ [])

-- a name with each single quote doubled
unfoldable pub doubled : List ℕ → List ℕ
doubled [] = []
doubled (c ∷ s) = quoted c ++ doubled s

-- the names after the first, a comma before each
unfoldable pub following : List (Bor (List ℕ)) → List ℕ
following [] = []
following (n ∷ ns) = 44 ∷ (doubled n.now ++ following ns)

-- the names, joined with commas
unfoldable pub option_value : List (Bor (List ℕ)) → List ℕ
option_value [] = []
option_value (n ∷ ns) = doubled n.now ++ following ns

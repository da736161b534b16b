-- Lent inputs that are a list of names: SCOPE 3.5; 01, "Where each call turns back", 25.
use Rattle.std.specs.Prelude.{ℕ, ◌+◌, List, [], ◌∷◌, length, get_or}
use Rattle.std.specs.Borrow.{Bor}

-- the bytes of all names together, which 25 limits
unfoldable pub total : List (Bor (List ℕ)) → ℕ
total [] = 0
total (n ∷ ns) = length n.now + total ns

-- the name past the end, which has no bytes
abbrev pub no_name : Bor (List ℕ)
no_name = record { ref_ptr = (0, 0); now = [] }

-- the bytes of the i-th name
abbrev pub name_at : List (Bor (List ℕ)) → ℕ → List ℕ
name_at names i = (get_or names i no_name).now

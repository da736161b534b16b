-- The first place of a byte. SCOPE 1.2.
use Rattle.std.specs.Prelude.{◌≡◌, ℕ, ◌+◌, List, [], ◌∷◌, eqb}
use Rattle.std.proofs.Math.Option.{Option, some, none}
use Rattle.wire.specs.Bytes.{pick}

-- the same place, counted from n places earlier
abbrev pub later : ℕ → Option ℕ → Option ℕ
later n (some i) = some (n + i)
later n none = none

-- the first place at which b stands
unfoldable pub index_of : ℕ → List ℕ → Option ℕ
index_of b [] = none
index_of b (x ∷ xs) = pick (eqb x b) (some 0) (later 1 (index_of b xs))

-- no byte is zero
abbrev pub NoZero : List ℕ → Type 0
NoZero [] = Unit
NoZero (b ∷ s) = (b ≡ 0 → ⊥) × NoZero s

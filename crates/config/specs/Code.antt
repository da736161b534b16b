-- The value as the code goes through it: name by name, each with what stands before it. SCOPE 2.7.
use Rattle.std.specs.Prelude.{ℕ, List, [], ◌∷◌, drop, eqb}
use Rattle.std.specs.Borrow.{Bor}
use Rattle.wire.specs.Bytes.{pick}
use Rattle.config.specs.OptionValue.{following, option_value}

-- what stands before the i-th name
abbrev pub comma_at : ℕ → List ℕ
comma_at i = pick (eqb i 0) [] (44 ∷ [])

-- the value from the i-th name on
unfoldable pub listed : ℕ → List (Bor (List ℕ)) → List ℕ
listed i names = pick (eqb i 0) (option_value names) (following (drop i names))

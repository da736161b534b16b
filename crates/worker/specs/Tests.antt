-- A state's case in the step table: its tests in their order, of which the first that holds counts. SCOPE 6.11.
use Rattle.std.specs.Prelude.{Bool, false, List, [], ◌∷◌}
use Rattle.wire.specs.Bytes.{pick}

infixl 20 ◌⇒◌
-- a test, and what it gives where it holds
abbrev pub ◌⇒◌ : {A : Type 0} → Bool → A → Bool × A
c ⇒ y = (c, y)

-- what the first test that holds gives, or the last value where none holds
abbrev pub first_of : {A : Type 0} → List (Bool × A) → A → A
first_of [] y = y
first_of (t ∷ ts) y = pick t.0 t.1 (first_of ts y)

-- a and b
abbrev pub both : Bool → Bool → Bool
both a b = pick a b false

-- b and not a
abbrev pub unless : Bool → Bool → Bool
unless a b = pick a false b

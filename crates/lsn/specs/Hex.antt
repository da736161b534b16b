-- Hexadecimal texts: what one spells.
use Rattle.std.specs.Prelude.{ℕ, ◌+◌, ◌*◌, ◌-◌, List, [], ◌∷◌, Bool, false, length, leb}
use Rattle.std.proofs.Math.Option.{Option, some, none}
use Rattle.wire.specs.Bytes.{pick}
use Rattle.wire.specs.Field.{and_then}

-- a number from a to b, both with it
abbrev pub between : ℕ → ℕ → ℕ → Bool
between a b c = pick (leb a c) (leb c b) false

-- a digit's value: 0 to 9, A to F, a to f
unfoldable pub digit_of : ℕ → Option ℕ
digit_of c =
    pick (between 48 57 c) (some (c - 48))
    (pick (between 65 70 c) (some (c - 55))
    (pick (between 97 102 c) (some (c - 87))
    none))

-- the number that the digits spell after acc; none where one is no digit
unfoldable pub value_from : ℕ → List ℕ → Option ℕ
value_from acc [] = some acc
value_from acc (c ∷ s) = and_then (digit_of c) (λ d. value_from (acc * 16 + d) s)

-- one part of a position text: 1 to 8 hexadecimal digits, and nothing else. SCOPE 2.1; 02, wish 6
unfoldable pub hex_part : List ℕ → Option ℕ
hex_part s = pick (between 1 8 (length s)) (value_from 0 s) none

-- Numbers in an input of a program: big-endian, 0 where one is cut. vectors/README.md has the inputs.
use Rattle.std.specs.Prelude.{ℕ, ◌+◌, ◌-◌, min, List, length, ℤ, pos}
use Rattle.std.proofs.Math.Option.{Option, some, none}
use Rattle.wire.specs.Field.{field_at}
use Rattle.wire.specs.Int.{int_at}
use Rattle.test_lines.specs.declared.names.Name.{Name}

abbrev pub or_zero : Option ℕ → ℕ
or_zero none = 0
or_zero (some v) = v

-- the number of n bytes from place i
abbrev pub number_at : ℕ → List ℕ → ℕ → ℕ
number_at n s i = or_zero (field_at n s i)

abbrev pub or_nought : Option ℤ → ℤ
or_nought none = pos 0
or_nought (some z) = z

-- the same in two's complement
abbrev pub signed_at : ℕ → List ℕ → ℕ → ℤ
signed_at n s i = or_nought (int_at n s i)

-- a name with 2 bytes of length before it, at place i of a list of n bytes, as far as these have it
abbrev pub name_by : List ℕ → ℕ → ℕ → ℕ → Name
name_by s n a from = record { from = from; to = from + min (number_at 2 s a) (n - from) }

abbrev pub name_from : List ℕ → ℕ → ℕ → Name
name_from s n a = name_by s n a (a + min 2 (n - a))

-- the name at a place, which is held to the list's end
unfoldable pub name_at : List ℕ → ℕ → Name
name_at s i = name_from s (length s) (min i (length s))

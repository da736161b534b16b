-- Integer fields as the PostgreSQL documentation names them ("Message Data Types"): Intn is an n-bit integer in network byte order, of which it does
-- not say whether it is signed. That times, lengths and counts are signed is the Rust's (i64, i32, i16) and 01's; positions and xids are read by
-- their value (`field_at`, `be_bytes`). Widths are in bytes: Int64 is `int_at 8`. SCOPE 1.2.
use Rattle.std.specs.Prelude.{ℕ, ◌/◌, ◌^◌, Bool, List, ℤ, leb}
use Rattle.std.proofs.Math.Option.{Option}
use Rattle.wire.specs.Bytes.{be_bytes}
use Rattle.wire.specs.Field.{field_at, signed, unsigned, signed_of}

-- half of the values of n bytes: from this one on they stand for negative numbers
abbrev pub half : ℕ → ℕ
half n = 256 ^ n / 2

abbrev pub is_negative : ℕ → ℕ → Bool
is_negative n v = leb (half n) v

-- the number that a value stands for
abbrev pub int : ℕ → ℕ → ℤ
int n v = signed (half n) v

-- the value that stands for a number
abbrev pub value : ℕ → ℤ → ℕ
value n z = unsigned (half n) z

-- the number of the field at place i, or none where it is cut
abbrev pub int_at : ℕ → List ℕ → ℕ → Option ℤ
int_at n s i = signed_of (half n) (field_at n s i)

-- the bytes of a number
abbrev pub int_bytes : ℕ → ℤ → List ℕ
int_bytes n z = be_bytes n (value n z)

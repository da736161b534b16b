-- Integer fields of n bytes: one definition for every width, signed and unsigned, big-endian as all numbers on the wire are. SCOPE 1.2.
use Rattle.std.specs.Prelude.{ℕ, ◌+◌, ◌*◌, ◌-◌, List, length, ℤ, pos, negsuc, leb, ltb}
use Rattle.std.proofs.Math.Option.{Option, some, none}
use Rattle.wire.specs.Bytes.{pick, at, be}

-- the number of the n bytes from place i, or none where they are cut
unfoldable pub field_at : ℕ → List ℕ → ℕ → Option ℕ
field_at n s i = pick (leb (i + n) (length s)) (some (be (at s i n))) none

-- the number that v stands for in two's complement, where half of the values are negative
unfoldable pub signed : ℕ → ℕ → ℤ
signed half v = pick (ltb v half) (pos v) (negsuc (half * 2 - 1 - v))

-- the value that stands for z
unfoldable pub unsigned : ℕ → ℤ → ℕ
unsigned half (pos k) = k
unsigned half (negsuc k) = half * 2 - 1 - k

-- what becomes of a value that may be missing
abbrev pub and_then : {A B : Type 0} → Option A → (A → Option B) → Option B
and_then none f = none
and_then (some v) f = f v

-- a signed number of a field that may be cut
abbrev pub signed_of : ℕ → Option ℕ → Option ℤ
signed_of half none = none
signed_of half (some v) = some (signed half v)

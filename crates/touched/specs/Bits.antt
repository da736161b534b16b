-- The files as a number: bit n stands for file n. Bits above the four are not read. 02, wish 10; SCOPE 18.
use Rattle.std.specs.Prelude.{◌≡◌, Bool, ℕ, ◌+◌, ◌*◌, ◌/◌, ◌%◌, ◌<◌, eqb}
use Rattle.wire.specs.Bytes.{pick}
use Rattle.touched.specs.declared.Files.{Files}
use Rattle.touched.specs.Touched.{files}

-- a bit's value
abbrev pub bit_of : Bool → ℕ
bit_of b = pick b 1 0

-- whether the lowest bit is set
abbrev pub bit_at : ℕ → Bool
bit_at n = eqb (n % 2) 1

-- 0 to 15
unfoldable pub bits_of : Files → ℕ
bits_of b = bit_of b.zero + 2 * bit_of b.one + 4 * bit_of b.two + 8 * bit_of b.three

unfoldable pub files_by : ℕ → Files
files_by n = files (bit_at n) (bit_at (n / 2)) (bit_at (n / 4)) (bit_at (n / 8))

-- the number goes there and back: it is below 16, gives the same files again, and of any number the four lowest bits are kept
pub record BitLaws : Type 0 where
  pub below : (b : Files) → bits_of b < 16
  pub back : (b : Files) → files_by (bits_of b) ≡ b
  pub lowest : (n : ℕ) → bits_of (files_by n) ≡ n % 16

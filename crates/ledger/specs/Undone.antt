-- What is undone, and which bit is which file's, said apart from the definitions that code and reading share. SCOPE 19.
use Rattle.std.specs.Prelude.{◌≡◌, true, false, ℕ, ◌≤◌, ◌<◌}
use Rattle.touched.specs.declared.Files.{Files}
use Rattle.touched.specs.Bits.{bits_of}
use Rattle.ledger.specs.declared.Entry.{Entry}
use Rattle.ledger.specs.Ledger.{bit_for, undone_for}

-- the bits are those of the touched files, and 15 is all four
pub record FileBits : Type 0 where
  pub zero : (b : Files) → bit_for 0 (bits_of b) ≡ b.zero
  pub one : (b : Files) → bit_for 1 (bits_of b) ≡ b.one
  pub two : (b : Files) → bit_for 2 (bits_of b) ≡ b.two
  pub three : (b : Files) → bit_for 3 (bits_of b) ≡ b.three
  pub all_four : (f : ℕ) → f ≤ 3 → bit_for f 15 ≡ true

-- an entry is undone for a file where it touches it and its end is above both the start and the file's D, and only there
pub record UndoneLaws : Type 0 where
  pub undone : (start done f : ℕ) (e : Entry) → bit_for f e.touched ≡ true → start < e.end → done < e.end → undone_for start done f e ≡ true
  pub untouched : (start done f : ℕ) (e : Entry) → bit_for f e.touched ≡ false → undone_for start done f e ≡ false
  pub at_start : (start done f : ℕ) (e : Entry) → e.end ≤ start → undone_for start done f e ≡ false
  pub at_done : (start done f : ℕ) (e : Entry) → e.end ≤ done → undone_for start done f e ≡ false

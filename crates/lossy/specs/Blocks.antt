-- Blocks of characters of one and two bytes: Table 3-7's first two rows. SCOPE 2.6.
use Rattle.std.specs.Prelude.{◌≡◌, List, ℕ, zero, suc, ◌+◌, ◌≤◌, length, drop, get_or, ltb, eqb}
use Rattle.wire.specs.Bytes.{pick}
use Rattle.lossy.specs.Stretch.{stretch_of}

-- 1 for a continuation byte, else 0
abbrev pub trails : ℕ → ℕ
trails b = pick (ltb b 0x80) 0 (pick (ltb b 0xC0) 1 0)

-- what that is of the byte after this one, in characters of one and two bytes; 2 where the byte stands in none of them
abbrev pub leads : ℕ → ℕ
leads b = pick (ltb b 0xC0) 0 (pick (ltb b 0xC2) 2 (pick (ltb b 0xE0) 1 2))

-- 0 where the second may follow the first, else 1
abbrev pub fits : ℕ → ℕ → ℕ
fits a b = pick (eqb (leads a) (trails b)) 0 1

-- how many of n bytes from the place on may not stand before the one after them
unfoldable pub unfit_at : List ℕ → ℕ → ℕ → ℕ
unfit_at s i zero = 0
unfit_at s i (suc n) = unfit_at s i n + fits (get_or s (i + n) 0) (get_or s (i + n + 1) 0)

-- the bytes from the one place to the other are well-formed
pub record PassedTo (s : List ℕ) (i j : ℕ) : Type 0 where
  pub from : i ≤ j
  pub within : j ≤ length s
  pub is : i + stretch_of (drop i s) ≡ j + stretch_of (drop j s)

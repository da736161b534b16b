-- Byte strings: parts of a list, a list written over another, and the numbers that bytes spell. SCOPE 1.2.
use Rattle.std.specs.Prelude.{ℕ, zero, suc, ◌+◌, ◌*◌, ◌/◌, ◌%◌, min, Bool, true, false, List, [], ◌∷◌, ◌++◌, length, take, drop, leb}

-- one of two values by a test
abbrev pub pick : {A : Type 0} → Bool → A → A → A
pick true a b = a
pick false a b = b

-- a flag as a number
abbrev pub flag_word : Bool → ℕ
flag_word true = 1
flag_word false = 0

-- the n elements from index i, as far as they are there
abbrev pub at : List ℕ → ℕ → ℕ → List ℕ
at s i n = take n (drop i s)

-- d with src written over it from index i
unfoldable pub put : List ℕ → ℕ → List ℕ → List ℕ
put d i src = take i d ++ (src ++ drop (i + length src) d)

-- what is answered where a text does not fit: no slice is so long that this is a place in it
abbrev pub nowhere : ℕ
nowhere = 18446744073709551615

-- src written at place i where it fits, with the place after it; else nowhere, and all as it was
unfoldable pub placed : List ℕ → ℕ → List ℕ → ℕ × List ℕ
placed d i src = pick (leb (i + length src) (length d)) (i + length src, put d i src) (nowhere, d)

-- as much of src as fits over the front of d, and how much that is
unfoldable pub copied : List ℕ → List ℕ → ℕ × List ℕ
copied d src = let n : ℕ = min (length src) (length d) in (n, put d 0 (take n src))

-- the number that the bytes spell after acc
unfoldable pub be_from : ℕ → List ℕ → ℕ
be_from acc [] = acc
be_from acc (x ∷ xs) = be_from (acc * 256 + x) xs

-- the number that the bytes spell, the first byte the highest (big-endian)
unfoldable pub be : List ℕ → ℕ
be s = be_from 0 s

-- the n lowest bytes of v, the highest first
unfoldable pub be_bytes : ℕ → ℕ → List ℕ
be_bytes zero v = []
be_bytes (suc n) v = be_bytes n (v / 256) ++ (v % 256 ∷ [])

-- The longest well-formed beginning of a text, which the lossy writer copies as it is. SCOPE 2.6; 02, wish 3.
use Rattle.std.specs.Prelude.{◌≡◌, refl, List, [], ◌∷◌, ◌++◌, ℕ, ◌+◌, ◌≤◌, ◌<◌, length, take, drop}
use Rattle.utf8.specs.WellFormed.{table, row_of, matched}
use Rattle.lossy.specs.Lossy.{Part, well, ill, parts_of, lossy_of}
use Rattle.lossy.specs.Parts.{AllSequences, concat}

-- the bytes of the well-formed parts before the first ill-formed one
unfoldable pub stretch_all : List Part → ℕ
stretch_all [] = 0
stretch_all (well s ∷ ps) = length s + stretch_all ps
stretch_all (ill s ∷ ps) = 0

-- how far a text is well-formed
unfoldable pub stretch_of : List ℕ → ℕ
stretch_of s = stretch_all (parts_of (length s) s)

-- ---- what that is, without the parts that are found

-- a text of well-formed sequences
pub record IsWellFormed (s : List ℕ) : Type 0 where
  pub sequences : List (List ℕ)
  pub each : AllSequences sequences
  pub joined : concat sequences ≡ s

-- the largest n whose first n bytes are well-formed
pub record Longest (s : List ℕ) (n : ℕ) : Type 0 where
  pub within : n ≤ length s
  pub well_formed : IsWellFormed (take n s)
  pub most : (m : ℕ) → m ≤ length s → IsWellFormed (take m s) → m ≤ n

abbrev pub StretchIsLongest : Type 0
StretchIsLongest = (s : List ℕ) → Longest s (stretch_of s)

-- ---- what the lossy text makes of it

-- the stretch stands as it is, and then the lossy text of what follows it
abbrev pub StretchIsCopied : Type 0
StretchIsCopied = (s : List ℕ) → lossy_of s ≡ take (stretch_of s) s ++ lossy_of (drop (stretch_of s) s)

-- which begins with a mark, unless nothing follows
abbrev pub MarkFollows : Type 0
MarkFollows = (s : List ℕ) → stretch_of s < length s → (rest : List ℕ) × (lossy_of (drop (stretch_of s) s) ≡ 0xEF ∷ 0xBF ∷ 0xBD ∷ rest)

pub record Cases : Type 0 where
  pub none : stretch_of [] ≡ 0
  -- the beginning of a sequence is none
  pub cut : stretch_of (0xE2 ∷ 0x82 ∷ []) ≡ 0
  pub cut_before : stretch_of (0xE2 ∷ 0x82 ∷ 0x42 ∷ []) ≡ 0
  pub whole : stretch_of (0xE2 ∷ 0x82 ∷ 0xAC ∷ []) ≡ 3
  pub before_a_byte : stretch_of (0x61 ∷ 0xFF ∷ 0x61 ∷ []) ≡ 1
  -- U+FFFD of the text's own is well-formed
  pub own_mark : stretch_of (0xEF ∷ 0xBF ∷ 0xBD ∷ 0xC2 ∷ []) ≡ 3

-- each by computing the definitions
pub cases : Cases
unfolding stretch_of stretch_all parts_of row_of table matched
cases = record { none = refl; cut = refl; cut_before = refl; whole = refl; before_a_byte = refl; own_mark = refl }

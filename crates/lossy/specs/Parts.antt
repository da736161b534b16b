-- What the parts of a text are, by the Unicode Standard, section 3.9: Table 3-7, and definition D93b of a maximal subpart. SCOPE 2.6; 01, "Texts
-- and positions". `parts_of` is how they are found.
use Rattle.std.specs.Prelude.{◌≡◌, true, List, [], ◌∷◌, ◌++◌, ◌⊎◌, ℕ, ◌≤◌, ◌<◌, length, take}
use Rattle.utf8.specs.WellFormed.{Range, table, within}
use Rattle.lossy.specs.Lossy.{Part, well, ill, bytes_of, parts_of, lossy_of}

-- a byte in each range of a row, and no more bytes
abbrev pub Matches : List Range → List ℕ → Type 0
Matches [] [] = Unit
Matches [] (b ∷ s) = ⊥
Matches (r ∷ rs) [] = ⊥
Matches (r ∷ rs) (b ∷ s) = (within r b ≡ true) × Matches rs s

-- a byte in each of the first ranges of a row, as many as there are bytes
abbrev pub Begins : List Range → List ℕ → Type 0
Begins row [] = Unit
Begins [] (b ∷ s) = ⊥
Begins (r ∷ rs) (b ∷ s) = (within r b ≡ true) × Begins rs s

-- some row of a table
abbrev pub AnyRow : List (List Range) → (List Range → Type 0) → Type 0
AnyRow [] p = ⊥
AnyRow (row ∷ rows) p = p row ⊎ AnyRow rows p

-- a well-formed sequence
abbrev pub Sequence : List ℕ → Type 0
Sequence s = AnyRow table (λ row. Matches row s)

-- the beginning of one
abbrev pub Beginning : List ℕ → Type 0
Beginning s = AnyRow table (λ row. Begins row s)

-- D93b: p, with the bytes rest after it, is a maximal subpart. No well-formed sequence begins there; p begins one or is a single byte; and no
-- more bytes begin one
pub record Maximal (p rest : List ℕ) : Type 0 where
  pub unconvertible : (n : ℕ) → Sequence (take n (p ++ rest)) → ⊥
  pub part : Beginning p ⊎ (length p ≡ 1)
  pub some : 1 ≤ length p
  pub longest : (n : ℕ) → length p < n → n ≤ length (p ++ rest) → Beginning (take n (p ++ rest)) → ⊥

-- the bytes of the parts, one after the other
abbrev pub bytes_of_all : List Part → List ℕ
bytes_of_all [] = []
bytes_of_all (p ∷ ps) = bytes_of p ++ bytes_of_all ps

-- each part is a sequence, or a maximal subpart before the bytes of the parts after it
abbrev pub Right : List Part → Type 0
Right [] = Unit
Right (well p ∷ ps) = Sequence p × Right ps
Right (ill p ∷ ps) = Maximal p (bytes_of_all ps) × Right ps

-- the parts of a text joined are the text, and each is what it should be
abbrev pub PartsAreRight : Type 0
PartsAreRight = (s : List ℕ) → let ps = parts_of (length s) s in (bytes_of_all ps ≡ s) × Right ps

-- ---- well-formed text

abbrev pub AllSequences : List (List ℕ) → Type 0
AllSequences [] = Unit
AllSequences (q ∷ qs) = Sequence q × AllSequences qs

abbrev pub concat : List (List ℕ) → List ℕ
concat [] = []
concat (q ∷ qs) = q ++ concat qs

-- a text of well-formed sequences is its own lossy text
abbrev pub WellFormedIsUnchanged : Type 0
WellFormedIsUnchanged = (qs : List (List ℕ)) → AllSequences qs → lossy_of (concat qs) ≡ concat qs

-- Lossy text, the Rust's `String::from_utf8_lossy`: U+FFFD stands for each ill-formed part, as the Unicode Standard has it, section 3.9,
-- "U+FFFD Substitution of Maximal Subparts". SCOPE 2.6; 01, "Texts and positions". Parts.antt says what the parts are; this is how they are
-- found.
use Rattle.std.specs.Prelude.{ℕ, zero, suc, max, List, [], ◌∷◌, ◌++◌, length, take, drop, eqb}
use Rattle.wire.specs.Bytes.{pick}
use Rattle.utf8.specs.WellFormed.{Range, table, row_of, matched}

-- a part of a text: a well-formed sequence, or a maximal ill-formed part
pub data Part : Type 0 where
  well ill : List ℕ → Part

-- the part at the front, by the row that its first byte b begins: the bytes that match the row, a sequence where they are the whole
-- row; else a maximal subpart (D93b): the longest beginning of a sequence, or one byte
abbrev pub part_by : List Range → List ℕ → Part
part_by [] s = ill (take 1 s)
part_by (r ∷ rs) s =
    let n : ℕ = matched (r ∷ rs) s in
    pick (eqb n (length (r ∷ rs))) (well (take n s)) (ill (take (max 1 n) s))

-- the bytes of a part
abbrev pub bytes_of : Part → List ℕ
bytes_of (well s) = s
bytes_of (ill s) = s

-- the parts of a text of at most n bytes
unfoldable pub parts_of : ℕ → List ℕ → List Part
parts_of zero s = []
parts_of (suc n) [] = []
parts_of (suc n) (b ∷ s) =
    let p : Part = part_by (row_of table b) (b ∷ s) in
    p ∷ parts_of n (drop (length (bytes_of p)) (b ∷ s))

-- what a part becomes: itself, or U+FFFD
abbrev pub shown : Part → List ℕ
shown (well s) = s
shown (ill s) = 0xEF ∷ 0xBF ∷ 0xBD ∷ []

-- what the parts become, one after the other
unfoldable pub shown_all : List Part → List ℕ
shown_all [] = []
shown_all (p ∷ ps) = shown p ++ shown_all ps

-- the lossy text of a byte string
unfoldable pub lossy_of : List ℕ → List ℕ
lossy_of s = shown_all (parts_of (length s) s)

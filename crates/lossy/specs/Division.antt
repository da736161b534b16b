-- Lossy text by the Unicode Standard alone, section 3.9: the rows of Table 3-7, definition D93b of a maximal subpart, and "U+FFFD Substitution of
-- Maximal Subparts". Nothing that finds parts has a share in it. SCOPE 2.6; 01, "Texts and positions".
use Rattle.std.specs.Prelude.{◌≡◌, List, [], ◌∷◌, ◌++◌, ◌⊎◌, ℕ, suc, ◌≤◌, ◌<◌, length, take}
use Rattle.lossy.specs.Lossy.{lossy_of}
use Rattle.lossy.specs.Marks.{marks_of}
use Rattle.lossy.specs.Stretch.{stretch_of}

-- a byte from low to high, both with it
abbrev pub In : ℕ → ℕ → ℕ → Type 0
In low high b = (low ≤ b) × (b ≤ high)

-- Table 3-7, "Well-Formed UTF-8 Byte Sequences": the bytes of one character
pub data Character : List ℕ → Type 0 where
  row_1 : {a : ℕ} → In 0x00 0x7F a → Character (a ∷ [])
  row_2 : {a b : ℕ} → In 0xC2 0xDF a → In 0x80 0xBF b → Character (a ∷ b ∷ [])
  row_3 : {a b c : ℕ} → In 0xE0 0xE0 a → In 0xA0 0xBF b → In 0x80 0xBF c → Character (a ∷ b ∷ c ∷ [])
  row_4 : {a b c : ℕ} → In 0xE1 0xEC a → In 0x80 0xBF b → In 0x80 0xBF c → Character (a ∷ b ∷ c ∷ [])
  row_5 : {a b c : ℕ} → In 0xED 0xED a → In 0x80 0x9F b → In 0x80 0xBF c → Character (a ∷ b ∷ c ∷ [])
  row_6 : {a b c : ℕ} → In 0xEE 0xEF a → In 0x80 0xBF b → In 0x80 0xBF c → Character (a ∷ b ∷ c ∷ [])
  row_7 : {a b c d : ℕ} → In 0xF0 0xF0 a → In 0x90 0xBF b → In 0x80 0xBF c → In 0x80 0xBF d → Character (a ∷ b ∷ c ∷ d ∷ [])
  row_8 : {a b c d : ℕ} → In 0xF1 0xF3 a → In 0x80 0xBF b → In 0x80 0xBF c → In 0x80 0xBF d → Character (a ∷ b ∷ c ∷ d ∷ [])
  row_9 : {a b c d : ℕ} → In 0xF4 0xF4 a → In 0x80 0x8F b → In 0x80 0xBF c → In 0x80 0xBF d → Character (a ∷ b ∷ c ∷ d ∷ [])

-- the beginning of a character: some bytes after it make one
abbrev pub BeginsOne : List ℕ → Type 0
BeginsOne p = (t : List ℕ) × Character (p ++ t)

-- D93b: p, before the bytes rest, is a maximal subpart at a place where no character stands: the longest beginning of a character, or one byte
pub record IllFormed (p rest : List ℕ) : Type 0 where
  pub unconvertible : (c t : List ℕ) → c ++ t ≡ p ++ rest → Character c → ⊥
  pub some : 1 ≤ length p
  pub subpart : BeginsOne p ⊎ (length p ≡ 1)
  pub longest : (q t : List ℕ) → q ++ t ≡ p ++ rest → length p < length q → BeginsOne q → ⊥

-- a piece of a text
pub data Piece : Type 0 where
  character ill_formed : List ℕ → Piece

-- the bytes of a piece
abbrev pub bytes_in : Piece → List ℕ
bytes_in (character c) = c
bytes_in (ill_formed p) = p

-- a piece is what it says before the bytes after it
abbrev pub IsPiece : Piece → List ℕ → Type 0
IsPiece (character c) rest = Character c
IsPiece (ill_formed p) rest = IllFormed p rest

-- the pieces are the text's, one after the other
abbrev pub Divides : List Piece → List ℕ → Type 0
Divides [] s = s ≡ []
Divides (x ∷ xs) s = (rest : List ℕ) × (bytes_in x ++ rest ≡ s) × IsPiece x rest × Divides xs rest

-- the text with EF BF BD, the encoding of U+FFFD, in the place of each ill-formed piece
abbrev pub substituted : List Piece → List ℕ
substituted [] = []
substituted (character c ∷ xs) = c ++ substituted xs
substituted (ill_formed p ∷ xs) = 0xEF ∷ 0xBF ∷ 0xBD ∷ substituted xs

-- how many pieces are ill-formed
abbrev pub ill_formed_in : List Piece → ℕ
ill_formed_in [] = 0
ill_formed_in (character c ∷ xs) = ill_formed_in xs
ill_formed_in (ill_formed p ∷ xs) = suc (ill_formed_in xs)

-- the characters before the first ill-formed piece
abbrev pub before_ill_formed : List Piece → List ℕ
before_ill_formed [] = []
before_ill_formed (character c ∷ xs) = c ++ before_ill_formed xs
before_ill_formed (ill_formed p ∷ xs) = []

pub record DivisionLaws : Type 0 where
  -- every text has one division, and no other
  pub divided : (s : List ℕ) → (xs : List Piece) × Divides xs s
  pub one_division : (s : List ℕ) (xs ys : List Piece) → Divides xs s → Divides ys s → xs ≡ ys
  -- by which its lossy text, the marks in that and its well-formed beginning are known
  pub text : (s : List ℕ) (xs : List Piece) → Divides xs s → lossy_of s ≡ substituted xs
  pub marks : (s : List ℕ) (xs : List Piece) → Divides xs s → marks_of s ≡ ill_formed_in xs
  pub beginning : (s : List ℕ) (xs : List Piece) → Divides xs s → take (stretch_of s) s ≡ before_ill_formed xs
  pub beginning_length : (s : List ℕ) (xs : List Piece) → Divides xs s → stretch_of s ≡ length (before_ill_formed xs)

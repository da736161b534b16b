-- Which refusals there are and where each one is given, said by the bytes that are sent alone; and that the first bad field counts whatever stands
-- behind it. SCOPE 3.13, 7.2.
use Rattle.std.specs.Prelude.{◌≡◌, true, List, [], ◌∷◌, ◌++◌, ◌⊎◌, ℕ, ◌+◌, ◌<◌, ◌^◌, length, drop}
use Rattle.std.proofs.Math.Pow.{are_bytes}
use Rattle.wire.specs.Bytes.{be_bytes}
use Rattle.rows.specs.Layout.{got, refused}
use Rattle.rows.specs.Rows.{cell_bytes, described_bytes, row_bytes, row, no_row, refused_by, row_said}
use Rattle.rows.specs.RowLayout.{CellFits, DescribedFits, RowFits}
use Rattle.rows.specs.Head.{column_at, description_at, identifier_at}

-- 26 and 27 alone
abbrev pub RefusalsAreTwo : Type 0
RefusalsAreTwo = (s : List ℕ) (n : ℕ) → row_said s ≡ refused_by n → (n ≡ 26) ⊎ (n ≡ 27)

-- a wrong letter counts whatever follows it: with more data it is the same refusal
abbrev pub WrongLetterCounts : Type 0
WrongLetterCounts = (s t : List ℕ) → row_said s ≡ refused_by 27 → row_said (s ++ t) ≡ refused_by 27

-- ---- the first byte

-- s begins with byte b
abbrev pub BeginsWith : ℕ → List ℕ → Type 0
BeginsWith b s = (t : List ℕ) × (s ≡ b ∷ t)

-- Begin, Commit and Message: 42, 43 and 4D
abbrev pub IsBoundary : List ℕ → Type 0
IsBoundary s = BeginsWith 0x42 s ⊎ BeginsWith 0x43 s ⊎ BeginsWith 0x4D s

-- the letters of messages that carry rows: R, Y, O, I, U, D, T
abbrev pub IsRowLetter : ℕ → Type 0
IsRowLetter b = (b ≡ 0x52) ⊎ (b ≡ 0x59) ⊎ (b ≡ 0x4F) ⊎ (b ≡ 0x49) ⊎ (b ≡ 0x55) ⊎ (b ≡ 0x44) ⊎ (b ≡ 0x54)

-- no row where, and only where, the first byte is 42, 43 or 4D; no data are 26; any other first byte than these and the seven letters is 27
pub record FirstByte : Type 0 where
  pub none : (s : List ℕ) → IsBoundary s → row_said s ≡ no_row
  pub only_these : (s : List ℕ) → row_said s ≡ no_row → IsBoundary s
  pub no_data : row_said [] ≡ refused_by 26
  pub unlisted : (b : ℕ) (t : List ℕ) → (IsBoundary (b ∷ t) → ⊥) → (IsRowLetter b → ⊥) → row_said (b ∷ t) ≡ refused_by 27

-- ---- 26 against 27

-- byte c may stand behind x: the bytes of something that can be sent begin with both
pub record MayFollow {A : Type 0} (Fit : A → Type 0) (bytes : A → List ℕ) (x : List ℕ) (c : ℕ) : Type 0 where
  pub sent : A
  pub fits : Fit sent
  pub rest : List ℕ
  pub whole : bytes sent ≡ x ++ (c ∷ rest)

-- x is the longest beginning of d with which something that is sent begins, and byte b stands behind it
pub record Leaves {A : Type 0} (Fit : A → Type 0) (bytes : A → List ℕ) (d x : List ℕ) (b : ℕ) : Type 0 where
  pub rest : List ℕ
  pub there : d ≡ x ++ (b ∷ rest)
  -- a byte is still to come behind x, but not this one
  pub other : ℕ
  pub goes_on : MayFollow Fit bytes x other
  pub never : MayFollow Fit bytes x b → ⊥

-- What is answered of data d from which one A is read: itself where d begins with its bytes; 26 where d ends before its bytes do; and where d leaves
-- them, 26 at a count or length and 27 at a letter. A count or length may begin with a zero byte, and no letter is one; every other field may have
-- any byte. Nothing else is answered.
pub record Told {A : Type 0} (Fit : A → Type 0) (bytes : A → List ℕ) (d : List ℕ) (answers : A → Type 0) (refuses : ℕ → Type 0) : Type 0 where
  pub sent : (v : A) (t : List ℕ) → Fit v → d ≡ bytes v ++ t → answers v
  pub ended : (c : ℕ) → MayFollow Fit bytes d c → refuses 26
  pub negative : (x : List ℕ) (b : ℕ) → Leaves Fit bytes d x b → MayFollow Fit bytes x 0 → refuses 26
  pub unlisted : (x : List ℕ) (b : ℕ) → Leaves Fit bytes d x b → (MayFollow Fit bytes x 0 → ⊥) → refuses 27
  -- and back: nothing else is answered or refused so
  pub was_sent : (v : A) → answers v → Fit v × (t : List ℕ) × (d ≡ bytes v ++ t)
  pub only_26 : refuses 26
      → ((c : ℕ) × MayFollow Fit bytes d c) ⊎ ((x : List ℕ) × (b : ℕ) × Leaves Fit bytes d x b × MayFollow Fit bytes x 0)
  pub only_27 : refuses 27 → (x : List ℕ) × (b : ℕ) × Leaves Fit bytes d x b × (MayFollow Fit bytes x 0 → ⊥)
  pub only_two : (n : ℕ) → refuses n → (n ≡ 26) ⊎ (n ≡ 27)

-- a row; and from any place of any data a column, a description and an identifier
pub record TellsAll : Type 0 where
  pub of_row : (s : List ℕ) → are_bytes s ≡ true → (IsBoundary s → ⊥)
      → Told RowFits row_bytes s (λ r. row_said s ≡ row r) (λ n. row_said s ≡ refused_by n)
  pub of_column : (s : List ℕ) → are_bytes s ≡ true → (i : ℕ)
      → Told CellFits cell_bytes (drop i s) (λ c. column_at s i ≡ got c (i + length (cell_bytes c))) (λ n. column_at s i ≡ refused n)
  pub of_description : (s : List ℕ) → are_bytes s ≡ true → (i : ℕ)
      → Told DescribedFits described_bytes (drop i s) (λ d. description_at s i ≡ got d (i + length (described_bytes d)))
      (λ n. description_at s i ≡ refused n)
  pub of_identifier : (s : List ℕ) → are_bytes s ≡ true → (i : ℕ)
      → Told (λ id. id < 2 ^ 32) (λ id. be_bytes 4 id) (drop i s) (λ id. identifier_at s i ≡ got id (i + 4)) (λ n. identifier_at s i ≡ refused n)

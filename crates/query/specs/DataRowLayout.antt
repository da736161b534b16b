-- The layout of a DataRow: PostgreSQL documentation, "Message Formats" (DataRow). Int16 number of columns; for each column Int32 length of its
-- value, -1 for null, and that many bytes. Any negative length is taken for null and a negative number of columns for none; surplus bytes are
-- ignored. SCOPE 3.10; 01, "Messages".
use Rattle.std.specs.Prelude.{◌≡◌, true, List, [], ◌∷◌, ◌++◌, map, ◌⊎◌, ℕ, zero, suc, ◌+◌, ◌-◌, ◌^◌, ◌≤◌, ◌<◌, length}
use Rattle.std.proofs.Math.Option.{Option, some, none}
use Rattle.std.proofs.Math.Pow.{are_bytes}
use Rattle.wire.specs.Bytes.{at, be_bytes}
use Rattle.wire.specs.Int.{half}
use Rattle.query.specs.DataRow.{columns_of, count_of, column_of}
use Rattle.query.specs.declared.Column.{Column}
use Rattle.query.specs.declared.Column.TheVariants.{Null, Part, Absent}

-- a column as it is sent: a null with the length that says so, or a value
pub data Cell : Type 0 where
  null : ℕ → Cell
  value : List ℕ → Cell

-- Int32 length, Byten value
unfoldable pub cell_bytes : Cell → List ℕ
cell_bytes (null n) = be_bytes 4 n
cell_bytes (value v) = be_bytes 4 (length v) ++ v

-- one after the other
unfoldable pub cells_bytes : List Cell → List ℕ
cells_bytes [] = []
cells_bytes (c ∷ cs) = cell_bytes c ++ cells_bytes cs

-- a null's length is negative, a value's is not
abbrev pub Sendable : Cell → Type 0
Sendable (null n) = (half 4 ≤ n) × (n < 2 ^ 32)
Sendable (value v) = length v < half 4

abbrev pub AllSendable : List Cell → Type 0
AllSendable [] = Unit
AllSendable (c ∷ cs) = Sendable c × AllSendable cs

-- the number of columns as it is sent: how many there are, or a negative number for none
abbrev pub Counts : ℕ → List Cell → Type 0
Counts n cs = ((n ≡ length cs) × (n < half 2)) ⊎ ((half 2 ≤ n) × (n < 2 ^ 16) × (cs ≡ []))

-- the payload is these columns as they are sent, and what follows them
pub record Laid (payload : List ℕ) (cells : List Cell) : Type 0 where
  pub count : ℕ
  pub counts : Counts count cells
  pub sendable : AllSendable cells
  pub rest : List ℕ
  pub whole : payload ≡ be_bytes 2 count ++ (cells_bytes cells ++ rest)

-- what a column says: that it is null, the bytes that it names in the payload, or that there is no such column
pub data Meaning : Type 0 where
  nothing : Meaning
  bytes : List ℕ → Meaning
  missing : Meaning

abbrev pub meaning_of : List ℕ → Column → Meaning
meaning_of payload Null = nothing
meaning_of payload (Part from len) = bytes (at payload from len)
meaning_of payload Absent = missing

abbrev pub meanings_by : List ℕ → Option (List Column) → Option (List Meaning)
meanings_by payload none = none
meanings_by payload (some cs) = some (map (meaning_of payload) cs)

-- what the columns of a payload say, in order
unfoldable pub data_row_read : List ℕ → Option (List Meaning)
data_row_read payload = meanings_by payload (columns_of payload)

abbrev pub meant : Cell → Meaning
meant (null n) = nothing
meant (value v) = bytes v

-- a payload that is laid out as columns is read as these
abbrev pub LaidIsRead : Type 0
LaidIsRead = (payload : List ℕ) (cells : List Cell) → Laid payload cells → data_row_read payload ≡ some (map meant cells)

-- what is read from a payload of bytes is how the payload is laid out
abbrev pub ReadIsLaid : Type 0
ReadIsLaid =
    (payload : List ℕ) (ts : List Meaning) → are_bytes payload ≡ true → data_row_read payload ≡ some ts
    → (cells : List Cell) × Laid payload cells × (map meant cells ≡ ts)

-- nulls and values as the document has them sent: the length of a null is -1
abbrev pub cell_of : Option (List ℕ) → Cell
cell_of none = null (2 ^ 32 - 1)
cell_of (some v) = value v

-- Int16 count of columns, then the columns
unfoldable pub data_row_bytes : List (Option (List ℕ)) → List ℕ
data_row_bytes vs = be_bytes 2 (length vs) ++ cells_bytes (map cell_of vs)

-- every value's length is a number that is not negative
abbrev pub Short : List (Option (List ℕ)) → Type 0
Short [] = Unit
Short (none ∷ vs) = Short vs
Short (some v ∷ vs) = (length v < half 4) × Short vs

-- so they are read back, whatever follows
abbrev pub SentIsRead : Type 0
SentIsRead = (vs : List (Option (List ℕ))) (surplus : List ℕ) → length vs < half 2 → Short vs
    → data_row_read (data_row_bytes vs ++ surplus) ≡ some (map (λ v. meant (cell_of v)) vs)

-- ---- what is answered about one column

-- the cell of a number, from 0, where there is one
abbrev pub cell_at : ℕ → List Cell → Option Cell
cell_at i [] = none
cell_at zero (c ∷ cs) = some c
cell_at (suc i) (c ∷ cs) = cell_at i cs

-- an answer about a cell: no such column, a null, or the place of the value in the payload
abbrev pub Answers : List ℕ → Option Cell → ℕ × ℕ × ℕ × ℕ → Type 0
Answers payload none c = c ≡ (0, 0, 0, 0)
Answers payload (some (null n)) c = c ≡ (0, 1, 0, 0)
Answers payload (some (value v)) c = (from : ℕ) × (c ≡ (0, 2, from, length v)) × (from + length v ≤ length payload) × (at payload from (length v) ≡ v)

-- of a payload that is laid out as columns each is answered, and a number past the last one is absent, not null
abbrev pub ColumnIsLaid : Type 0
ColumnIsLaid =
    (payload : List ℕ) (cells : List Cell) → Laid payload cells → (i : ℕ) → Answers payload (cell_at i cells) (column_of (columns_of payload) i)

-- a payload of bytes that is laid out in no way is refused with 20, as a row and whichever column is asked for
abbrev pub NotLaidIsRefused : Type 0
NotLaidIsRefused = (payload : List ℕ) → are_bytes payload ≡ true → ((cells : List Cell) → Laid payload cells → ⊥)
    → (count_of (columns_of payload) ≡ (20, 0)) × ((i : ℕ) → column_of (columns_of payload) i ≡ (20, 0, 0, 0))

-- a part that any answer names lies in the payload
abbrev pub PartIsWithin : Type 0
PartIsWithin = (payload : List ℕ) (i : ℕ) → let c = column_of (columns_of payload) i in c.2 + c.3 ≤ length payload

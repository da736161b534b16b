-- DataRow: PostgreSQL documentation, "Message Formats". Int16 number of columns; for each column Int32 length, -1 for null, and the bytes.
-- A negative number of columns stands for none, and a negative length for a null; there is no column from the count on; a malformed row is
-- refused with 20.
-- That the numbers are signed is 01's and the Rust's reading. SCOPE 3.10; 01, "Messages".
use Rattle.std.specs.Prelude.{ℕ, zero, suc, ◌+◌, ◌-◌, List, [], ◌∷◌, length, ltb, Result, Ok, Err}
use Rattle.std.proofs.Math.Option.{Option, some, none}
use Rattle.wire.specs.Bytes.{pick}
use Rattle.wire.specs.Field.{field_at}
use Rattle.wire.specs.Int.{is_negative}
use Rattle.error.specs.Refusal.{number_of}
use Rattle.error.specs.declared.Refusal.{Refusal}
use Rattle.query.specs.declared.Column.{Column}
use Rattle.query.specs.declared.Column.TheVariants.{Null, Part, Absent}

-- the column at place i of a payload of n bytes, by its length, and the place after it; none where the length or the value is cut
abbrev pub column_by : ℕ → ℕ → Option ℕ → Option (Column × ℕ)
column_by n i none = none
column_by n i (some len) =
    pick (is_negative 4 len) (some (Null, i + 4))
    (pick (ltb (n - (i + 4)) len) none
    (some (Part (i + 4) len, i + 4 + len)))

-- the column whose length field stands at place i, and the place after it
unfoldable pub column_at : List ℕ → ℕ → Option (Column × ℕ)
column_at s i = column_by (length s) i (field_at 4 s i)

-- one column more in front
abbrev pub also : Column → Option (List Column) → Option (List Column)
also c none = none
also c (some cs) = some (c ∷ cs)

-- a column and those after it
abbrev pub column_then : Option (Column × ℕ) → (ℕ → Option (List Column)) → Option (List Column)
column_then none go = none
column_then (some c) go = also c.0 (go c.1)

-- n columns from place i on, of a payload s: none where a length or a value is cut
unfoldable pub columns_from : ℕ → List ℕ → ℕ → Option (List Column)
columns_from zero s i = some []
columns_from (suc n) s i = column_then (column_at s i) (λ k. columns_from n s k)

-- by the number of columns
abbrev pub data_row_by : List ℕ → Option ℕ → Option (List Column)
data_row_by s none = none
data_row_by s (some n) = pick (is_negative 2 n) (some []) (columns_from n s 2)

-- the columns of a row
unfoldable pub columns_of : List ℕ → Option (List Column)
columns_of s = data_row_by s (field_at 2 s 0)

-- 01's number, 0 for none, and how many columns there are
abbrev pub count_of : Option (List Column) → ℕ × ℕ
count_of none = (20, 0)
count_of (some cs) = (0, length cs)

-- the column of a number, from 0
unfoldable pub nth : ℕ → List Column → Column
nth i [] = Absent
nth zero (c ∷ cs) = c
nth (suc i) (c ∷ cs) = nth i cs

-- what the answer about a column says: 01's number, 0 for none; 0 for no such column, 1 for a null, 2 for a value; where the value begins in
-- the payload, and its length
abbrev pub column_said : Column → ℕ × ℕ × ℕ × ℕ
column_said Absent = (0, 0, 0, 0)
column_said Null = (0, 1, 0, 0)
column_said (Part from len) = (0, 2, from, len)

abbrev pub column_outcome : Result Column Refusal → ℕ × ℕ × ℕ × ℕ
column_outcome (Ok c) = column_said c
column_outcome (Err r) = (number_of r, 0, 0, 0)

-- the same of a row and a column's number, from 0
abbrev pub column_of : Option (List Column) → ℕ → ℕ × ℕ × ℕ × ℕ
column_of none i = (20, 0, 0, 0)
column_of (some cs) i = column_said (nth i cs)

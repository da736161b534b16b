-- The messages that carry rows: PostgreSQL documentation, "Logical Replication Message Formats" (Origin, Relation, Type, Insert, Update, Delete,
-- Truncate, TupleData), protocol version 1, where no message has a transaction's identifier in front. SCOPE 3.13.
-- Each stands here twice: as the bytes that are sent, and as a layout that is read. That the two agree is proved.
use Rattle.std.specs.Prelude.{Bool, true, false, List, [], ◌∷◌, ◌++◌, map, ℕ, length, ℤ, eqb}
use Rattle.std.proofs.Common.{inl, inr}
use Prim.Native.Char.{code}
use Rattle.wire.specs.Bytes.{pick, be_bytes}
use Rattle.wire.specs.Int.{int_bytes}
use Rattle.rows.specs.Layout.{Layout, Letters, number, integer, name, value, many, both, nothing, letter, or, no_other, Value, Read, got}
use Rattle.rows.specs.Layout.{refused, read_at, all_bytes}
use Rattle.rows.specs.declared.Which.{Which}
use Rattle.rows.specs.declared.Which.TheVariants.{Key, Old}

-- ---- rows

-- a column of a tuple: null; unchanged, where the value is not sent; or its bytes, as text or in binary format
pub data Cell : Type 0 where
  null : Cell
  unchanged : Cell
  text : List ℕ → Cell
  binary : List ℕ → Cell

-- a column of a relation: flags, name, type, type modifier
pub data Described : Type 0 where
  described : ℕ → List ℕ → ℕ → ℤ → Described

-- relation: identifier, namespace, name, replica identity, columns. type: identifier, namespace, name. origin: position, name.
-- insert: relation, new tuple. update: relation, the key or the old tuple where it is sent, new tuple. delete: relation, the key or the old tuple.
-- truncate: option bits, relations
pub data Row : Type 0 where
  relation : ℕ → List ℕ → List ℕ → ℕ → List Described → Row
  type : ℕ → List ℕ → List ℕ → Row
  origin : ℕ → List ℕ → Row
  insert : ℕ → List Cell → Row
  update : ℕ → List Cell → Row
  update_from : ℕ → Which → List Cell → List Cell → Row
  delete : ℕ → Which → List Cell → Row
  truncate : ℕ → List ℕ → Row

-- ---- the bytes that are sent

-- String: its bytes and a zero byte
abbrev pub string_bytes : List ℕ → List ℕ
string_bytes v = v ++ (0 ∷ [])

-- TupleData, a column: Byte1('n'); or Byte1('u'); or Byte1('t') or Byte1('b'), Int32 length, Byten value
unfoldable pub cell_bytes : Cell → List ℕ
cell_bytes null = code "n" ∷ []
cell_bytes unchanged = code "u" ∷ []
cell_bytes (text v) = code "t" ∷ (be_bytes 4 (length v) ++ v)
cell_bytes (binary v) = code "b" ∷ (be_bytes 4 (length v) ++ v)

-- TupleData: Int16 number of columns, and the columns
unfoldable pub tuple_bytes : List Cell → List ℕ
tuple_bytes cs = be_bytes 2 (length cs) ++ all_bytes cell_bytes cs

-- a column of a Relation: Int8 flags, String name, Int32 type, Int32 type modifier
unfoldable pub described_bytes : Described → List ℕ
described_bytes (described flags v oid modifier) = be_bytes 1 flags ++ (string_bytes v ++ (be_bytes 4 oid ++ int_bytes 4 modifier))

-- Byte1('K') a key, Byte1('O') an old tuple
abbrev pub which_letter : Which → ℕ
which_letter Key = code "K"
which_letter Old = code "O"

-- relation: Byte1('R'), Int32 identifier, String namespace, String name, Int8 replica identity, Int16 number of columns, the columns.
-- type: Byte1('Y'), Int32 identifier, String namespace, String name. origin: Byte1('O'), Int64 position, String name.
-- insert: Byte1('I'), Int32 relation, Byte1('N'), TupleData. update: Byte1('U'), Int32 relation, then or not Byte1('K') or Byte1('O') and
-- TupleData, then Byte1('N'), TupleData. delete: Byte1('D'), Int32 relation, Byte1('K') or Byte1('O'), TupleData.
-- truncate: Byte1('T'), Int32 number of relations, Int8 option bits, Int32 for each relation
unfoldable pub row_bytes : Row → List ℕ
row_bytes (relation id space v identity cs) =
    code "R"
    ∷ (be_bytes 4 id ++ (string_bytes space ++ (string_bytes v ++ (be_bytes 1 identity ++ (be_bytes 2 (length cs) ++ all_bytes described_bytes cs)))))
row_bytes (type id space v) = code "Y" ∷ (be_bytes 4 id ++ (string_bytes space ++ string_bytes v))
row_bytes (origin position v) = code "O" ∷ (be_bytes 8 position ++ string_bytes v)
row_bytes (insert id new) = code "I" ∷ (be_bytes 4 id ++ (code "N" ∷ tuple_bytes new))
row_bytes (update id new) = code "U" ∷ (be_bytes 4 id ++ (code "N" ∷ tuple_bytes new))
row_bytes (update_from id which old new) = code "U" ∷ (be_bytes 4 id ++ (which_letter which ∷ (tuple_bytes old ++ (code "N" ∷ tuple_bytes new))))
row_bytes (delete id which old) = code "D" ∷ (be_bytes 4 id ++ (which_letter which ∷ tuple_bytes old))
row_bytes (truncate options ids) = code "T" ∷ (be_bytes 4 (length ids) ++ (be_bytes 1 options ++ all_bytes (λ id. be_bytes 4 id) ids))

-- ---- the layouts that are read

-- the letters of a column, in the order of the document
abbrev pub column_letters : Letters
column_letters = or (code "n") nothing (or (code "u") nothing (or (code "t") value (or (code "b") value no_other)))

-- a column of a tuple
abbrev pub column_layout : Layout
column_layout = letter column_letters

-- TupleData
abbrev pub tuple_layout : Layout
tuple_layout = many 2 nothing column_layout

-- a column of a Relation
abbrev pub described_layout : Layout
described_layout = both (number 1) (both name (both (number 4) integer))

-- Relation, after its letter
abbrev pub relation_layout : Layout
relation_layout = both (number 4) (both name (both name (both (number 1) (many 2 nothing described_layout))))

-- Type, after its letter
abbrev pub type_layout : Layout
type_layout = both (number 4) (both name name)

-- Origin, after its letter
abbrev pub origin_layout : Layout
origin_layout = both (number 8) name

-- the new tuple with its letter
abbrev pub new_layout : Layout
new_layout = letter (or (code "N") tuple_layout no_other)

-- Insert, after its letter
abbrev pub insert_layout : Layout
insert_layout = both (number 4) new_layout

-- the key or the old tuple after its letter, then the new one
abbrev pub old_new_layout : Layout
old_new_layout = both tuple_layout new_layout

-- Update, after its letter: `K` or `O` stands before the old tuple, and neither where there is none
abbrev pub update_layout : Layout
update_layout = both (number 4) (letter (or (code "K") old_new_layout (or (code "O") old_new_layout (or (code "N") tuple_layout no_other))))

-- Delete, after its letter
abbrev pub delete_layout : Layout
delete_layout = both (number 4) (letter (or (code "K") tuple_layout (or (code "O") tuple_layout no_other)))

-- Truncate, after its letter: the option bits stand between the count and the relations
abbrev pub truncate_layout : Layout
truncate_layout = many 4 (number 1) (number 4)

-- the letters of messages that carry rows
abbrev pub row_letters : Letters
row_letters =
    or (code "R") relation_layout
    (or (code "Y") type_layout
    (or (code "O") origin_layout
    (or (code "I") insert_layout
    (or (code "U") update_layout
    (or (code "D") delete_layout
    (or (code "T") truncate_layout
    no_other))))))

-- a message that carries a row
abbrev pub row_layout : Layout
row_layout = letter row_letters

-- ---- the rows of what was read

-- a column by its letter
abbrev pub cell_of : Value column_layout → Cell
cell_of (inl v) = null
cell_of (inr (inl v)) = unchanged
cell_of (inr (inr (inl v))) = text v
cell_of (inr (inr (inr (inl v)))) = binary v
cell_of (inr (inr (inr (inr e)))) = absurd e

-- the columns of a tuple, in order
abbrev pub cells_of : Value tuple_layout → List Cell
cells_of v = map cell_of v.1

-- a description by its fields
abbrev pub described_of : Value described_layout → Described
described_of v = described v.0 v.1.0 v.1.1.0 v.1.1.1

-- the row of a Relation
abbrev pub relation_of : Value relation_layout → Row
relation_of v = relation v.0 v.1.0 v.1.1.0 v.1.1.1.0 (map described_of v.1.1.1.1.1)

-- the row of a Type
abbrev pub type_of : Value type_layout → Row
type_of v = type v.0 v.1.0 v.1.1

-- the row of an Origin
abbrev pub origin_of : Value origin_layout → Row
origin_of v = origin v.0 v.1

-- the columns of the new tuple
abbrev pub new_of : Value new_layout → List Cell
new_of (inl v) = cells_of v
new_of (inr e) = absurd e

-- the row of an Insert
abbrev pub insert_of : Value insert_layout → Row
insert_of v = insert v.0 (new_of v.1)

-- the row of an Update with an old tuple
abbrev pub old_new_of : ℕ → Which → Value old_new_layout → Row
old_new_of id which v = update_from id which (cells_of v.0) (new_of v.1)

-- the row of an Update, by the letter after the relation
abbrev pub update_of : Value update_layout → Row
update_of (id, inl v) = old_new_of id Key v
update_of (id, inr (inl v)) = old_new_of id Old v
update_of (id, inr (inr (inl v))) = update id (cells_of v)
update_of (id, inr (inr (inr e))) = absurd e

-- the row of a Delete, by the letter after the relation
abbrev pub delete_of : Value delete_layout → Row
delete_of (id, inl v) = delete id Key (cells_of v)
delete_of (id, inr (inl v)) = delete id Old (cells_of v)
delete_of (id, inr (inr e)) = absurd e

-- the row of a Truncate
abbrev pub truncate_of : Value truncate_layout → Row
truncate_of v = truncate v.0 v.1

-- the row by its letter
abbrev pub row_of : Value row_layout → Row
row_of (inl v) = relation_of v
row_of (inr (inl v)) = type_of v
row_of (inr (inr (inl v))) = origin_of v
row_of (inr (inr (inr (inl v)))) = insert_of v
row_of (inr (inr (inr (inr (inl v))))) = update_of v
row_of (inr (inr (inr (inr (inr (inl v)))))) = delete_of v
row_of (inr (inr (inr (inr (inr (inr (inl v))))))) = truncate_of v
row_of (inr (inr (inr (inr (inr (inr (inr e))))))) = absurd e

-- ---- data

-- what data say: a row, that they are none, or the number of the refusal
pub data Said : Type 0 where
  row : Row → Said
  no_row : Said
  refused_by : ℕ → Said

-- Begin, Commit and Message carry no row
abbrev pub boundary_letter : ℕ → Bool
boundary_letter b = pick (eqb b (code "B")) true (pick (eqb b (code "C")) true (eqb b (code "M")))

-- data whose first letter is one of these
abbrev pub is_boundary : List ℕ → Bool
is_boundary [] = false
is_boundary (b ∷ s) = boundary_letter b

-- the row of what was read, or the refusal
abbrev pub said_of : {A : Type 0} → (A → Row) → Read A → Said
said_of f (got v j) = row (f v)
said_of f (refused n) = refused_by n

-- by the first letter; what follows the row is not read
unfoldable pub row_said : List ℕ → Said
row_said s = pick (is_boundary s) no_row (said_of row_of (read_at row_layout s 0))

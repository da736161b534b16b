-- Rows both ways: what is sent is read as what it says, whatever follows, and what is read was sent so; and what the readers of one column, one
-- description and one identifier answer from the places that a head names. Data are bytes. SCOPE 3.13.
use Rattle.std.specs.Prelude.{◌≡◌, true, List, [], ◌∷◌, ◌++◌, ℕ, ◌+◌, ◌<◌, ◌≤◌, ◌^◌, length, ℤ}
use Rattle.std.specs.Int.Signed.{mag}
use Rattle.std.proofs.Math.Pow.{are_bytes}
use Rattle.wire.specs.Bytes.{at, be_bytes}
use Rattle.wire.specs.Find.{NoZero}
use Rattle.rows.specs.Layout.{Read, got, All, all_bytes}
use Rattle.rows.specs.Rows.{Cell, null, unchanged, text, binary, Described, described, Row, relation, type, origin, insert, update, update_from}
use Rattle.rows.specs.Rows.{delete, truncate, cell_bytes, described_bytes, row_bytes, row, refused_by, row_said}
use Rattle.rows.specs.declared.Which.{Which}
use Rattle.rows.specs.Head.{column_at, description_at, identifier_at}

-- ---- rows that can be sent: numbers of their widths, names without a zero byte, counts and lengths that are not negative

-- a value's length is a number of 32 bits that is not negative
abbrev pub CellFits : Cell → Type 0
CellFits null = Unit
CellFits unchanged = Unit
CellFits (text v) = length v < 2 ^ 31
CellFits (binary v) = length v < 2 ^ 31

-- a count of 16 bits that is not negative
abbrev pub TupleFits : List Cell → Type 0
TupleFits cs = (length cs < 2 ^ 15) × All CellFits cs

-- flags of 8 bits, a type and a modifier of 32
abbrev pub DescribedFits : Described → Type 0
DescribedFits (described flags v oid modifier) = (flags < 2 ^ 8) × NoZero v × (oid < 2 ^ 32) × (mag modifier < 2 ^ 31)

-- each number of its own width
abbrev pub RowFits : Row → Type 0
RowFits (relation id space v identity cs) =
    (id < 2 ^ 32) × NoZero space × NoZero v × (identity < 2 ^ 8) × (length cs < 2 ^ 15) × All DescribedFits cs
RowFits (type id space v) = (id < 2 ^ 32) × NoZero space × NoZero v
RowFits (origin position v) = (position < 2 ^ 64) × NoZero v
RowFits (insert id new) = (id < 2 ^ 32) × TupleFits new
RowFits (update id new) = (id < 2 ^ 32) × TupleFits new
RowFits (update_from id which old new) = (id < 2 ^ 32) × TupleFits old × TupleFits new
RowFits (delete id which old) = (id < 2 ^ 32) × TupleFits old
RowFits (truncate options ids) = (options < 2 ^ 8) × (length ids < 2 ^ 31) × All (λ id. id < 2 ^ 32) ids

-- one holds where the other does
abbrev pub Both : Type 0 → Type 0 → Type 0
Both A B = (A → B) × (B → A)

-- what can be sent, with each number written out: no value is left out, and none is added
pub record FitLaws : Type 0 where
  pub of_null : CellFits null
  pub of_unchanged : CellFits unchanged
  pub of_text : (v : List ℕ) → Both (CellFits (text v)) (length v ≤ 2147483647)
  pub of_binary : (v : List ℕ) → Both (CellFits (binary v)) (length v ≤ 2147483647)
  pub of_tuple : (cs : List Cell) → Both (TupleFits cs) ((length cs ≤ 32767) × All CellFits cs)
  pub of_described : (flags : ℕ) (v : List ℕ) (oid : ℕ) (modifier : ℤ)
      → Both (DescribedFits (described flags v oid modifier)) ((flags ≤ 255) × NoZero v × (oid ≤ 4294967295) × (mag modifier ≤ 2147483647))
  pub of_relation : (id : ℕ) (space v : List ℕ) (identity : ℕ) (cs : List Described)
      → Both (RowFits (relation id space v identity cs))
      ((id ≤ 4294967295) × NoZero space × NoZero v × (identity ≤ 255) × (length cs ≤ 32767) × All DescribedFits cs)
  pub of_type : (id : ℕ) (space v : List ℕ) → Both (RowFits (type id space v)) ((id ≤ 4294967295) × NoZero space × NoZero v)
  pub of_origin : (position : ℕ) (v : List ℕ) → Both (RowFits (origin position v)) ((position ≤ 18446744073709551615) × NoZero v)
  pub of_insert : (id : ℕ) (new : List Cell) → Both (RowFits (insert id new)) ((id ≤ 4294967295) × TupleFits new)
  pub of_update : (id : ℕ) (new : List Cell) → Both (RowFits (update id new)) ((id ≤ 4294967295) × TupleFits new)
  pub of_update_from : (id : ℕ) (which : Which) (old new : List Cell)
      → Both (RowFits (update_from id which old new)) ((id ≤ 4294967295) × TupleFits old × TupleFits new)
  pub of_delete : (id : ℕ) (which : Which) (old : List Cell) → Both (RowFits (delete id which old)) ((id ≤ 4294967295) × TupleFits old)
  pub of_truncate : (options : ℕ) (ids : List ℕ)
      → Both (RowFits (truncate options ids)) ((options ≤ 255) × (length ids ≤ 2147483647) × All (λ id. id ≤ 4294967295) ids)

-- ---- both directions

-- every row that can be sent is read as that row, with exactly its values in their order
abbrev pub SentIsRead : Type 0
SentIsRead = (r : Row) (surplus : List ℕ) → RowFits r → row_said (row_bytes r ++ surplus) ≡ row r

-- what is read as a row is the bytes of that row and a surplus
abbrev pub ReadIsSent : Type 0
ReadIsSent = (s : List ℕ) (r : Row) → are_bytes s ≡ true → row_said s ≡ row r → RowFits r × (surplus : List ℕ) × (s ≡ row_bytes r ++ surplus)

-- a row that is cut anywhere is refused with 26
abbrev pub CutRowIsRefused : Type 0
CutRowIsRefused = (r : Row) (x y : List ℕ) → RowFits r → x ++ y ≡ row_bytes r → 0 < length y → row_said x ≡ refused_by 26

-- ---- readers in a row

-- readers, the first at place i and each at the place that the last one answered, answer these values; the last one answers place j
abbrev pub InTurn : {A : Type 0} → (ℕ → Read A) → ℕ → List A → ℕ → Type 0
InTurn f i [] j = i ≡ j
InTurn f i (v ∷ vs) j = (k : ℕ) × (f i ≡ got v k) × InTurn f k vs j

-- a tuple's columns from place i on: the readers go over its bytes once and end in the data
abbrev pub ColumnsFrom : List ℕ → ℕ → List Cell → Type 0
ColumnsFrom s i cs = InTurn (column_at s) i cs (i + length (all_bytes cell_bytes cs)) × (i + length (all_bytes cell_bytes cs) ≤ length s)

-- of each row, from the places that its head names
abbrev pub ReadersOf : List ℕ → Row → Type 0
ReadersOf s (relation id space v identity cs) =
    let i : ℕ = 10 + length space + length v in
    InTurn (description_at s) i cs (i + length (all_bytes described_bytes cs)) × (i + length (all_bytes described_bytes cs) ≤ length s)
ReadersOf s (type id space v) = Unit
ReadersOf s (origin position v) = Unit
ReadersOf s (insert id new) = ColumnsFrom s 8 new
ReadersOf s (update id new) = ColumnsFrom s 8 new
ReadersOf s (update_from id which old new) = ColumnsFrom s 8 old × ColumnsFrom s (11 + length (all_bytes cell_bytes old)) new
ReadersOf s (delete id which old) = ColumnsFrom s 8 old
ReadersOf s (truncate options ids) =
    InTurn (identifier_at s) 6 ids (6 + length (all_bytes (λ id. be_bytes 4 id) ids)) × (6 + length (all_bytes (λ id. be_bytes 4 id) ids) ≤ length s)

-- so many readers as the head says answer the row's values and refuse nothing
abbrev pub ReadersAnswer : Type 0
ReadersAnswer = (s : List ℕ) (r : Row) → are_bytes s ≡ true → row_said s ≡ row r → ReadersOf s r

-- of any data at any place, a reader that answers goes on by the bytes of what it answers, one at least, and not past the end
pub record ReaderLaws : Type 0 where
  pub column : (s : List ℕ) (i : ℕ) (c : Cell) (j : ℕ) → column_at s i ≡ got c j → (j ≡ i + length (cell_bytes c)) × (i < j) × (j ≤ length s)
  pub description : (s : List ℕ) (i : ℕ) (d : Described) (j : ℕ) → description_at s i ≡ got d j
      → (j ≡ i + length (described_bytes d)) × (i < j) × (j ≤ length s)
  pub identifier : (s : List ℕ) (i id j : ℕ) → identifier_at s i ≡ got id j → (j ≡ i + 4) × (j ≤ length s)

-- the parts that a head and a reader name hold the names and values that were read
pub record PartLaws : Type 0 where
  pub text_part : (s : List ℕ) → are_bytes s ≡ true → (i : ℕ) (v : List ℕ) (j : ℕ) → column_at s i ≡ got (text v) j → at s (i + 5) (length v) ≡ v
  pub binary_part : (s : List ℕ) → are_bytes s ≡ true → (i : ℕ) (v : List ℕ) (j : ℕ) → column_at s i ≡ got (binary v) j → at s (i + 5) (length v) ≡ v
  pub description_part : (s : List ℕ) → are_bytes s ≡ true → (i flags : ℕ) (v : List ℕ) (oid : ℕ) (modifier : ℤ) (j : ℕ)
      → description_at s i ≡ got (described flags v oid modifier) j → at s (i + 1) (length v) ≡ v
  pub relation_parts : (s : List ℕ) → are_bytes s ≡ true → (id : ℕ) (space v : List ℕ) (identity : ℕ) (cs : List Described)
      → row_said s ≡ row (relation id space v identity cs) → (at s 5 (length space) ≡ space) × (at s (6 + length space) (length v) ≡ v)
  pub type_parts : (s : List ℕ) → are_bytes s ≡ true → (id : ℕ) (space v : List ℕ)
      → row_said s ≡ row (type id space v) → (at s 5 (length space) ≡ space) × (at s (6 + length space) (length v) ≡ v)
  pub origin_part : (s : List ℕ) → are_bytes s ≡ true → (position : ℕ) (v : List ℕ) → row_said s ≡ row (origin position v) → at s 9 (length v) ≡ v

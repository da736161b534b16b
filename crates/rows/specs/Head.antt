-- What the answers say. Data are answered by a row's head: its numbers, where its names stand, how many columns, descriptions or identifiers it has
-- and where the first of them stands. Each of these is then read at its place, and the answer has the place of the next.
use Rattle.std.specs.Prelude.{List, ℕ, ◌+◌, length, ℤ, Option, Some, None, Result, Ok, Err}
use Rattle.error.specs.Refusal.{protocol}
use Rattle.rows.specs.Layout.{Layout, number, integer, both, Read, got, refused, mapped, read_at, all_bytes}
use Rattle.rows.specs.Rows.{Cell, null, unchanged, text, binary, Described, described, Row, relation, type, origin, insert, update, update_from}
use Rattle.rows.specs.Rows.{delete, truncate, cell_bytes, column_layout, described_layout, cell_of, described_of, Said, row, no_row, refused_by}
use Rattle.rows.specs.declared.Refusal.{Refusal}
use Rattle.rows.specs.declared.Refusal.TheVariants.{FieldCut, UnknownLetter}
use Rattle.rows.specs.declared.Which.{Which}
use Rattle.rows.specs.declared.Part.{Part}
use Rattle.rows.specs.declared.Tuple.{Tuple}
use Rattle.rows.specs.declared.Row.{Row as RowAnswer}
use Rattle.rows.specs.declared.Column.{Column}
use Rattle.rows.specs.declared.Description.{Description}

-- ---- refusals

-- the number of each: SCOPE 3.13, 7.1
abbrev pub number_of : Refusal → ℕ
number_of FieldCut = 26
number_of UnknownLetter = 27

-- the kind of each, by its number in SCOPE 7.4
abbrev pub kind_of : Refusal → ℕ
kind_of FieldCut = protocol
kind_of UnknownLetter = protocol

-- ---- a head

-- a part of the data: where it begins, and its length
abbrev pub Span : Type 0
Span = ℕ × ℕ

-- relation: identifier, namespace, name, replica identity, how many columns, where the first description stands. type: identifier, namespace, name.
-- origin: position, name. Of a tuple, how many columns it has and where the first one stands. truncate: how many relations, option bits, where the
-- first identifier stands
pub data Head : Type 0 where
  relation_head : ℕ → Span → Span → ℕ → ℕ → ℕ → Head
  type_head : ℕ → Span → Span → Head
  origin_head : ℕ → Span → Head
  insert_head : ℕ → Span → Head
  update_head : ℕ → Span → Head
  update_from_head : ℕ → Which → Span → Span → Head
  delete_head : ℕ → Which → Span → Head
  truncate_head : ℕ → ℕ → ℕ → Head

-- the head of a row whose letter stands at place 0: each field stands after the bytes of those before it
abbrev pub head_of : Row → Head
head_of (relation id space v identity cs) =
    relation_head id (5, length space) (6 + length space, length v) identity (length cs) (10 + length space + length v)
head_of (type id space v) = type_head id (5, length space) (6 + length space, length v)
head_of (origin position v) = origin_head position (9, length v)
head_of (insert id new) = insert_head id (length new, 8)
head_of (update id new) = update_head id (length new, 8)
head_of (update_from id which old new) = update_from_head id which (length old, 8) (length new, 11 + length (all_bytes cell_bytes old))
head_of (delete id which old) = delete_head id which (length old, 8)
head_of (truncate options ids) = truncate_head (length ids) options 6

-- what is answered: a head, no row, or the number of the refusal
pub data Answer : Type 0 where
  head : Head → Answer
  none : Answer
  refusal : ℕ → Answer

-- the answer to data: the head of their row
abbrev pub answer_of : Said → Answer
answer_of (row r) = head (head_of r)
answer_of no_row = none
answer_of (refused_by n) = refusal n

-- the answer to one message, whose fields were read
abbrev pub head_told : {A : Type 0} → (A → Head) → Read A → Answer
head_told f (got v j) = head (f v)
head_told f (refused n) = refusal n

-- a part of the code as a span
abbrev pub span_of : Part → Span
span_of p = (p.from, p.len)

-- a tuple's count, and the place of its first column
abbrev pub tuple_of : Tuple → Span
tuple_of t = (t.columns, t.from)

-- the head that a row of the code stands for
abbrev pub row_head : RowAnswer → Head
row_head (RowAnswer.Relation id space v identity columns from) = relation_head id (span_of space) (span_of v) identity columns from
row_head (RowAnswer.Type id space v) = type_head id (span_of space) (span_of v)
row_head (RowAnswer.Origin position v) = origin_head position (span_of v)
row_head (RowAnswer.Insert id new) = insert_head id (tuple_of new)
row_head (RowAnswer.Update id new) = update_head id (tuple_of new)
row_head (RowAnswer.UpdateFrom id which old new) = update_from_head id which (tuple_of old) (tuple_of new)
row_head (RowAnswer.Delete id which old) = delete_head id which (tuple_of old)
row_head (RowAnswer.Truncate relations options from) = truncate_head relations options from

-- what an answer of the code says
abbrev pub answer_by : Result (Option RowAnswer) Refusal → Answer
answer_by (Ok (Some r)) = head (row_head r)
answer_by (Ok None) = none
answer_by (Err r) = refusal (number_of r)

-- what the answer to one message says, which always has a row
abbrev pub message_by : Result RowAnswer Refusal → Answer
message_by (Ok r) = head (row_head r)
message_by (Err r) = refusal (number_of r)

-- ---- one column

-- a column that stands at a place: null; unchanged; or a value, as text or in binary format, by the part that has it
pub data ToldCell : Type 0 where
  told_null : ToldCell
  told_unchanged : ToldCell
  told_text : Span → ToldCell
  told_binary : Span → ToldCell

-- a value stands after its letter and its length
abbrev pub cell_at : ℕ → Cell → ToldCell
cell_at i null = told_null
cell_at i unchanged = told_unchanged
cell_at i (text v) = told_text (i + 5, length v)
cell_at i (binary v) = told_binary (i + 5, length v)

-- the column at a place, and the place after it
abbrev pub column_at : List ℕ → ℕ → Read Cell
column_at s i = mapped cell_of (read_at column_layout s i)

-- what a column of the code stands for
abbrev pub cell_by : Column → ToldCell
cell_by Column.Null = told_null
cell_by Column.Unchanged = told_unchanged
cell_by (Column.Text part) = told_text (span_of part)
cell_by (Column.Binary part) = told_binary (span_of part)

-- what an answer about a column says
abbrev pub column_by : Result (Column × ℕ) Refusal → Read ToldCell
column_by (Ok (c, next)) = got (cell_by c) next
column_by (Err r) = refused (number_of r)

-- ---- one description

-- flags, the part that has the name, type, type modifier
pub data ToldDescription : Type 0 where
  told_description : ℕ → Span → ℕ → ℤ → ToldDescription

-- the name stands after the flags
abbrev pub described_at : ℕ → Described → ToldDescription
described_at i (described flags v oid modifier) = told_description flags (i + 1, length v) oid modifier

-- the description at a place, and the place after it
abbrev pub description_at : List ℕ → ℕ → Read Described
description_at s i = mapped described_of (read_at described_layout s i)

-- what an answer about a description says
abbrev pub description_by : Result (Description × ℕ) Refusal → Read ToldDescription
description_by (Ok (d, next)) = got (told_description d.flags (span_of d.name) d.oid d.modifier) next
description_by (Err r) = refused (number_of r)

-- ---- one identifier

-- the identifier at a place, and the place after it
abbrev pub identifier_at : List ℕ → ℕ → Read ℕ
identifier_at s i = read_at (number 4) s i

-- what an answer about an identifier says
abbrev pub identifier_by : Result (ℕ × ℕ) Refusal → Read ℕ
identifier_by (Ok (id, next)) = got id next
identifier_by (Err r) = refused (number_of r)

-- ---- what the inner functions say

-- a name or a value by its part
abbrev pub part_by : Result (Part × ℕ) Refusal → Read Span
part_by (Ok (part, next)) = got (span_of part) next
part_by (Err r) = refused (number_of r)

-- the end of a description: type, type modifier
abbrev pub typed_layout : Layout
typed_layout = both (number 4) integer

-- the place after fields alone
abbrev pub end_by : Result ℕ Refusal → Read Unit
end_by (Ok next) = got tt next
end_by (Err r) = refused (number_of r)

-- how many there are and where the first one stands
abbrev pub counted_by : Result (Tuple × ℕ) Refusal → Read Span
counted_by (Ok (tuple, next)) = got (tuple_of tuple) next
counted_by (Err r) = refused (number_of r)

-- What is handed out leads to the values of the row: each place that a head or a reader names is where its value stands; and what the values of the
-- code stand for. SCOPE 3.13, 7.1.
use Rattle.std.specs.Prelude.{◌≡◌, true, List, ℕ, length, ℤ, Some, None, Ok, Err}
use Rattle.std.proofs.Math.Pow.{are_bytes}
use Rattle.wire.specs.Bytes.{at}
use Rattle.rows.specs.Layout.{got, refused, mapped}
use Rattle.rows.specs.Rows.{Cell, null, unchanged, text, binary, Described, described, relation, type, origin, insert, update, update_from}
use Rattle.rows.specs.Rows.{delete}
use Rattle.rows.specs.Rows.{truncate, row, refused_by, row_said}
use Rattle.rows.specs.RowLayout.{InTurn}
use Rattle.rows.specs.Refusals.{IsBoundary}
use Rattle.rows.specs.Head.{relation_head, type_head, origin_head, insert_head, update_head, update_from_head, delete_head, truncate_head}
use Rattle.rows.specs.Head.{head, none, refusal, answer_of, answer_by, told_null, told_unchanged, told_text, told_binary, cell_at, column_at}
use Rattle.rows.specs.Head.{column_by}
use Rattle.rows.specs.Head.{told_description, described_at, description_at, description_by, identifier_at, identifier_by, number_of, kind_of}
use Rattle.rows.specs.declared.Which.{Which}
use Rattle.rows.specs.declared.Part.{Part}
use Rattle.rows.specs.declared.Tuple.{Tuple}
use Rattle.rows.specs.declared.Refusal.{Refusal}
use Rattle.rows.specs.declared.Refusal.TheVariants.{FieldCut, UnknownLetter}
use Rattle.rows.specs.declared.Row.{Row as RowAnswer}
use Rattle.rows.specs.declared.Column.{Column}

-- ---- the head

-- from place i on the readers of columns answer these, one after the other
abbrev pub ColumnsStand : List ℕ → ℕ → List Cell → Type 0
ColumnsStand s i cs = (j : ℕ) × InTurn (column_at s) i cs j

-- the answer to the data of each row: its numbers, and places at which its names, columns, descriptions and identifiers are read
pub record AnswerLaws : Type 0 where
  pub of_relation : (s : List ℕ) → are_bytes s ≡ true → (id : ℕ) (space v : List ℕ) (identity : ℕ) (ds : List Described)
      → row_said s ≡ row (relation id space v identity ds)
      → (a : ℕ) × (b : ℕ) × (i : ℕ)
      × (answer_of (row_said s) ≡ head (relation_head id (a, length space) (b, length v) identity (length ds) i))
      × (at s a (length space) ≡ space) × (at s b (length v) ≡ v) × (j : ℕ) × InTurn (description_at s) i ds j
  pub of_type : (s : List ℕ) → are_bytes s ≡ true → (id : ℕ) (space v : List ℕ) → row_said s ≡ row (type id space v)
      → (a : ℕ) × (b : ℕ) × (answer_of (row_said s) ≡ head (type_head id (a, length space) (b, length v)))
      × (at s a (length space) ≡ space) × (at s b (length v) ≡ v)
  pub of_origin : (s : List ℕ) → are_bytes s ≡ true → (position : ℕ) (v : List ℕ) → row_said s ≡ row (origin position v)
      → (a : ℕ) × (answer_of (row_said s) ≡ head (origin_head position (a, length v))) × (at s a (length v) ≡ v)
  pub of_insert : (s : List ℕ) → are_bytes s ≡ true → (id : ℕ) (new : List Cell) → row_said s ≡ row (insert id new)
      → (i : ℕ) × (answer_of (row_said s) ≡ head (insert_head id (length new, i))) × ColumnsStand s i new
  pub of_update : (s : List ℕ) → are_bytes s ≡ true → (id : ℕ) (new : List Cell) → row_said s ≡ row (update id new)
      → (i : ℕ) × (answer_of (row_said s) ≡ head (update_head id (length new, i))) × ColumnsStand s i new
  pub of_update_from : (s : List ℕ) → are_bytes s ≡ true → (id : ℕ) (which : Which) (old new : List Cell)
      → row_said s ≡ row (update_from id which old new)
      → (i : ℕ) × (j : ℕ) × (answer_of (row_said s) ≡ head (update_from_head id which (length old, i) (length new, j)))
      × ColumnsStand s i old × ColumnsStand s j new
  pub of_delete : (s : List ℕ) → are_bytes s ≡ true → (id : ℕ) (which : Which) (old : List Cell) → row_said s ≡ row (delete id which old)
      → (i : ℕ) × (answer_of (row_said s) ≡ head (delete_head id which (length old, i))) × ColumnsStand s i old
  pub of_truncate : (s : List ℕ) → are_bytes s ≡ true → (options : ℕ) (ids : List ℕ) → row_said s ≡ row (truncate options ids)
      → (i : ℕ) × (answer_of (row_said s) ≡ head (truncate_head (length ids) options i)) × (j : ℕ) × InTurn (identifier_at s) i ids j
  pub of_none : (s : List ℕ) → IsBoundary s → answer_of (row_said s) ≡ none
  pub of_refused : (s : List ℕ) (n : ℕ) → row_said s ≡ refused_by n → answer_of (row_said s) ≡ refusal n

-- ---- columns and descriptions

-- what is told of the one at a place has the part of the data with its value or name
pub record ToldLaws : Type 0 where
  pub of_null : (s : List ℕ) (i j : ℕ) → column_at s i ≡ got null j → mapped (cell_at i) (column_at s i) ≡ got told_null j
  pub of_unchanged : (s : List ℕ) (i j : ℕ) → column_at s i ≡ got unchanged j → mapped (cell_at i) (column_at s i) ≡ got told_unchanged j
  pub of_text : (s : List ℕ) → are_bytes s ≡ true → (i : ℕ) (v : List ℕ) (j : ℕ) → column_at s i ≡ got (text v) j
      → (a : ℕ) × (mapped (cell_at i) (column_at s i) ≡ got (told_text (a, length v)) j) × (at s a (length v) ≡ v)
  pub of_binary : (s : List ℕ) → are_bytes s ≡ true → (i : ℕ) (v : List ℕ) (j : ℕ) → column_at s i ≡ got (binary v) j
      → (a : ℕ) × (mapped (cell_at i) (column_at s i) ≡ got (told_binary (a, length v)) j) × (at s a (length v) ≡ v)
  pub of_refused : (s : List ℕ) (i n : ℕ) → column_at s i ≡ refused n → mapped (cell_at i) (column_at s i) ≡ refused n
  pub of_description : (s : List ℕ) → are_bytes s ≡ true → (i flags : ℕ) (v : List ℕ) (oid : ℕ) (modifier : ℤ) (j : ℕ)
      → description_at s i ≡ got (described flags v oid modifier) j
      → (a : ℕ) × (mapped (described_at i) (description_at s i) ≡ got (told_description flags (a, length v) oid modifier) j) × (at s a (length v) ≡ v)
  pub of_refused_description : (s : List ℕ) (i n : ℕ) → description_at s i ≡ refused n → mapped (described_at i) (description_at s i) ≡ refused n

-- ---- the values of the code

-- each variant stands for the answer of its name, field by field
pub record VariantLaws : Type 0 where
  pub relation_is : (id : ℕ) (space v : Part) (identity columns from : ℕ) → answer_by (Ok (Some (RowAnswer.Relation id space v identity columns from)))
      ≡ head (relation_head id (space.from, space.len) (v.from, v.len) identity columns from)
  pub type_is : (id : ℕ) (space v : Part) → answer_by (Ok (Some (RowAnswer.Type id space v))) ≡ head (type_head id (space.from, space.len) (v.from, v.len))
  pub origin_is : (position : ℕ) (v : Part) → answer_by (Ok (Some (RowAnswer.Origin position v))) ≡ head (origin_head position (v.from, v.len))
  pub insert_is : (id : ℕ) (new : Tuple) → answer_by (Ok (Some (RowAnswer.Insert id new))) ≡ head (insert_head id (new.columns, new.from))
  pub update_is : (id : ℕ) (new : Tuple) → answer_by (Ok (Some (RowAnswer.Update id new))) ≡ head (update_head id (new.columns, new.from))
  pub update_from_is : (id : ℕ) (which : Which) (old new : Tuple) → answer_by (Ok (Some (RowAnswer.UpdateFrom id which old new)))
      ≡ head (update_from_head id which (old.columns, old.from) (new.columns, new.from))
  pub delete_is : (id : ℕ) (which : Which) (old : Tuple) → answer_by (Ok (Some (RowAnswer.Delete id which old)))
      ≡ head (delete_head id which (old.columns, old.from))
  pub truncate_is : (relations options from : ℕ) → answer_by (Ok (Some (RowAnswer.Truncate relations options from))) ≡ head (truncate_head relations options from)
  pub none_is : answer_by (Ok None) ≡ none
  pub refused_cut : answer_by (Err FieldCut) ≡ refusal 26
  pub refused_letter : answer_by (Err UnknownLetter) ≡ refusal 27
  pub null_is : (next : ℕ) → column_by (Ok (Column.Null, next)) ≡ got told_null next
  pub unchanged_is : (next : ℕ) → column_by (Ok (Column.Unchanged, next)) ≡ got told_unchanged next
  pub text_is : (part : Part) (next : ℕ) → column_by (Ok (Column.Text part, next)) ≡ got (told_text (part.from, part.len)) next
  pub binary_is : (part : Part) (next : ℕ) → column_by (Ok (Column.Binary part, next)) ≡ got (told_binary (part.from, part.len)) next
  pub column_cut : column_by (Err FieldCut) ≡ refused 26
  pub column_letter : column_by (Err UnknownLetter) ≡ refused 27
  pub description_is : (flags : ℕ) (part : Part) (oid : ℕ) (modifier : ℤ) (next : ℕ)
      → description_by (Ok (record { flags = flags; name = part; oid = oid; modifier = modifier }, next))
      ≡ got (told_description flags (part.from, part.len) oid modifier) next
  pub description_cut : description_by (Err FieldCut) ≡ refused 26
  pub description_letter : description_by (Err UnknownLetter) ≡ refused 27
  pub identifier_is : (id next : ℕ) → identifier_by (Ok (id, next)) ≡ got id next
  pub identifier_cut : identifier_by (Err FieldCut) ≡ refused 26
  pub identifier_letter : identifier_by (Err UnknownLetter) ≡ refused 27
  -- the numbers of SCOPE 7.1, and Protocol, kind 3 of SCOPE 7.4
  pub cut_number : number_of FieldCut ≡ 26
  pub letter_number : number_of UnknownLetter ≡ 27
  pub kind : (r : Refusal) → kind_of r ≡ 3

-- Which files a transaction touched, call by call: one bit for each of four files, cleared by Begin, set by every row and Truncate whose relation
-- has the file in a list. 02, wish 10; SCOPE 18.
use Rattle.std.specs.Prelude.{Bool, true, false, List, [], ◌∷◌, ℕ, take, eqb, Result, Ok, Err}
use Rattle.std.proofs.Math.Option.{Option, some, none}
use Rattle.wire.specs.Bytes.{pick}
use Rattle.progress.specs.declared.files.FileRefusal.{FileRefusal}
use Rattle.progress.specs.Files.{file_number, no_file}
use Rattle.rows.specs.Rows.{Row, relation, type, origin, insert, update, update_from, delete, truncate, Said, row, no_row, refused_by, row_said}
use Rattle.touched.specs.declared.Files.{Files}
use Rattle.touched.specs.declared.Tells.{Tells}

-- ---- the list

-- identifiers and files, which are lent apart: the shorter length holds
unfoldable pub paired : List ℕ → List ℕ → List (ℕ × ℕ)
paired [] fs = []
paired (id ∷ ids) [] = []
paired (id ∷ ids) (f ∷ fs) = (id, f) ∷ paired ids fs

-- the entries that are read: none past the sixty-fourth
abbrev pub entries_of : List ℕ → List ℕ → List (ℕ × ℕ)
entries_of ids fs = take 64 (paired ids fs)

-- whether one of them has a file above 3
unfoldable pub has_no_file : List (ℕ × ℕ) → Bool
has_no_file [] = false
has_no_file (e ∷ es) = pick (no_file e.1) true (has_no_file es)

-- the file of an identifier: of a repeated one the first entry holds
unfoldable pub file_of : List (ℕ × ℕ) → ℕ → Option ℕ
file_of [] id = none
file_of (e ∷ es) id = pick (eqb e.0 id) (some e.1) (file_of es id)

-- ---- what a row touches

-- the relations whose rows a message changes
abbrev pub changed_in : Row → List ℕ
changed_in (relation id space name identity columns) = []
changed_in (type id space name) = []
changed_in (origin position name) = []
changed_in (insert id new) = id ∷ []
changed_in (update id new) = id ∷ []
changed_in (update_from id which old new) = id ∷ []
changed_in (delete id which old) = id ∷ []
changed_in (truncate options ids) = ids

-- those of data: data that are no row, and a row that is refused, change none
abbrev pub changed_by : Said → List ℕ
changed_by (row r) = changed_in r
changed_by no_row = []
changed_by (refused_by n) = []

-- whether a file, where there is one, is file f
abbrev pub is_file : ℕ → Option ℕ → Bool
is_file f none = false
is_file f (some g) = eqb g f

-- whether one of the relations has file f
unfoldable pub is_among : List (ℕ × ℕ) → ℕ → List ℕ → Bool
is_among es f [] = false
is_among es f (id ∷ ids) = pick (is_file f (file_of es id)) true (is_among es f ids)

-- ---- the bits

-- for each file whether it was touched
abbrev pub files : Bool → Bool → Bool → Bool → Files
files a b c d = record { zero = a; one = b; two = c; three = d }

-- at first, and after a Begin
abbrev pub clear : Files
clear = files false false false false

-- all four are touched
abbrev pub is_full : Files → Bool
is_full b = pick b.zero (pick b.one (pick b.two b.three false) false) false

-- the files touched before, and those that one of the relations has
abbrev pub with_all : List (ℕ × ℕ) → List ℕ → Files → Files
with_all es ids b =
    files (pick b.zero true (is_among es 0 ids)) (pick b.one true (is_among es 1 ids))
    (pick b.two true (is_among es 2 ids)) (pick b.three true (is_among es 3 ids))

-- ---- one call

-- what an event tells of files: that a transaction begins; data, which may be a row; or nothing
pub data Told : Type 0 where
  begins : Told
  brings : List ℕ → Told
  nothing : Told

-- what the code's own name for it tells, with the data
abbrev pub tells_by : Tells → List ℕ → Told
tells_by Tells.Begin s = begins
tells_by Tells.Data s = brings s
tells_by Tells.Nothing s = nothing

-- the files after what an event tells
abbrev pub files_after : List (ℕ × ℕ) → Told → Files → Files
files_after es begins b = clear
files_after es (brings s) b = with_all es (changed_by (row_said s)) b
files_after es nothing b = b

-- the refusal's number, 0 for none, and the files after the call: 31 leaves them as they were, whatever the event is
unfoldable pub after_of : List (ℕ × ℕ) → Told → Files → ℕ × Files
after_of es t b = pick (has_no_file es) (31, b) (0, files_after es t b)

-- what an answer of the code says, of the files as they were before
abbrev pub answer_by : Files → Result Files FileRefusal → ℕ × Files
answer_by b (Ok c) = (0, c)
answer_by b (Err r) = (file_number r, b)

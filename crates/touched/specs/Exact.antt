-- Which files a call leaves touched, said by the two lists that are lent, the bytes of the data and what is told alone: no definition of the walk, of
-- the entries or of the reader of rows is used. 02, wish 10; SCOPE 18.
use Rattle.std.specs.Prelude.{◌≡◌, true, false, List, [], ◌∷◌, ◌++◌, ◌⊎◌, ℕ, zero, suc, ◌/◌, ◌%◌, ◌<◌, ◌≤◌, length, get_or, Ok, Err}
use Rattle.std.proofs.Math.Pow.{are_bytes}
use Rattle.rows.specs.Rows.{Row, relation, type, origin, insert, update, update_from, delete, truncate, row_bytes}
use Rattle.rows.specs.RowLayout.{RowFits}
use Rattle.touched.specs.declared.Files.{Files}
use Rattle.progress.specs.declared.files.FileRefusal.{FileRefusal}
use Rattle.touched.specs.declared.Tells.{Tells}
use Rattle.touched.specs.Bits.{files_by}
use Rattle.touched.specs.Touched.{entries_of, files, clear, is_full, tells_by, Told, begins, brings, nothing, after_of, answer_by}
use Rattle.touched.specs.Walk.{Among, left_by}

-- ---- files

-- file f is touched; there is none above 3
abbrev pub Has : Files → ℕ → Type 0
Has b zero = b.zero ≡ true
Has b (suc zero) = b.one ≡ true
Has b (suc (suc zero)) = b.two ≡ true
Has b (suc (suc (suc zero))) = b.three ≡ true
Has b (suc (suc (suc (suc f)))) = ⊥

-- no file
abbrev pub none_touched : Files
none_touched = files false false false false

-- ---- the lists

-- a place of both lists, of which the first 64 are read
pub record Listed (ids fs : List ℕ) (i : ℕ) : Type 0 where
  pub read : i < 64
  pub in_ids : i < length ids
  pub in_files : i < length fs

-- every file that is read is one of the four
abbrev pub AllFiles : List ℕ → List ℕ → Type 0
AllFiles ids fs = (i : ℕ) → Listed ids fs i → get_or fs i 0 ≤ 3

-- the first place of an identifier has file f
pub record FirstFile (ids fs : List ℕ) (id f : ℕ) : Type 0 where
  pub place : ℕ
  pub listed : Listed ids fs place
  pub its_id : get_or ids place 0 ≡ id
  pub its_file : get_or fs place 0 ≡ f
  pub first : (i : ℕ) → i < place → get_or ids i 0 ≡ id → ⊥

-- ---- rows

-- the relations whose rows a message changes: that of an Insert, Update or Delete, and each one of a Truncate
abbrev pub Names : Row → ℕ → Type 0
Names (relation id space v identity ds) j = ⊥
Names (type id space v) j = ⊥
Names (origin position v) j = ⊥
Names (insert id new) j = id ≡ j
Names (update id new) j = id ≡ j
Names (update_from id which old new) j = id ≡ j
Names (delete id which old) j = id ≡ j
Names (truncate options ids) j = Among j ids

-- data are the bytes of a row and a surplus, and the row names a relation whose file is f
pub record Reaches (ids fs : List ℕ) (s : List ℕ) (f : ℕ) : Type 0 where
  pub sent : Row
  pub fits : RowFits sent
  pub surplus : List ℕ
  pub whole : s ≡ row_bytes sent ++ surplus
  pub id : ℕ
  pub named : Names sent id
  pub filed : FirstFile ids fs id f

-- ---- one call

-- the files after data: those before, and those that the data reach, and no others
pub record AfterData (ids fs : List ℕ) (s : List ℕ) (b : Files) : Type 0 where
  pub answered : (after_of (entries_of ids fs) (brings s) b).0 ≡ 0
  pub kept : (f : ℕ) → Has b f → Has (after_of (entries_of ids fs) (brings s) b).1 f
  pub reached : (f : ℕ) → Reaches ids fs s f → Has (after_of (entries_of ids fs) (brings s) b).1 f
  pub no_other : (f : ℕ) → Has (after_of (entries_of ids fs) (brings s) b).1 f → Has b f ⊎ Reaches ids fs s f

-- what each call does, with any lists
pub record CallLaws : Type 0 where
  -- a file above 3 is refused with 31, whatever is told, and the files stay as they were
  pub refused : (ids fs : List ℕ) (i : ℕ) → Listed ids fs i → 3 < get_or fs i 0 → (t : Told) (b : Files) → after_of (entries_of ids fs) t b ≡ (31, b)
  -- a Begin clears
  pub begin : (ids fs : List ℕ) → AllFiles ids fs → (b : Files) → after_of (entries_of ids fs) begins b ≡ (0, none_touched)
  pub with_data : (ids fs : List ℕ) → AllFiles ids fs → (s : List ℕ) → are_bytes s ≡ true → (b : Files) → AfterData ids fs s b
  -- what tells nothing leaves the files
  pub leaves : (ids fs : List ℕ) → AllFiles ids fs → (b : Files) → after_of (entries_of ids fs) nothing b ≡ (0, b)

-- ---- any list of calls

-- a transaction begins
abbrev pub IsBegin : Told → Type 0
IsBegin begins = Unit
IsBegin (brings s) = ⊥
IsBegin nothing = ⊥

-- none of the calls tells so
abbrev pub NoBegin : List Told → Type 0
NoBegin [] = Unit
NoBegin (t ∷ ts) = (IsBegin t → ⊥) × NoBegin ts

-- data are bytes
abbrev pub HasBytes : Told → Type 0
HasBytes begins = Unit
HasBytes (brings s) = are_bytes s ≡ true
HasBytes nothing = Unit

abbrev pub AllBytes : List Told → Type 0
AllBytes [] = Unit
AllBytes (t ∷ ts) = HasBytes t × AllBytes ts

-- one of the calls brings data that reach file f, and no transaction begins after it
pub record TouchedSince (ids fs : List ℕ) (f : ℕ) (ts : List Told) : Type 0 where
  pub earlier : List Told
  pub brought : List ℕ
  pub later : List Told
  pub there : ts ≡ earlier ++ (brings brought ∷ later)
  pub since : NoBegin later
  pub reaches : Reaches ids fs brought f

-- the files that calls leave, from none touched: those that were touched since the last Begin, and no others
pub record TouchedLaws : Type 0 where
  pub touched : (ids fs : List ℕ) → AllFiles ids fs → (ts : List Told) (f : ℕ) → TouchedSince ids fs f ts
      → Has (left_by (entries_of ids fs) none_touched ts) f
  pub no_other : (ids fs : List ℕ) → AllFiles ids fs → (ts : List Told) → AllBytes ts → (f : ℕ)
      → Has (left_by (entries_of ids fs) none_touched ts) f → TouchedSince ids fs f ts

-- ---- the values of the code

-- bit f of the number stands for file f; all four are touched where each is; what an answer and the code's names for what is told stand for
pub record FileLaws : Type 0 where
  pub bit_zero : (n : ℕ) → (Has (files_by n) 0 → n % 2 ≡ 1) × (n % 2 ≡ 1 → Has (files_by n) 0)
  pub bit_one : (n : ℕ) → (Has (files_by n) 1 → n / 2 % 2 ≡ 1) × (n / 2 % 2 ≡ 1 → Has (files_by n) 1)
  pub bit_two : (n : ℕ) → (Has (files_by n) 2 → n / 4 % 2 ≡ 1) × (n / 4 % 2 ≡ 1 → Has (files_by n) 2)
  pub bit_three : (n : ℕ) → (Has (files_by n) 3 → n / 8 % 2 ≡ 1) × (n / 8 % 2 ≡ 1 → Has (files_by n) 3)
  pub full : (b : Files) → is_full b ≡ true → (f : ℕ) → f ≤ 3 → Has b f
  pub not_full : (b : Files) → ((f : ℕ) → f ≤ 3 → Has b f) → is_full b ≡ true
  pub none_at_first : clear ≡ none_touched
  pub left : (b c : Files) → answer_by b (Ok c) ≡ (0, c)
  pub refused : (b : Files) (r : FileRefusal) → answer_by b (Err r) ≡ (31, b)
  pub begin_told : (s : List ℕ) → tells_by Tells.Begin s ≡ begins
  pub data_told : (s : List ℕ) → tells_by Tells.Data s ≡ brings s
  pub nothing_told : (s : List ℕ) → tells_by Tells.Nothing s ≡ nothing

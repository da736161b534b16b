-- The files that a transaction touched, by a full walk over what its events tell, which knows nothing of bits and short cuts; and what the calls over
-- any list of that leave. 02, wish 10; SCOPE 18.
use Rattle.std.specs.Prelude.{◌≡◌, Bool, true, false, List, [], ◌∷◌, ◌++◌, ◌⊎◌, ℕ}
use Rattle.std.proofs.Math.Option.{none}
use Rattle.wire.specs.Bytes.{pick}
use Rattle.rows.specs.Rows.{row_said}
use Rattle.touched.specs.declared.Files.{Files}
use Rattle.touched.specs.Touched.{has_no_file, file_of, changed_by, is_among, files, clear, is_full, Told, begins, brings, nothing, after_of}

-- ---- the full walk

-- a transaction begins
abbrev pub is_begin : Told → Bool
is_begin begins = true
is_begin (brings s) = false
is_begin nothing = false

-- one of them does
unfoldable pub has_begin : List Told → Bool
has_begin [] = false
has_begin (t ∷ ts) = pick (is_begin t) true (has_begin ts)

-- what was told since the last Begin, or since the first call where there was none
unfoldable pub since_begin : List Told → List Told
since_begin [] = []
since_begin (t ∷ ts) = pick (has_begin ts) (since_begin ts) (pick (is_begin t) ts (t ∷ ts))

-- the relations that it changes, if it is a row
abbrev pub changed_of : Told → List ℕ
changed_of begins = []
changed_of (brings s) = changed_by (row_said s)
changed_of nothing = []

-- all the relations that rows and Truncates change, one after the other
unfoldable pub all_changed : List Told → List ℕ
all_changed [] = []
all_changed (t ∷ ts) = changed_of t ++ all_changed ts

-- the files that one of the relations has which rows and Truncates change since the last Begin
abbrev pub walk_of : List (ℕ × ℕ) → List Told → Files
walk_of es ts =
    let ids : List ℕ = all_changed (since_begin ts) in
    files (is_among es 0 ids) (is_among es 1 ids) (is_among es 2 ids) (is_among es 3 ids)

-- ---- calls, one after the other

-- the files after what was told, each call with the same list and the files as the last one left them
unfoldable pub left_by : List (ℕ × ℕ) → Files → List Told → Files
left_by es b [] = b
left_by es b (t ∷ ts) = left_by es (after_of es t b).1 ts

-- ---- the theorems

-- with the same unrefused list, from clear files, whatever is told: they are what a full walk finds
abbrev pub LeftIsTheWalk : Type 0
LeftIsTheWalk = (es : List (ℕ × ℕ)) (ts : List Told) → has_no_file es ≡ false → left_by es clear ts ≡ walk_of es ts

-- once all four are touched, what is told before the next Begin need not be looked at
abbrev pub FullStaysFull : Type 0
FullStaysFull =
    (es : List (ℕ × ℕ)) (t : Told) (b : Files) → is_full b ≡ true → is_begin t ≡ false → (after_of es t b).1 ≡ b

-- a list with a file above 3 is refused at every call, and leaves the files as they were
abbrev pub RefusedChangesNothing : Type 0
RefusedChangesNothing = (es : List (ℕ × ℕ)) (t : Told) (b : Files) → has_no_file es ≡ true → after_of es t b ≡ (31, b)

-- ---- what the walk finds, said without a walk

-- an identifier stands in a list
abbrev pub Among : ℕ → List ℕ → Type 0
Among id [] = ⊥
Among id (x ∷ xs) = (x ≡ id) ⊎ Among id xs

-- the first entry of an identifier has file f
pub record FirstEntry (es : List (ℕ × ℕ)) (id f : ℕ) : Type 0 where
  pub front : List (ℕ × ℕ)
  pub back : List (ℕ × ℕ)
  pub there : es ≡ front ++ ((id, f) ∷ back)
  pub first : file_of front id ≡ none

-- data after the last Begin are a row that changes a relation whose first entry has file f
pub record Touches (es : List (ℕ × ℕ)) (f : ℕ) (ts : List Told) : Type 0 where
  pub earlier : List Told
  pub row_data : List ℕ
  pub later : List Told
  pub there : ts ≡ earlier ++ (brings row_data ∷ later)
  pub since : has_begin later ≡ false
  pub id : ℕ
  pub changed : Among id (changed_by (row_said row_data))
  pub filed : FirstEntry es id f

-- both ways
pub record WalkLaws : Type 0 where
  pub found : (es : List (ℕ × ℕ)) (f : ℕ) (ts : List Told) → is_among es f (all_changed (since_begin ts)) ≡ true → Touches es f ts
  pub finds : (es : List (ℕ × ℕ)) (f : ℕ) (ts : List Told) → Touches es f ts → is_among es f (all_changed (since_begin ts)) ≡ true

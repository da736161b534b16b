-- The fifteen fields of an error by the layout of the payload: of every list of letters and values that is sent, the last value of each known
-- letter. SCOPE 2.4; 01, "Texts and positions". The letters are those of the PostgreSQL documentation, "Error and Notice Message Fields".
use Rattle.std.specs.Prelude.{◌≡◌, refl, List, [], ◌∷◌, ◌++◌, map, ℕ, ◌+◌, ◌≤◌, length, get_or, eqb, Option as Answer}
use Rattle.std.proofs.Math.Option.{Option, some, none}
use Prim.Native.Char.{code}
use Rattle.wire.specs.Bytes.{pick}
use Rattle.wire.specs.Find.{index_of}
use Rattle.text.specs.Ascii.{ascii}
use Rattle.utf8.specs.WellFormed.{table, row_of, matched}
use Rattle.lossy.specs.Lossy.{lossy_of, parts_of}
use Rattle.lossy.specs.Marks.{seen, marks_all, marks_of}
use Rattle.messages.specs.declared.Field.{Field}
use Rattle.messages.specs.Fields.{fields_of, entries_of, entries_from, last_of, absent, is_given, part_of, named}
use Rattle.messages.specs.FieldLayout.{encode, Sendable, Laid}
use Rattle.messages.specs.ErrorText.{error_text, error_marks}

-- Severity, Code, Message, Detail, Hint, Position, Where, Schema name, Table name, Column name, Data type name, Constraint name, File, Line,
-- Routine
abbrev pub fifteen : List ℕ
fifteen =
    code "S" ∷ code "C" ∷ code "M" ∷ code "D" ∷ code "H" ∷ code "P" ∷ code "W" ∷ code "s" ∷ code "t" ∷ code "c" ∷ code "d" ∷ code "n" ∷ code "F"
    ∷ code "L" ∷ code "R" ∷ []

-- the first that is there
abbrev pub either : {A : Type 0} → Option A → Option A → Option A
either (some a) b = some a
either none b = b

-- the last value of a letter, where it has one
unfoldable pub last_value : ℕ → List (ℕ × List ℕ) → Option (List ℕ)
last_value letter [] = none
last_value letter (f ∷ fs) = either (last_value letter fs) (pick (eqb f.0 letter) (some f.1) none)

-- the value of a field in the payload, where it is given
abbrev pub value_given : List ℕ → Answer Field → Option (List ℕ)
value_given payload f = pick (is_given f) (some (named payload f)) none

-- a payload that is laid out as letters and values gives the last value of each letter
abbrev pub FieldsAreLaid : Type 0
FieldsAreLaid = (payload : List ℕ) (fs : List (ℕ × List ℕ)) → Laid payload fs
    → map (value_given payload) (fields_of payload) ≡ map (λ letter. last_value letter fs) fifteen

-- every list of fields that is sent, ended by a zero byte, gives the last value of each letter, whatever follows
abbrev pub FieldsAreSent : Type 0
FieldsAreSent = (fs : List (ℕ × List ℕ)) (surplus : List ℕ) → Sendable fs
    → let payload : List ℕ = encode fs ++ (0 ∷ surplus) in map (value_given payload) (fields_of payload) ≡ map (λ letter. last_value letter fs) fifteen

-- the part that a field names lies in the payload
abbrev pub FieldIsWithin : Type 0
FieldIsWithin = (payload : List ℕ) (i : ℕ) → let p = part_of (get_or (fields_of payload) i absent) in p.0 + p.1 ≤ length payload

-- ---- the text

-- the text of a message and a code, where they are given
abbrev pub text_of : Option (List ℕ) → Option (List ℕ) → List ℕ
text_of (some m) (some c) = lossy_of m ++ (ascii " (SQLSTATE " ++ (lossy_of c ++ ascii ")"))
text_of (some m) none = lossy_of m
text_of none (some c) = ascii "error (SQLSTATE " ++ (lossy_of c ++ ascii ")")
text_of none none = ascii "unknown server error"

-- the error text of a payload goes by the last value of `M` and the last of `C`
abbrev pub TextIsLaid : Type 0
TextIsLaid = (payload : List ℕ) (fs : List (ℕ × List ℕ)) → Laid payload fs
    → error_text (fields_of payload) payload ≡ text_of (last_value (code "M") fs) (last_value (code "C") fs)

-- ---- its marks

-- the marks of a value, where it is given
abbrev pub value_marks : Option (List ℕ) → ℕ
value_marks (some s) = marks_of s
value_marks none = 0

-- the marks of an error text are those of the last value of `M` and of the last of `C`; no other field counts, nor an earlier value
abbrev pub MarksAreLaid : Type 0
MarksAreLaid = (payload : List ℕ) (fs : List (ℕ × List ℕ)) → Laid payload fs
    → error_marks (fields_of payload) payload ≡ value_marks (last_value (code "M") fs) + value_marks (last_value (code "C") fs)

-- in how many places of a value U+FFFD stands, where it is given
abbrev pub value_seen : Option (List ℕ) → ℕ
value_seen (some s) = seen s
value_seen none = 0

-- the error text shows U+FFFD where the values that it shows have it, and in as many places more as are counted
abbrev pub TextShowsMarks : Type 0
TextShowsMarks =
    (payload : List ℕ) (fs : List (ℕ × List ℕ)) → Laid payload fs → let m = last_value (code "M") fs in let c = last_value (code "C") fs in
    seen (error_text (fields_of payload) payload) ≡ value_seen m + value_seen c + error_marks (fields_of payload) payload

-- the marks of a payload's error text
abbrev pub marks_shown : List ℕ → ℕ
marks_shown payload = error_marks (fields_of payload) payload

pub record Cases : Type 0 where
  -- M FF FF, C FF, and D FF, which is not shown
  pub message_and_code : marks_shown (77 ∷ 0xFF ∷ 0xFF ∷ 0 ∷ 67 ∷ 0xFF ∷ 0 ∷ 68 ∷ 0xFF ∷ 0 ∷ 0 ∷ []) ≡ 3
  -- M FF FF, and M `a`, which is the last
  pub last_message : marks_shown (77 ∷ 0xFF ∷ 0xFF ∷ 0 ∷ 77 ∷ 97 ∷ 0 ∷ []) ≡ 0
  -- D FF alone: `unknown server error`
  pub detail_alone : marks_shown (68 ∷ 0xFF ∷ 0 ∷ []) ≡ 0
  -- M EF BF BD
  pub its_own_mark : marks_shown (77 ∷ 0xEF ∷ 0xBF ∷ 0xBD ∷ 0 ∷ 0 ∷ []) ≡ 0
  pub no_field : marks_shown [] ≡ 0

-- each by computing the definitions
pub cases : Cases
unfolding error_marks fields_of last_of entries_of entries_from index_of marks_of marks_all parts_of row_of table matched
cases = record { message_and_code = refl; last_message = refl; detail_alone = refl; its_own_mark = refl; no_field = refl }

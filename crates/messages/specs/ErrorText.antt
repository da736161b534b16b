-- The text of a server error, the Rust's `to_error_string`: `{M} (SQLSTATE {C})`, `{M}`, `error (SQLSTATE {C})` or `unknown server error`, by
-- which of the message and the code are given, each a lossy text. SCOPE 2.5; 01, "Texts and positions".
use Rattle.std.specs.Prelude.{Bool, true, false, List, [], ◌∷◌, ◌++◌, ℕ, ◌+◌, get_or, Option as Answer}
use Rattle.wire.specs.Bytes.{pick}
use Rattle.lossy.specs.Lossy.{lossy_of}
use Rattle.lossy.specs.Marks.{marks_of}
use Rattle.messages.specs.declared.Field.{Field}
use Rattle.messages.specs.Fields.{absent, is_given, named}

-- " (SQLSTATE "
abbrev pub opened : List ℕ
opened = 32 ∷ 40 ∷ 83 ∷ 81 ∷ 76 ∷ 83 ∷ 84 ∷ 65 ∷ 84 ∷ 69 ∷ 32 ∷ []

-- ")"
abbrev pub closed : List ℕ
closed = 41 ∷ []

-- "error"
abbrev pub plain : List ℕ
plain = 101 ∷ 114 ∷ 114 ∷ 111 ∷ 114 ∷ []

-- "unknown server error"
abbrev pub unknown : List ℕ
unknown = 117 ∷ 110 ∷ 107 ∷ 110 ∷ 111 ∷ 119 ∷ 110 ∷ 32 ∷ 115 ∷ 101 ∷ 114 ∷ 118 ∷ 101 ∷ 114 ∷ 32 ∷ plain

-- a text with a code after it
unfoldable pub coded : List ℕ → List ℕ → List ℕ
coded text code = text ++ (opened ++ (code ++ closed))

-- by whether a message and a code are given
abbrev pub text_by : Bool → Bool → List ℕ → List ℕ → List ℕ
text_by true true m c = coded (lossy_of m) (lossy_of c)
text_by true false m c = lossy_of m
text_by false true m c = coded plain (lossy_of c)
text_by false false m c = unknown

-- the text of the fields of a payload: field 2 is the message (M), field 1 the code (C)
unfoldable pub error_text : List (Answer Field) → List ℕ → List ℕ
error_text fields payload =
    let m : Answer Field = get_or fields 2 absent in
    let c : Answer Field = get_or fields 1 absent in
    text_by (is_given m) (is_given c) (named payload m) (named payload c)

-- the marks of a text that is shown; a field that is not given shows none
abbrev pub field_marks : List ℕ → Answer Field → ℕ
field_marks payload f = pick (is_given f) (marks_of (named payload f)) 0

-- the marks of the text: those of the message and of the code, the only fields that it shows (02, wish 7)
unfoldable pub error_marks : List (Answer Field) → List ℕ → ℕ
error_marks fields payload = field_marks payload (get_or fields 2 absent) + field_marks payload (get_or fields 1 absent)

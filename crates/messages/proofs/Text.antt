-- The text of an error: its length, and the text and its marks by what is given.
use Rattle.std.specs.Prelude.{Option as Answer}
use mathlib.Core.Path.{◌≡◌, refl, ◌∙◌}
use mathlib.Core.List.{List}
use Prim.Native.Nat.{ℕ, ◌+◌, ◌≤◌}
use native.Mathlib.Omega.{arith}
use lib.ListN.{length, get_or, length-append}
use borrow.Author.Tests.{le-ltb}
use Rattle.wire.specs.Bytes.{pick}
use Rattle.error.specs.Writer.{input_limit, writing}
use Rattle.lossy.specs.Lossy.{lossy_of, parts_of, shown_all}
use Rattle.lossy.specs.Marks.{marks_all, marks_of, with_marks}
use Rattle.utf8.specs.WellFormed.{table, row_of, matched}
use Rattle.messages.specs.declared.Field.{Field}
use Rattle.messages.specs.Fields.{absent, is_given, named}
use Rattle.messages.specs.ErrorText.{plain, unknown, coded, text_by, error_text, error_marks}

pub length_coded : (a b : List ℕ) → length (coded a b) ≡ length a + 12 + length b
unfolding coded
length_coded a b = simp length-append (omega arith)

pub plain_lossy : lossy_of plain ≡ plain
unfolding lossy_of parts_of shown_all row_of table matched
plain_lossy = refl

pub unknown_lossy : lossy_of unknown ≡ unknown
unfolding lossy_of parts_of shown_all row_of table matched
unknown_lossy = refl

pub coded_same : {a b c d : List ℕ} → a ≡ c → b ≡ d → coded (lossy_of a) (lossy_of b) ≡ coded (lossy_of c) (lossy_of d)
coded_same e f = rw (e, f)

pub plain_marks : marks_of plain ≡ 0
unfolding marks_of parts_of marks_all row_of table matched
plain_marks = refl

pub unknown_marks : marks_of unknown ≡ 0
unfolding marks_of parts_of marks_all row_of table matched
unknown_marks = refl

pub marks_same : {a b c d : List ℕ} → a ≡ c → b ≡ d → marks_of a + marks_of b ≡ marks_of c + marks_of d
marks_same e f = rw (e, f)

-- a text that a writer wrote, its inputs within the limit, is the error's text, by what is given; so are its marks
pub answered : (fields : List (Answer Field)) (payload out : List ℕ) (m c : Answer Field) (n : ℕ) {x : (ℕ × ℕ × ℕ) × List ℕ} {text : List ℕ} {k : ℕ}
    → n ≤ input_limit → length payload ≤ input_limit → get_or fields 2 absent ≡ m → get_or fields 1 absent ≡ c
    → text ≡ text_by (is_given m) (is_given c) (named payload m) (named payload c)
    → k ≡ pick (is_given m) (marks_of (named payload m)) 0 + pick (is_given c) (marks_of (named payload c)) 0
    → x ≡ with_marks k (writing n text out) → x ≡ with_marks (error_marks fields payload) (writing (length payload) (error_text fields payload) out)
unfolding writing error_text error_marks
answered fields payload out m c n h k p q t u e = rw (p, q, ← t, ← u) (e ∙ simp (le-ltb _ _ h, le-ltb _ _ k))

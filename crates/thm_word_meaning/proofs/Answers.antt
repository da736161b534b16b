-- Each word means what specs/Answers.antt says.
use mathlib.Core.Path.{◌≡◌, refl, ap, ◌∙◌}
use mathlib.Core.List.{List, [], ◌∷◌}
use Prim.Native.Nat.{ℕ, ◌≤◌, min}
use native.Mathlib.Omega.{arith}
use borrow.Author.Tests.{le-ltb}
use Rattle.framing.specs.Read.{Result}
use Rattle.framing.specs.Read as F
use Rattle.framing.specs.declared.MessageReader.{MessageReader}
use Rattle.messages.specs.Fields.{fields_of, indexed, is_given}
use Rattle.query.specs.declared.simple.SimpleQuery.{SimpleQuery}
use Rattle.query.specs.Fold as Q
use Rattle.ffi_answers.specs.Fold.{fold_words, fold_left, query_words}
use Rattle.ffi_answers.specs.Parts.{auth_words}
use Rattle.ffi_answers.specs.Read.{read_words, read_leaves}
use Rattle.ffi_words.specs.Words.{reader_words}
use Rattle.thm_word_meaning.specs.Answers.{NextWords, ErrorWords, reader_left, ReadsTold, QueryWords, query_left, QueriesTold}
use Rattle.thm_word_meaning.specs.Answers.{DataRowWords, ColumnWords, AuthWords, FieldWords, FieldsNumbered}
use Rattle.thm_word_meaning.proofs.OneWord.{flag_is, time_is}

-- ---- of a run

pub next_words : NextWords
next_words = (refl, (λ m. refl), refl, refl)

at_most : (len n : ℕ) → len ≤ n → min len n ≡ len
at_most len n h = omega arith

at_least : (len n : ℕ) → n ≤ len → min len n ≡ n
at_least len n h = omega arith

pub error_words : ErrorWords
error_words n = (refl, (λ len h. rw (at_most len n h)), λ len h. rw (at_least len n h))

-- ---- messages

reader_left_lem : (r : MessageReader) → (reader_words r, r) ≡ reader_left r
reader_left_lem r = rw (flag_is r.refused)

read_left : (s : F.Said) (r : MessageReader) (taken : ℕ) (left : List ℕ) {x : Result} → x ≡ (s, r, taken, left)
    → read_leaves x ≡ (reader_left r, read_words s taken, left)
read_left s r taken left e = ap read_leaves e ∙ ap (λ (y : List ℕ × MessageReader). (y, read_words s taken, left)) (reader_left_lem r)

pub reads_told : ReadsTold
reads_told w limit unread ended payload =
    record {
      more = λ r taken left e. read_left F.more r taken left e;
      whole = λ tag n r taken left e. read_left (F.whole tag n) r taken left e;
      refused = λ number r taken left e. read_left (F.refused number) r taken left e;
    }

pub query_words_lem : QueryWords
query_words_lem = ((λ a b c d. refl), (λ a b c. rw (flag_is a)), refl)

query_left_lem : (q : SimpleQuery) → (query_words q, q) ≡ query_left q
query_left_lem q = rw (flag_is q.failed)

fold_left_lem : (s : Q.Said) (q : SimpleQuery) (left : List ℕ) {x : SimpleQuery × Q.Said × List ℕ} → x ≡ (q, s, left)
    → fold_left x ≡ (query_left q, fold_words s, left)
fold_left_lem s q left e = ap fold_left e ∙ ap (λ (y : List ℕ × SimpleQuery). (y, fold_words s, left)) (query_left_lem q)

pub queries_told : QueriesTold
queries_told w tag payload error =
    record {
      more = λ q left e. fold_left_lem Q.more q left e;
      row = λ n q left e. fold_left_lem (Q.data_row n) q left e;
      ready = λ q left e. fold_left_lem Q.ready q left e;
      failed = λ kept len q left e. fold_left_lem (Q.failed kept len) q left e;
      refused = λ number q left e. fold_left_lem (Q.refused number) q left e;
    }

-- ---- parts of a payload

pub data_row_words : DataRowWords
data_row_words = record { malformed = λ payload e. rw e; columns = λ payload cs e. rw e }

pub column_words : ColumnWords
column_words =
    record {
      malformed = λ payload i e. rw e;
      no_such = λ payload i cs e h. rw (e, h);
      null = λ payload i cs e h. rw (e, h);
      value = λ payload i place len cs e h. rw (e, h);
    }

pub auth_words_lem : AuthWords
auth_words_lem payload refusal asked place len e = ap auth_words e ∙ ap (λ (n : ℕ). refusal ∷ n ∷ place ∷ len ∷ []) (time_is asked)

pub field_words : FieldWords
field_words payload i = rw (flag_is (is_given (indexed (fields_of payload) i)))

pub fields_numbered : FieldsNumbered
unfolding fields_of
fields_numbered payload =
    record {
      severity = refl;
      sqlstate = refl;
      message = refl;
      detail = refl;
      hint = refl;
      position = refl;
      place = refl;
      schema = refl;
      table = refl;
      column = refl;
      data_type = refl;
      constraint = refl;
      file = refl;
      line = refl;
      routine = refl;
      beyond = λ i h. rw (le-ltb i 15 h);
    }

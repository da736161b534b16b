-- What an exported call over the words of a reader or of a query leaves, of what the calls in it answered.
use mathlib.Core.Path.{◌≡◌, ap, ◌∙◌}
use mathlib.Core.Bool.{Bool}
use Rattle.std.specs.Prelude.{Option as Answer}
use mathlib.Core.List.{List}
use Prim.Native.Nat.{ℕ}
use Rattle.framing.specs.declared.MessageReader.{MessageReader}
use Rattle.framing.specs.declared.ReadStep.{ReadStep}
use Rattle.framing.specs.Read.{said_by, read_of}
use Rattle.messages.specs.declared.Field.{Field}
use Rattle.messages.specs.Fields.{indexed}
use Rattle.query.specs.declared.simple.SimpleQuery.{SimpleQuery}
use Rattle.query.specs.declared.simple.Step.{Step}
use Rattle.query.specs.Fold.{answer_outcome, message_of}
use Rattle.ffi_words.specs.Words.{reader_of, reader_words}
use Rattle.ffi_answers.specs.Fold.{simple_query_of, query_words, fold_words, query_standing, fold_left}
use Rattle.ffi_answers.specs.Parts.{field_words}
use Rattle.ffi_answers.specs.Read.{read_words, reader_standing, read_leaves}

pub read : {r z : MessageReader} → r ≡ z → (setting : ℕ) (u : List ℕ) (e : Bool) (p : List ℕ) (x : ReadStep) {q ws a : List ℕ}
    → (said_by x.answer, x.reader, x.taken, q) ≡ read_of setting r u e p
    → (ws ≡ reader_words x.reader) × (reader_of ws ≡ x.reader)
    → a ≡ read_words (said_by x.answer) x.taken
    → (reader_standing ws, a, q) ≡ read_leaves (read_of setting z u e p)
read {r} {z} pr setting u e p x {q} h pw pa =
    let g : (said_by x.answer, x.reader, x.taken, q) ≡ read_of setting z u e p = h ∙ ap (λ (y : MessageReader). read_of setting y u e p) pr in
    rw (← g, pw.1, pw.0, pa)

pub folded : {r z : SimpleQuery} → r ≡ z → (tag : ℕ) (payload error : List ℕ) (x : Step) {q ws a : List ℕ}
    → (x.query, answer_outcome x.answer, q) ≡ message_of r tag payload error
    → (ws ≡ query_words x.query) × (simple_query_of ws ≡ x.query)
    → a ≡ fold_words (answer_outcome x.answer)
    → (query_standing ws, a, q) ≡ fold_left (message_of z tag payload error)
folded {r} {z} pr tag payload error x {q} h pw pa =
    let g : (x.query, answer_outcome x.answer, q) ≡ message_of z tag payload error =
    h ∙ ap (λ (y : SimpleQuery). message_of y tag payload error) pr in
    rw (← g, pw.1, pw.0, pa)

pub field_of : (i : ℕ) {f : Answer Field} {fs gs : List (Answer Field)} {ws : List ℕ} → fs ≡ gs → f ≡ indexed fs i → ws ≡ field_words f
    → ws ≡ field_words (indexed gs i)
field_of i e h pw = pw ∙ ap field_words (h ∙ ap (λ (l : List (Answer Field)). indexed l i) e)

-- What a relation cache answers, as words. SCOPE 9.10. The places have names in src/layout.rt.
use Rattle.std.specs.Prelude.{ℕ, List, [], ◌∷◌}
use Rattle.std.proofs.Math.Option.{Option, some, none}
use Rattle.wire.specs.Bytes.{flag_word}
use Rattle.rows.specs.Rows.{row_said}
use Rattle.rows.specs.Words.{row_reply}
use Rattle.relations.specs.Answers.{Told}
use Rattle.relations.specs.Memory.{count_held}
use Rattle.packed_relations.specs.Packed.{Packed, packed, words_of, emptied, message_of, column_told}

-- whether a relation is held, and how many columns it has, 0 where it is not
abbrev pub count_reply : Option ℕ → ℕ × ℕ
count_reply none = (0, 0)
count_reply (some n) = (1, n)

-- whether there is such a column; where its name stands and how long it is; whether it is of the key; its type
abbrev pub column_words : Option Told → List ℕ
column_words none = 0 ∷ 0 ∷ 0 ∷ 0 ∷ 0 ∷ []
column_words (some t) = 1 ∷ t.0.0 ∷ t.0.1 ∷ flag_word t.1 ∷ t.2 ∷ []

-- ---- calls: how many relations are held, their identifiers, their counts of columns, the columns' words and the names are the lent memory

-- `rufflesquash_cache_clear`: all that it is lent is zero; it is lent no names
abbrev pub clear_call : Packed
clear_call = emptied []

-- `rufflesquash_cache_message`, with data: the refusal's number, 0 for none, and the words of the row's head; and the memory after it
abbrev pub message_call : Packed → List ℕ → (ℕ × List ℕ) × Packed
message_call m s = (row_reply (message_of m (row_said s)).0, (message_of m (row_said s)).1)

-- `rufflesquash_cache_count`, with an identifier; it is lent no columns
abbrev pub count_call : ℕ → List ℕ → List ℕ → ℕ → ℕ × ℕ
count_call held ids counts id = count_reply (count_held held ids counts id)

-- `rufflesquash_cache_column`, with an identifier and a column's number
abbrev pub column_call : ℕ → List ℕ → List ℕ → List ℕ → List ℕ → ℕ → ℕ → List ℕ
column_call held ids counts words names id index = column_words (column_told (packed held ids counts (words_of words names)) id index)

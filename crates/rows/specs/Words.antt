-- What is answered about rows, as words. SCOPE 9.6. The places and values have names in src/layout.rt.
use Rattle.std.specs.Prelude.{ℕ, List, [], ◌∷◌}
use Rattle.wire.specs.Int.{value}
use Rattle.rows.specs.Layout.{Read, got, refused, mapped}
use Rattle.rows.specs.Rows.{which_letter, row_said}
use Rattle.rows.specs.Head.{Span, Head, relation_head, type_head, origin_head, insert_head, update_head, update_from_head, delete_head, truncate_head}
use Rattle.rows.specs.Head.{Answer, head, none, refusal, answer_of, ToldCell, told_null, told_unchanged, told_text, told_binary, cell_at, column_at}
use Rattle.rows.specs.Head.{ToldDescription, told_description, described_at, description_at, identifier_at}

-- ---- a head

-- kind; identifier; a byte; of the columns, descriptions or identifiers how many there are and where the first one stands; of the old tuple's columns
-- the same; where the namespace stands and how long it is; the name likewise
abbrev pub words_by : ℕ → ℕ → ℕ → Span → Span → Span → Span → List ℕ
words_by kind id byte items old space name =
    kind ∷ id ∷ byte ∷ items.0 ∷ items.1 ∷ old.0 ∷ old.1 ∷ space.0 ∷ space.1 ∷ name.0 ∷ name.1 ∷ []

-- relation 1, whose byte is the replica identity; type 2; origin 3, whose identifier is the position; insert 4; update 5 and delete 6, whose byte is
-- the letter before the old tuple, 0 where there is none; truncate 7, whose byte has the option bits
abbrev pub head_words : Head → List ℕ
head_words (relation_head id space name identity n i) = words_by 1 id identity (n, i) (0, 0) space name
head_words (type_head id space name) = words_by 2 id 0 (0, 0) (0, 0) space name
head_words (origin_head position name) = words_by 3 position 0 (0, 0) (0, 0) (0, 0) name
head_words (insert_head id new) = words_by 4 id 0 new (0, 0) (0, 0) (0, 0)
head_words (update_head id new) = words_by 5 id 0 new (0, 0) (0, 0) (0, 0)
head_words (update_from_head id which old new) = words_by 5 id (which_letter which) new old (0, 0) (0, 0)
head_words (delete_head id which old) = words_by 6 id (which_letter which) (0, 0) old (0, 0) (0, 0)
head_words (truncate_head n options i) = words_by 7 0 options (n, i) (0, 0) (0, 0) (0, 0)

-- no row and a refusal: 0 everywhere
abbrev pub no_words : List ℕ
no_words = 0 ∷ 0 ∷ 0 ∷ 0 ∷ 0 ∷ 0 ∷ 0 ∷ 0 ∷ 0 ∷ 0 ∷ 0 ∷ []

-- the refusal's number, 0 for none, and the words
abbrev pub row_reply : Answer → ℕ × List ℕ
row_reply (head h) = (0, head_words h)
row_reply none = (0, no_words)
row_reply (refusal n) = (n, no_words)

-- ---- a column of a tuple: the place of the next one, 0 where it is refused; the refusal's number, 0 for none, and the words

-- null 1, unchanged 2, text 3, binary 4; where the value stands and how long it is
abbrev pub column_words : ToldCell → List ℕ
column_words told_null = 0 ∷ 1 ∷ 0 ∷ 0 ∷ []
column_words told_unchanged = 0 ∷ 2 ∷ 0 ∷ 0 ∷ []
column_words (told_text part) = 0 ∷ 3 ∷ part.0 ∷ part.1 ∷ []
column_words (told_binary part) = 0 ∷ 4 ∷ part.0 ∷ part.1 ∷ []

abbrev pub column_reply : Read ToldCell → ℕ × List ℕ
column_reply (got c next) = (next, column_words c)
column_reply (refused n) = (0, n ∷ 0 ∷ 0 ∷ 0 ∷ [])

-- ---- a column of a relation

-- flags; where the name stands and how long it is; type; type modifier in two's complement
abbrev pub description_words : ToldDescription → List ℕ
description_words (told_description flags part oid modifier) = 0 ∷ flags ∷ part.0 ∷ part.1 ∷ oid ∷ value 8 modifier ∷ []

abbrev pub description_reply : Read ToldDescription → ℕ × List ℕ
description_reply (got d next) = (next, description_words d)
description_reply (refused n) = (0, n ∷ 0 ∷ 0 ∷ 0 ∷ 0 ∷ 0 ∷ [])

-- ---- a relation of a Truncate: its identifier

abbrev pub identifier_words : ℕ → List ℕ
identifier_words id = 0 ∷ id ∷ []

abbrev pub identifier_reply : Read ℕ → ℕ × List ℕ
identifier_reply (got id next) = (next, identifier_words id)
identifier_reply (refused n) = (0, n ∷ 0 ∷ [])

-- ---- calls

-- what a call answers to data, and to data and a place
abbrev pub row_call : List ℕ → ℕ × List ℕ
row_call s = row_reply (answer_of (row_said s))

abbrev pub column_call : List ℕ → ℕ → ℕ × List ℕ
column_call s i = column_reply (mapped (cell_at i) (column_at s i))

abbrev pub description_call : List ℕ → ℕ → ℕ × List ℕ
description_call s i = description_reply (mapped (described_at i) (description_at s i))

abbrev pub identifier_call : List ℕ → ℕ → ℕ × List ℕ
identifier_call s i = identifier_reply (identifier_at s i)

-- The lent memory of a relation cache that has each column in one word, what one call leaves of it, and what is looked up in it.
-- Document 02, wish 12. The names of the relations that are held lie without gaps, in the order of slots and columns, from the first byte on.
use Rattle.std.specs.Prelude.{Bool, false, List, [], ◌∷◌, ℕ, zero, suc, ◌+◌, ◌*◌, ◌-◌, min, max, length, get_or, set, replicate, leb}
use Rattle.std.proofs.Math.Option.{Option, some, none}
use Rattle.wire.specs.Bytes.{pick, at, put, placed}
use Rattle.rows.specs.Rows.{Described, described, Row, relation, type, origin, insert, update, update_from, delete, truncate, Said, row, no_row, refused_by}
use Rattle.rows.specs.Head.{Answer, answer_of, Span}
use Rattle.relations.specs.Cache.{is_key, first_of, answered, fits}
use Rattle.relations.specs.Memory.{Memory, memory, columns, slot_in, count_at, count_in, judged_by}
use Rattle.relations.specs.Answers.{Told}
use Rattle.column_word.specs.Word.{word_of, column_in}
use Rattle.column_word.specs.declared.Column.{Column}

-- the columns: a word of each, and the names
pub record Words : Type 0 where
  pub words : List ℕ
  pub names : List ℕ

-- how many relations are held, their identifiers, how many columns each has, and the columns
pub record Packed : Type 0 where
  pub held : ℕ
  pub ids : List ℕ
  pub counts : List ℕ
  pub columns : Words

abbrev pub words_of : List ℕ → List ℕ → Words
words_of w n = record { words = w; names = n }

abbrev pub packed : ℕ → List ℕ → List ℕ → Words → Packed
packed h i c s = record { held = h; ids = i; counts = c; columns = s }

-- nothing is held; the names are as they were
unfoldable pub emptied : List ℕ → Packed
emptied names = packed 0 (replicate {A = ℕ} 64 0) (replicate {A = ℕ} 64 0) (words_of (replicate {A = ℕ} 2048 0) names)

-- what this memory has as the former one: all but the columns. The slot of a relation, its count and the refusals are decided by it
abbrev pub common : Packed → Memory
common p = memory p.held p.ids p.counts (columns [] [] [] [])

-- ---- where names lie: the lengths before a name are summed up, whatever places the words have

-- no more bytes of the names are read or written
abbrev pub names_length : ℕ
names_length = 129024

-- so many bytes there are for names
abbrev pub room_in : List ℕ → ℕ
room_in names = min (length names) names_length

-- how long the name of a word is; a length above 63 counts as 63
abbrev pub len_of : ℕ → ℕ
len_of w = min (column_in w).name_len 63

-- the lengths of the names of n columns from column i on
unfoldable pub lens_from : List ℕ → ℕ → ℕ → ℕ
lens_from ws i zero = 0
lens_from ws i (suc n) = len_of (get_or ws i 0) + lens_from ws (suc i) n

-- those of the columns in n slots from slot r on
unfoldable pub slot_lens : List ℕ → List ℕ → ℕ → ℕ → ℕ
slot_lens counts ws r zero = 0
slot_lens counts ws r (suc n) = lens_from ws (32 * r) (count_at counts r) + slot_lens counts ws (suc r) n

-- how many slots are held
abbrev pub held_slots : Packed → ℕ
held_slots p = min p.held 64

-- the slot after slot r, where one is held
abbrev pub next_slot : Packed → ℕ → ℕ
next_slot p r = min (suc r) (held_slots p)

-- the lengths of the names before those of slot r, of its own, which it has where it is held, and of those in later slots
abbrev pub lens_before : Packed → ℕ → ℕ
lens_before p r = slot_lens p.counts p.columns.words 0 r

abbrev pub own_lens : Packed → ℕ → ℕ
own_lens p r = slot_lens p.counts p.columns.words r (next_slot p r - r)

abbrev pub later_lens : Packed → ℕ → ℕ
later_lens p r = slot_lens p.counts p.columns.words (next_slot p r) (held_slots p - next_slot p r)

-- the lengths of the names that a Relation brings
unfoldable pub new_lens : List Described → ℕ
new_lens [] = 0
new_lens (described flags v oid modifier ∷ ds) = length v + new_lens ds

-- whether names lie in so many bytes: those before a slot's, its own and those of later slots, and the same with a new length of its own
unfoldable pub lie_in : ℕ → ℕ → ℕ → ℕ → ℕ → Bool
lie_in room before own later new = pick (leb (before + own + later) room) (leb (before + new + later) room) false

-- whether they do in what is lent, before and after the names of slot r are replaced by others
abbrev pub has_room_for : Packed → ℕ → ℕ → Bool
has_room_for p r new = lie_in (room_in p.columns.names) (lens_before p r) (own_lens p r) (later_lens p r) new

-- ---- what a message leaves

-- a column as its word has it
abbrev pub word_column : Bool → ℕ → ℕ → ℕ → Column
word_column key oid len place = record { key = key; type_oid = oid; name_len = len; name_at = place }

-- a word with another place
abbrev pub word_at : ℕ → ℕ → ℕ
word_at place w = word_of (word_column (column_in w).key (column_in w).type_oid (column_in w).name_len place)

-- the names of n columns from column i on stand from a place on, one after the other
unfoldable pub place_words : ℕ → ℕ → ℕ → List ℕ → List ℕ
place_words i zero place ws = ws
place_words i (suc n) place ws = place_words (suc i) n (place + len_of (get_or ws i 0)) (set ws i (word_at place (get_or ws i 0)))

-- those of the columns in n slots from slot r on
unfoldable pub place_slots : List ℕ → ℕ → ℕ → ℕ → List ℕ → List ℕ
place_slots counts r zero place ws = ws
place_slots counts r (suc n) place ws =
    place_slots counts (suc r) n (place + lens_from ws (32 * r) (count_at counts r)) (place_words (32 * r) (count_at counts r) place ws)

-- the names of later slots make room for so many bytes in slot r: the bytes are moved, and their places are corrected
abbrev pub moved : Packed → ℕ → ℕ → Words
moved p r new =
    words_of (place_slots p.counts (next_slot p r) (held_slots p - next_slot p r) (lens_before p r + new) p.columns.words)
    (put p.columns.names (lens_before p r + new) (at p.columns.names (lens_before p r + own_lens p r) (later_lens p r)))

-- column i is stored, with its name from a place on
abbrev pub store_word : ℕ → ℕ → ℕ → List ℕ → ℕ → Words → Words
store_word i place flags v oid s = words_of (set s.words i (word_of (word_column (is_key flags) oid (length v) place))) (placed s.names place v).1

-- columns one after the other, from column i on, with their names from a place on
unfoldable pub store_words : ℕ → ℕ → List Described → Words → Words
store_words i place [] s = s
store_words i place (described flags v oid modifier ∷ ds) s = store_words (suc i) (place + length v) ds (store_word i place flags v oid s)

-- a relation is stored in slot r
abbrev pub stored : Packed → ℕ → ℕ → List Described → Packed
stored p r id ds =
    packed (max p.held (suc r)) (set p.ids r id) (set p.counts r (length ds))
    (store_words (32 * r) (lens_before p r) ds (moved p r (new_lens ds)))

-- 4 where the names have no room
abbrev pub lacking : Packed → Row → ℕ
lacking p (relation id space v identity cs) = pick (has_room_for p (slot_in (common p) id) (new_lens cs)) 0 4
lacking p (type id space v) = 0
lacking p (origin position v) = 0
lacking p (insert id new) = 0
lacking p (update id new) = 0
lacking p (update_from id which old new) = 0
lacking p (delete id which old) = 0
lacking p (truncate options ids) = 0

-- the number of a row's refusal, or 0: what the former layout refuses, and then 4
abbrev pub judged_in : Packed → Row → ℕ
judged_in p r = first_of (judged_by (common p) r) (lacking p r)

-- the memory after a message that was answered so
abbrev pub leaves : Packed → Said → Packed
leaves p (row (relation id space v identity cs)) = stored p (slot_in (common p) id) id cs
leaves p (row (type id space v)) = p
leaves p (row (origin position v)) = p
leaves p (row (insert id new)) = p
leaves p (row (update id new)) = p
leaves p (row (update_from id which old new)) = p
leaves p (row (delete id which old)) = p
leaves p (row (truncate options ids)) = p
leaves p no_row = p
leaves p (refused_by n) = p

-- a message's answer, and the memory after it
unfoldable pub message_of : Packed → Said → Answer × Packed
message_of p said = let answer : Said = answered (judged_in p) said in (answer_of answer, leaves p answer)

-- ---- lookups

-- a part of so many bytes: a place behind them counts as their end, a part ends with them, and a length above 63 counts as 63
abbrev pub clipped : ℕ → ℕ → ℕ → Span
clipped room from len = (min from room, min (min len 63) (room - min from room))

-- a column by the part of the names that has its name, whether it is of the key, and its type
abbrev pub told_of : ℕ → Column → Told
told_of room c = (clipped room c.name_at c.name_len, c.key, c.type_oid)

-- a column where there are k, from column i on
abbrev pub told_among : ℕ → List ℕ → ℕ → Option ℕ → ℕ → Option Told
told_among room ws i none index = none
told_among room ws i (some k) index = pick (leb k index) none (some (told_of room (column_in (get_or ws (i + index) 0))))

-- column `index` of a relation, if it is held and has so many. Only 64 slots have columns
abbrev pub column_told : Packed → ℕ → ℕ → Option Told
column_told p id index =
    pick (leb 64 (slot_in (common p) id)) none
    (told_among (room_in p.columns.names) p.columns.words (32 * slot_in (common p) id) (count_in (common p) id) index)

-- ---- what the inner functions say

-- where so many bytes begin in slot r, if there is room for them, and the columns with that room
unfoldable pub made_room : Packed → ℕ → ℕ → Option ℕ × Words
made_room p r new = (pick (has_room_for p r new) (some (lens_before p r)) none, pick (has_room_for p r new) (moved p r new) p.columns)

-- a Relation is stored, or refused: its number, and the memory after it
unfoldable pub kept : Packed → ℕ → List Described → ℕ × Packed
kept p id ds =
    pick (leb 64 (slot_in (common p) id)) (28, p)
    (pick (fits ds) (pick (has_room_for p (slot_in (common p) id) (new_lens ds)) (0, stored p (slot_in (common p) id) id ds) (4, p)) (29, p))

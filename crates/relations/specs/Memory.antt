-- The lent memory of a relation cache, and what one call leaves of it. Column c of the relation in slot r has number 32 r + c; the name of column i
-- stands from byte 63 i on, and what is behind it in its 63 bytes stays as it was. SCOPE 17.
use Rattle.std.specs.Prelude.{List, [], ◌∷◌, ℕ, zero, suc, ◌*◌, min, max, length, take, get_or, set, replicate, eqb, leb, ltb}
use Rattle.std.proofs.Math.Option.{Option, some, none}
use Rattle.wire.specs.Bytes.{pick, at, placed}
use Rattle.rows.specs.Layout.{Read, got, refused}
use Rattle.rows.specs.Rows.{Described, described, Row, relation, type, origin, insert, update, update_from, delete, truncate, Said, row, no_row, refused_by}
use Rattle.rows.specs.Head.{Answer, answer_of, description_at}
use Rattle.relations.specs.Cache.{Column, column, is_key, Cache, judged, answered}

-- the columns: of each its type, its flags, its name's length; and the names
pub record Columns : Type 0 where
  pub types : List ℕ
  pub flags : List ℕ
  pub lens : List ℕ
  pub names : List ℕ

-- how many relations are held, their identifiers, how many columns each has, and the columns
pub record Memory : Type 0 where
  pub held : ℕ
  pub ids : List ℕ
  pub counts : List ℕ
  pub columns : Columns

abbrev pub columns : List ℕ → List ℕ → List ℕ → List ℕ → Columns
columns t f l n = record { types = t; flags = f; lens = l; names = n }

abbrev pub memory : ℕ → List ℕ → List ℕ → Columns → Memory
memory h i c cs = record { held = h; ids = i; counts = c; columns = cs }

-- every byte is zero
unfoldable pub emptied : Memory
emptied =
    memory 0 (replicate {A = ℕ} 64 0) (replicate {A = ℕ} 64 0)
    (columns (replicate {A = ℕ} 2048 0) (replicate {A = ℕ} 2048 0) (replicate {A = ℕ} 2048 0) (replicate {A = ℕ} 129024 0))

-- ---- what the memory holds

-- the first place of an identifier, or how many there are
unfoldable pub place_of : ℕ → List ℕ → ℕ
place_of id [] = 0
place_of id (j ∷ ids) = pick (eqb j id) 0 (suc (place_of id ids))

-- the identifiers that are held; no more than the memory has
abbrev pub held_ids : Memory → List ℕ
held_ids m = take m.held m.ids

-- the slot of a relation: its own, or the next free one
abbrev pub slot_in : Memory → ℕ → ℕ
slot_in m id = place_of id (held_ids m)

-- column i; a length above 63 counts as 63
abbrev pub column_in : Columns → ℕ → Column
column_in s i = column (at s.names (63 * i) (min (get_or s.lens i 0) 63)) (is_key (get_or s.flags i 0)) (get_or s.types i 0)

-- n columns from column i on
unfoldable pub columns_from : Columns → ℕ → ℕ → List Column
columns_from s i zero = []
columns_from s i (suc n) = column_in s i ∷ columns_from s (suc i) n

-- how many columns the relation in slot r has; a count above 32 counts as 32
abbrev pub count_at : List ℕ → ℕ → ℕ
count_at counts r = min (get_or counts r 0) 32

-- the relations with these identifiers, from slot r on
unfoldable pub relations_from : Memory → ℕ → List ℕ → Cache
relations_from m r [] = []
relations_from m r (id ∷ ids) = (id, columns_from m.columns (32 * r) (count_at m.counts r)) ∷ relations_from m (suc r) ids

-- what the memory stands for, whatever it is
abbrev pub cache_of : Memory → Cache
cache_of m = relations_from m 0 (held_ids m)

-- how many columns a relation has, if it is held
abbrev pub count_held : ℕ → List ℕ → List ℕ → ℕ → Option ℕ
count_held held ids counts id =
    let r : ℕ = place_of id (take held ids) in
    pick (ltb r (length (take held ids))) (some (count_at counts r)) none

abbrev pub count_in : Memory → ℕ → Option ℕ
count_in m id = count_held m.held m.ids m.counts id

-- ---- what a message leaves

-- column i is stored
abbrev pub store_column : ℕ → ℕ → List ℕ → ℕ → Columns → Columns
store_column i flags v oid s = columns (set s.types i oid) (set s.flags i flags) (set s.lens i (length v)) (placed s.names (63 * i) v).1

-- columns one after the other, from column i on
unfoldable pub store_from : ℕ → List Described → Columns → Columns
store_from i [] s = s
store_from i (described flags v oid modifier ∷ ds) s = store_from (suc i) ds (store_column i flags v oid s)

-- a relation is stored in slot r
abbrev pub stored : Memory → ℕ → ℕ → List Described → Memory
stored m r id ds = memory (max m.held (suc r)) (set m.ids r id) (set m.counts r (length ds)) (store_from (32 * r) ds m.columns)

-- a row's refusal with the memory as it is
abbrev pub judged_by : Memory → Row → ℕ
judged_by m = judged (λ id. leb 64 (slot_in m id)) (count_in m)

-- the memory after a message that was answered so
abbrev pub leaves : Memory → Said → Memory
leaves m (row (relation id space v identity cs)) = stored m (slot_in m id) id cs
leaves m (row (type id space v)) = m
leaves m (row (origin position v)) = m
leaves m (row (insert id new)) = m
leaves m (row (update id new)) = m
leaves m (row (update_from id which old new)) = m
leaves m (row (delete id which old)) = m
leaves m (row (truncate options ids)) = m
leaves m no_row = m
leaves m (refused_by n) = m

-- a message's answer, and the memory after it
unfoldable pub message_of : Memory → Said → Answer × Memory
message_of m said = let answer : Said = answered (judged_by m) said in (answer_of answer, leaves m answer)

-- ---- what the inner functions say

-- the descriptions from a place on, n at most, up to the first that is refused
abbrev pub described_or : Read Described → (Described → ℕ → List Described) → List Described
described_or (got d j) go = go d j
described_or (refused n) go = []

unfoldable pub described_from : List ℕ → ℕ → ℕ → List Described
described_from s zero i = []
described_from s (suc n) i = described_or (description_at s i) (λ d j. d ∷ described_from s n j)

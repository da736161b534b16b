-- What the cache is for: the memory stands for the relations that are held, whatever messages came, and what may be said of these. 02, wish 4; SCOPE
-- 17.
use Rattle.std.specs.Prelude.{◌≡◌, true, false, List, [], ◌∷◌, map, ℕ, zero, suc, ◌+◌, ◌≤◌, length, eqb}
use Rattle.std.proofs.Math.Option.{Option, some, none}
use Rattle.wire.specs.Bytes.{pick, at}
use Rattle.rows.specs.Rows.{Row, relation, type, origin, insert, update, update_from, delete, truncate, Said, row, no_row, refused_by, row_said}
use Rattle.rows.specs.Head.{Answer, answer_of, refusal}
use Rattle.relations.specs.Cache.{Column, column, column_of, Cache, columns_of, counted, is_full, fits, took}
use Rattle.relations.specs.Memory.{Columns, Memory, emptied, cache_of, count_in, message_of}
use Rattle.relations.specs.Answers.{Told, column_told}

-- the arrays have the lengths of those that are lent
pub record SizedColumns (s : Columns) : Type 0 where
  pub types : length s.types ≡ 2048
  pub flags : length s.flags ≡ 2048
  pub lens : length s.lens ≡ 2048
  pub names : length s.names ≡ 129024

pub record Sized (m : Memory) : Type 0 where
  pub ids : length m.ids ≡ 64
  pub counts : length m.counts ≡ 64
  pub columns : SizedColumns m.columns

-- ---- any list of messages, each call getting the memory as the last one left it

unfoldable pub answers_on : Memory → List (List ℕ) → List Answer
answers_on m [] = []
answers_on m (s ∷ ss) = (message_of m (row_said s)).0 ∷ answers_on (message_of m (row_said s)).1 ss

unfoldable pub memory_after : Memory → List (List ℕ) → Memory
memory_after m [] = m
memory_after m (s ∷ ss) = memory_after (message_of m (row_said s)).1 ss

-- the same of the relations that are held: what each message is answered with, and what is held after the last
unfoldable pub said_on : Cache → List (List ℕ) → List Said
said_on cache [] = []
said_on cache (s ∷ ss) = (took cache (row_said s)).0 ∷ said_on (took cache (row_said s)).1 ss

unfoldable pub cache_after : Cache → List (List ℕ) → Cache
cache_after cache [] = cache
cache_after cache (s ∷ ss) = cache_after (took cache (row_said s)).1 ss

-- the answers are those of the relations that are held, and the memory stands for these after the last message, whatever memory it was at first
abbrev pub StandsFor : Type 0
StandsFor =
    (m : Memory) (ss : List (List ℕ)) → Sized m
    → (answers_on m ss ≡ map answer_of (said_on (cache_of m) ss))
    × (cache_of (memory_after m ss) ≡ cache_after (cache_of m) ss) × Sized (memory_after m ss)

-- the same from an empty cache
abbrev pub FromEmpty : Type 0
FromEmpty =
    (ss : List (List ℕ)) → (answers_on emptied ss ≡ map answer_of (said_on [] ss)) × (cache_of (memory_after emptied ss) ≡ cache_after [] ss)

-- a message that is refused, with whichever number, leaves the whole memory as it was
abbrev pub RefusedLeavesAll : Type 0
RefusedLeavesAll = (m : Memory) (said : Said) (n : ℕ) → (message_of m said).0 ≡ refusal n → (message_of m said).1 ≡ m

-- ---- lookups

-- a column that is told, with the bytes of its name
abbrev pub named : List ℕ → Option Told → Option Column
named names none = none
named names (some t) = some (column (at names t.0.0 t.0.1) t.1 t.2)

-- the name of a column that is told lies in the names
abbrev pub Within : ℕ → Option Told → Type 0
Within n none = Unit
Within n (some t) = t.0.0 + t.0.1 ≤ n

-- one of the columns, from 0
unfoldable pub nth : List Column → ℕ → Option Column
nth [] k = none
nth (c ∷ cs) zero = some c
nth (c ∷ cs) (suc k) = nth cs k

abbrev pub column_among : Option (List Column) → ℕ → Option Column
column_among none k = none
column_among (some cs) k = nth cs k

-- the count and the columns that are told are those of the relation that is held
pub record Lookups : Type 0 where
  pub count : (m : Memory) (id : ℕ) → count_in m id ≡ counted (columns_of id (cache_of m))
  pub column : (m : Memory) → Sized m → (id k : ℕ) → named m.columns.names (column_told m id k) ≡ column_among (columns_of id (cache_of m)) k
  pub within : (m : Memory) (id k : ℕ) → Within 129024 (column_told m id k)

-- ---- what is held

-- the columns of a relation's last Relation that was not refused, if there was one; else those it had before
unfoldable pub last_of : ℕ → Option (List Column) → List Said → Option (List Column)
last_of id before [] = before
last_of id before (row (relation j space v identity cs) ∷ said) = last_of id (pick (eqb j id) (some (map column_of cs)) before) said
last_of id before (row (type j space v) ∷ said) = last_of id before said
last_of id before (row (origin position v) ∷ said) = last_of id before said
last_of id before (row (insert j new) ∷ said) = last_of id before said
last_of id before (row (update j new) ∷ said) = last_of id before said
last_of id before (row (update_from j which old new) ∷ said) = last_of id before said
last_of id before (row (delete j which old) ∷ said) = last_of id before said
last_of id before (row (truncate options ids) ∷ said) = last_of id before said
last_of id before (no_row ∷ said) = last_of id before said
last_of id before (refused_by n ∷ said) = last_of id before said

abbrev pub LastNotRefused : Type 0
LastNotRefused = (ss : List (List ℕ)) (id : ℕ) → columns_of id (cache_after [] ss) ≡ last_of id none (said_on [] ss)

-- each tuple of a row has as many columns as its relation
abbrev pub Matched : Cache → Row → Type 0
Matched cache (relation id space v identity cs) = Unit
Matched cache (type id space v) = Unit
Matched cache (origin position v) = Unit
Matched cache (insert id new) = counted (columns_of id cache) ≡ some (length new)
Matched cache (update id new) = counted (columns_of id cache) ≡ some (length new)
Matched cache (update_from id which old new) = (counted (columns_of id cache) ≡ some (length old)) × (counted (columns_of id cache) ≡ some (length new))
Matched cache (delete id which old) = counted (columns_of id cache) ≡ some (length old)
Matched cache (truncate options ids) = Unit

abbrev pub AnsweredRowsMatch : Type 0
AnsweredRowsMatch = (cache : Cache) (said : Said) (r : Row) → (took cache said).0 ≡ row r → Matched cache r

-- a Relation is taken where the cache has room for it and it fits; any other row where it matches
abbrev pub Taken : Cache → Row → Type 0
Taken cache (relation id space v identity cs) = (is_full (columns_of id cache) (length cache) ≡ false) × (fits cs ≡ true)
Taken cache (type id space v) = Unit
Taken cache (origin position v) = Unit
Taken cache (insert id new) = Matched cache (insert id new)
Taken cache (update id new) = Matched cache (update id new)
Taken cache (update_from id which old new) = Matched cache (update_from id which old new)
Taken cache (delete id which old) = Matched cache (delete id which old)
Taken cache (truncate options ids) = Unit

-- nothing else is refused
abbrev pub TakenIsAnswered : Type 0
TakenIsAnswered = (cache : Cache) (r : Row) → Taken cache r → (took cache (row r)).0 ≡ row r

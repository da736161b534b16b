-- A relation cache by its meaning: the relations that are held, each with its columns. Document 02, wish 4; SCOPE 17.
use Rattle.std.specs.Prelude.{Bool, true, false, List, [], ◌∷◌, map, ℕ, ◌%◌, length, eqb, leb}
use Rattle.std.proofs.Math.Option.{Option, some, none}
use Rattle.wire.specs.Bytes.{pick}
use Rattle.rows.specs.Rows.{Described, described, Row, relation, type, origin, insert, update, update_from, delete, truncate, Said, row, no_row, refused_by}

-- ---- what is held

-- a column: its name, whether it is of the key, its type
pub data Column : Type 0 where
  column : List ℕ → Bool → ℕ → Column

-- the key's columns have the lowest bit of their flags set
abbrev pub is_key : ℕ → Bool
is_key flags = eqb (flags % 2) 1

-- what is held of a column's description
abbrev pub column_of : Described → Column
column_of (described flags v oid modifier) = column v (is_key flags) oid

-- relations by their identifiers, in the order in which these first came
abbrev pub Cache : Type 0
Cache = List (ℕ × List Column)

-- the columns of a relation, if it is held
unfoldable pub columns_of : ℕ → Cache → Option (List Column)
columns_of id [] = none
columns_of id (one ∷ others) = pick (eqb one.0 id) (some one.1) (columns_of id others)

-- a relation supersedes the one with its identifier, or comes last
unfoldable pub superseded : ℕ → List Column → Cache → Cache
superseded id cs [] = (id, cs) ∷ []
superseded id cs (one ∷ others) = pick (eqb one.0 id) ((id, cs) ∷ others) (one ∷ superseded id cs others)

-- ---- what is refused

-- each name has 63 bytes at most
unfoldable pub names_fit : List Described → Bool
names_fit [] = true
names_fit (described flags v oid modifier ∷ ds) = pick (leb (length v) 63) (names_fit ds) false

-- at most 32 columns, and their names
unfoldable pub fits : List Described → Bool
fits ds = pick (leb (length ds) 32) (names_fit ds) false

-- how many columns a relation has, if it is held
abbrev pub counted : Option (List Column) → Option ℕ
counted none = none
counted (some cs) = some (length cs)

-- 64 others are held
abbrev pub is_full : Option (List Column) → ℕ → Bool
is_full none n = leb 64 n
is_full (some cs) n = false

-- a tuple of n columns: 0, or 30 where its relation is not held or has another number of columns
abbrev pub matches : Option ℕ → ℕ → ℕ
matches none n = 30
matches (some k) n = pick (eqb k n) 0 30

-- the first of two numbers, unless it is 0
abbrev pub first_of : ℕ → ℕ → ℕ
first_of a b = pick (eqb a 0) b a

-- the number of a row's refusal, or 0, by whether the cache is full for a relation, and by how many columns it has. 28 comes before 29. Of an
-- Update both tuples are matched. Type, Origin and Truncate are never refused
unfoldable pub judged : (ℕ → Bool) → (ℕ → Option ℕ) → Row → ℕ
judged full count (relation id space v identity cs) = pick (full id) 28 (pick (fits cs) 0 29)
judged full count (type id space v) = 0
judged full count (origin position v) = 0
judged full count (insert id new) = matches (count id) (length new)
judged full count (update id new) = matches (count id) (length new)
judged full count (update_from id which old new) = first_of (matches (count id) (length old)) (matches (count id) (length new))
judged full count (delete id which old) = matches (count id) (length old)
judged full count (truncate options ids) = 0

-- what a message is answered with: what its data say, unless its row is refused. 26 and 27, which the data themselves give, come before 28 to 30
abbrev pub answered : (Row → ℕ) → Said → Said
answered judge (row r) = pick (eqb (judge r) 0) (row r) (refused_by (judge r))
answered judge no_row = no_row
answered judge (refused_by n) = refused_by n

-- ---- one message

-- a row's refusal with the cache as it is
abbrev pub judged_in : Cache → Row → ℕ
judged_in cache = judged (λ id. is_full (columns_of id cache) (length cache)) (λ id. counted (columns_of id cache))

-- the cache after a message that was answered so: a Relation is held from then on, and nothing else changes it
abbrev pub after : Cache → Said → Cache
after cache (row (relation id space v identity cs)) = superseded id (map column_of cs) cache
after cache (row (type id space v)) = cache
after cache (row (origin position v)) = cache
after cache (row (insert id new)) = cache
after cache (row (update id new)) = cache
after cache (row (update_from id which old new)) = cache
after cache (row (delete id which old)) = cache
after cache (row (truncate options ids)) = cache
after cache no_row = cache
after cache (refused_by n) = cache

-- what a message is answered with, and the cache after it
unfoldable pub took : Cache → Said → Said × Cache
took cache said = let answer : Said = answered (judged_in cache) said in (answer, after cache answer)

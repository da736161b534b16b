-- What a caller sees of a cache, and what one message does to it, said by the bytes of the message and by what was seen before it: no definition of
-- the cache is used. Document 02, wish 4; SCOPE 17.
use Rattle.std.specs.Prelude.{◌≡◌, true, false, List, [], ◌∷◌, ◌++◌, ◌⊎◌, ℕ, ◌+◌, ◌*◌, ◌<◌, ◌≤◌, min, length, ℤ}
use Rattle.std.proofs.Math.Option.{Option, some, none}
use Rattle.rows.specs.Layout.{All}
use Rattle.rows.specs.Rows.{Cell, Described, described, Row, relation, type, origin, insert, update, update_from, delete, truncate, row_bytes}
use Rattle.rows.specs.Rows.{refused_by}
use Rattle.rows.specs.Rows.{row_said}
use Rattle.rows.specs.RowLayout.{RowFits}
use Rattle.rows.specs.Refusals.{IsBoundary}
use Rattle.rows.specs.Head.{Answer, head, none as no_answer, refusal, head_of}
use Rattle.relations.specs.Cache.{Column, column}
use Rattle.relations.specs.Memory.{Memory, emptied, count_in, message_of}
use Rattle.relations.specs.Answers.{column_told}
use Rattle.relations.specs.Laws.{Sized, memory_after, named}

-- ---- what is seen

-- what the lookups answer: how many columns a relation has, and each of its columns, with the bytes of its name
pub record Seen : Type 0 where
  pub count : ℕ → Option ℕ
  pub column : ℕ → ℕ → Option Column

-- of a memory
abbrev pub seen_in : Memory → Seen
seen_in m = record { count = count_in m; column = λ id k. named m.columns.names (column_told m id k) }

-- an identifier stands in a list
abbrev pub Among : ℕ → List ℕ → Type 0
Among id [] = ⊥
Among id (x ∷ xs) = (x ≡ id) ⊎ Among id xs

-- no identifier stands there twice
abbrev pub Distinct : List ℕ → Type 0
Distinct [] = Unit
Distinct (x ∷ xs) = (Among x xs → ⊥) × Distinct xs

-- these are the relations that are held, each once
pub record Holds (o : Seen) (ids : List ℕ) : Type 0 where
  pub each : (id : ℕ) → Among id ids → (n : ℕ) × (o.count id ≡ some n)
  pub no_other : (id n : ℕ) → o.count id ≡ some n → Among id ids
  pub once : Distinct ids

-- ---- what a message says

-- the data are the bytes of a row that can be sent, and a surplus
abbrev pub Carries : List ℕ → Row → Type 0
Carries s r = RowFits r × (surplus : List ℕ) × (s ≡ row_bytes r ++ surplus)

-- the tuples of a row, each with its relation
abbrev pub HasTuple : Row → ℕ → List Cell → Type 0
HasTuple (relation id space v identity ds) j cs = ⊥
HasTuple (type id space v) j cs = ⊥
HasTuple (origin position v) j cs = ⊥
HasTuple (insert id new) j cs = (id ≡ j) × (new ≡ cs)
HasTuple (update id new) j cs = (id ≡ j) × (new ≡ cs)
HasTuple (update_from id which old new) j cs = (id ≡ j) × ((old ≡ cs) ⊎ (new ≡ cs))
HasTuple (delete id which old) j cs = (id ≡ j) × (old ≡ cs)
HasTuple (truncate options ids) j cs = ⊥

-- a Relation
abbrev pub IsRelation : Row → Type 0
IsRelation (relation id space v identity ds) = Unit
IsRelation (type id space v) = ⊥
IsRelation (origin position v) = ⊥
IsRelation (insert id new) = ⊥
IsRelation (update id new) = ⊥
IsRelation (update_from id which old new) = ⊥
IsRelation (delete id which old) = ⊥
IsRelation (truncate options ids) = ⊥

-- a name of 63 bytes at most
abbrev pub HasShortName : Described → Type 0
HasShortName (described flags v oid modifier) = length v ≤ 63

-- ---- what is seen after it

-- everything is as it was
pub record Same (o p : Seen) : Type 0 where
  pub counts : (id : ℕ) → p.count id ≡ o.count id
  pub columns : (id k : ℕ) → p.column id k ≡ o.column id k

-- a relation has exactly these columns: each its name and its type, and it is of the key where its flags are odd; no other relation is changed
pub record Replaced (o p : Seen) (id : ℕ) (ds : List Described) : Type 0 where
  pub count : p.count id ≡ some (length ds)
  pub odd : (front back : List Described) (half : ℕ) (v : List ℕ) (oid : ℕ) (modifier : ℤ)
      → ds ≡ front ++ (described (2 * half + 1) v oid modifier ∷ back)
      → p.column id (length front) ≡ some (column v true oid)
  pub even : (front back : List Described) (half : ℕ) (v : List ℕ) (oid : ℕ) (modifier : ℤ)
      → ds ≡ front ++ (described (2 * half) v oid modifier ∷ back)
      → p.column id (length front) ≡ some (column v false oid)
  pub no_more : (k : ℕ) → length ds ≤ k → p.column id k ≡ none
  pub other_counts : (j : ℕ) → (j ≡ id → ⊥) → p.count j ≡ o.count j
  pub other_columns : (j : ℕ) → (j ≡ id → ⊥) → (k : ℕ) → p.column j k ≡ o.column j k

-- ---- one message

-- there is room for a relation: it is held, or fewer than 64 are
abbrev pub HasRoom : Seen → ℕ → ℕ → Type 0
HasRoom o held id = ((n : ℕ) × (o.count id ≡ some n)) ⊎ (held < 64)

-- What any data are answered with, and what is seen after them, where `held` relations are held. By the laws of rows all data are one of these.
pub record MessageLaws (o : Seen) (held : ℕ) (s : List ℕ) (a : Answer) (p : Seen) : Type 0 where
  -- Begin, Commit and Message are no row; data that are refused keep their number
  pub boundary : IsBoundary s → (a ≡ no_answer) × Same o p
  pub malformed : (n : ℕ) → row_said s ≡ refused_by n → (a ≡ refusal n) × Same o p
  -- a Relation: 28 where it is not held and 64 others are; else 29 where it has more than 32 columns or a name of more than 63 bytes
  pub full : (id : ℕ) (space v : List ℕ) (identity : ℕ) (ds : List Described) → Carries s (relation id space v identity ds)
      → o.count id ≡ none → 64 ≤ held → (a ≡ refusal 28) × Same o p
  pub many_columns : (id : ℕ) (space v : List ℕ) (identity : ℕ) (ds : List Described) → Carries s (relation id space v identity ds)
      → HasRoom o held id → 32 < length ds → (a ≡ refusal 29) × Same o p
  pub long_name : (id : ℕ) (space v : List ℕ) (identity : ℕ) (front : List Described) (flags : ℕ) (name : List ℕ) (oid : ℕ) (modifier : ℤ)
      (back : List Described) → Carries s (relation id space v identity (front ++ (described flags name oid modifier ∷ back)))
      → HasRoom o held id → 63 < length name → (a ≡ refusal 29) × Same o p
  -- any other Relation is held from then on
  pub taken : (id : ℕ) (space v : List ℕ) (identity : ℕ) (ds : List Described) → Carries s (relation id space v identity ds)
      → HasRoom o held id → length ds ≤ 32 → All HasShortName ds
      → (a ≡ head (head_of (relation id space v identity ds))) × Replaced o p id ds
  -- another row: 30 where a tuple has not as many columns as its relation, or the relation is not held; else it is answered
  pub unmatched : (r : Row) (id : ℕ) (cs : List Cell) → Carries s r → HasTuple r id cs → (o.count id ≡ some (length cs) → ⊥)
      → (a ≡ refusal 30) × Same o p
  pub matched : (r : Row) → Carries s r → (IsRelation r → ⊥) → ((id : ℕ) (cs : List Cell) → HasTuple r id cs → o.count id ≡ some (length cs))
      → (a ≡ head (head_of r)) × Same o p

-- ---- the theorems

-- after any messages from an empty cache the relations that are held are these, 64 at most, and the next message is answered by the laws above
pub record HistoryLaws (seen : List (List ℕ) → Seen) (answer : List (List ℕ) → List ℕ → Answer) (ss : List (List ℕ)) (s : List ℕ) : Type 0 where
  pub ids : List ℕ
  pub held : Holds (seen ss) ids
  pub most : length ids ≤ 64
  pub next : MessageLaws (seen ss) (length ids) s (answer ss s) (seen (ss ++ (s ∷ [])))

-- the laws of every message, for any memory and for any list of messages from an empty cache
pub record CacheLaws : Type 0 where
  -- whatever the memory is; of the number that is held no more than 64 counts
  pub any_memory : (m : Memory) → Sized m → (s : List ℕ)
      → MessageLaws (seen_in m) (min m.held 64) s (message_of m (row_said s)).0 (seen_in (message_of m (row_said s)).1)
  -- nothing is held at first
  pub empty_count : (id : ℕ) → (seen_in emptied).count id ≡ none
  pub empty_column : (id k : ℕ) → (seen_in emptied).column id k ≡ none
  pub from_empty : (ss : List (List ℕ)) (s : List ℕ)
      → HistoryLaws (λ ss. seen_in (memory_after emptied ss)) (λ ss s. (message_of (memory_after emptied ss) (row_said s)).0) ss s

-- What each word of the answers about rows and of a relation cache means, one by one and literally, whatever is answered. SCOPE 9.6, 9.10. The places
-- and values have names in rows/src/layout.rt and packed_relations/src/layout.rt.
use Rattle.std.specs.Prelude.{ℕ, ◌+◌, Bool, List, [], ◌∷◌, ◌≡◌, ℤ, length, replicate}
use Rattle.std.proofs.Math.Option.{some, none}
use Rattle.rows.specs.declared.Which.TheVariants.{Key, Old}
use Rattle.rows.specs.Layout.{got, refused}
use Rattle.rows.specs.Rows.{null, unchanged, text, binary, described, row_said}
use Rattle.rows.specs.Head as Head
use Rattle.rows.specs.Head.{Answer, head, refusal, answer_of, column_at, description_at, identifier_at}
use Rattle.rows.specs.Head.{relation_head, type_head, origin_head, insert_head, update_head, update_from_head, delete_head, truncate_head}
use Rattle.relations.specs.Memory.{count_held}
use Rattle.packed_relations.specs.Packed.{Packed, packed, words_of, message_of, column_told}
use Rattle.rows.specs.Words.{row_call, column_call, description_call, identifier_call}
use Rattle.packed_relations.specs.Words as Cache
use Rattle.packed_relations.specs.Words.{clear_call, message_call, count_call}
use Rattle.thm_host_calls.specs.HostWords.{flag, twos}

-- ---- a row's head: the refusal's number, 0 for none, and eleven words

-- word 0: the kind; word 1: the identifier, of an Origin the position; word 2: replica identity, letter of the old tuple (75 `K`, 79 `O`), option
-- bits; words 3 and 4: how many columns, descriptions or relations there are, and the first one's place; words 5 and 6: the same of the old tuple;
-- words 7 and 8: the namespace's place and length; words 9 and 10: the name's
pub record HeadTold (a : Answer) (told : ℕ × List ℕ) : Type 0 where
  pub relation : (id space_at space_len at len identity n i : ℕ) → a ≡ head (relation_head id (space_at, space_len) (at, len) identity n i)
      → told ≡ (0, 1 ∷ id ∷ identity ∷ n ∷ i ∷ 0 ∷ 0 ∷ space_at ∷ space_len ∷ at ∷ len ∷ [])
  pub type : (id space_at space_len at len : ℕ) → a ≡ head (type_head id (space_at, space_len) (at, len))
      → told ≡ (0, 2 ∷ id ∷ 0 ∷ 0 ∷ 0 ∷ 0 ∷ 0 ∷ space_at ∷ space_len ∷ at ∷ len ∷ [])
  pub origin : (position at len : ℕ) → a ≡ head (origin_head position (at, len))
      → told ≡ (0, 3 ∷ position ∷ 0 ∷ 0 ∷ 0 ∷ 0 ∷ 0 ∷ 0 ∷ 0 ∷ at ∷ len ∷ [])
  pub insert : (id n i : ℕ) → a ≡ head (insert_head id (n, i)) → told ≡ (0, 4 ∷ id ∷ 0 ∷ n ∷ i ∷ 0 ∷ 0 ∷ 0 ∷ 0 ∷ 0 ∷ 0 ∷ [])
  pub update : (id n i : ℕ) → a ≡ head (update_head id (n, i)) → told ≡ (0, 5 ∷ id ∷ 0 ∷ n ∷ i ∷ 0 ∷ 0 ∷ 0 ∷ 0 ∷ 0 ∷ 0 ∷ [])
  pub update_key : (id m j n i : ℕ) → a ≡ head (update_from_head id Key (m, j) (n, i)) → told ≡ (0, 5 ∷ id ∷ 75 ∷ n ∷ i ∷ m ∷ j ∷ 0 ∷ 0 ∷ 0 ∷ 0 ∷ [])
  pub update_old : (id m j n i : ℕ) → a ≡ head (update_from_head id Old (m, j) (n, i)) → told ≡ (0, 5 ∷ id ∷ 79 ∷ n ∷ i ∷ m ∷ j ∷ 0 ∷ 0 ∷ 0 ∷ 0 ∷ [])
  pub delete_key : (id m j : ℕ) → a ≡ head (delete_head id Key (m, j)) → told ≡ (0, 6 ∷ id ∷ 75 ∷ 0 ∷ 0 ∷ m ∷ j ∷ 0 ∷ 0 ∷ 0 ∷ 0 ∷ [])
  pub delete_old : (id m j : ℕ) → a ≡ head (delete_head id Old (m, j)) → told ≡ (0, 6 ∷ id ∷ 79 ∷ 0 ∷ 0 ∷ m ∷ j ∷ 0 ∷ 0 ∷ 0 ∷ 0 ∷ [])
  pub truncate : (n options i : ℕ) → a ≡ head (truncate_head n options i) → told ≡ (0, 7 ∷ 0 ∷ options ∷ n ∷ i ∷ 0 ∷ 0 ∷ 0 ∷ 0 ∷ 0 ∷ 0 ∷ [])
  pub no_row : a ≡ Head.none → told ≡ (0, 0 ∷ 0 ∷ 0 ∷ 0 ∷ 0 ∷ 0 ∷ 0 ∷ 0 ∷ 0 ∷ 0 ∷ 0 ∷ [])
  pub refused : (n : ℕ) → a ≡ refusal n → told ≡ (n, 0 ∷ 0 ∷ 0 ∷ 0 ∷ 0 ∷ 0 ∷ 0 ∷ 0 ∷ 0 ∷ 0 ∷ 0 ∷ [])

-- of any data
abbrev pub RowWords : Type 0
RowWords = (s : List ℕ) → HeadTold (answer_of (row_said s)) (row_call s)

-- ---- one column, description or identifier at a place i: the place of the next one, 0 where it is refused; word 0 is the refusal's number, or 0

-- word 1: null 1, unchanged 2, text 3, binary 4; words 2 and 3: where the value stands, after its letter and its length, and how long it is
pub record TupleWords (s : List ℕ) (i : ℕ) : Type 0 where
  pub is_null : (next : ℕ) → column_at s i ≡ got null next → column_call s i ≡ (next, 0 ∷ 1 ∷ 0 ∷ 0 ∷ [])
  pub is_unchanged : (next : ℕ) → column_at s i ≡ got unchanged next → column_call s i ≡ (next, 0 ∷ 2 ∷ 0 ∷ 0 ∷ [])
  pub is_text : (v : List ℕ) (next : ℕ) → column_at s i ≡ got (text v) next → column_call s i ≡ (next, 0 ∷ 3 ∷ (i + 5) ∷ length v ∷ [])
  pub is_binary : (v : List ℕ) (next : ℕ) → column_at s i ≡ got (binary v) next → column_call s i ≡ (next, 0 ∷ 4 ∷ (i + 5) ∷ length v ∷ [])
  pub is_refused : (n : ℕ) → column_at s i ≡ refused n → column_call s i ≡ (0, n ∷ 0 ∷ 0 ∷ 0 ∷ [])

-- word 1: flags; words 2 and 3: where the name stands, after the flags, and how long it is; word 4: type; word 5: type modifier in two's complement
pub record DescriptionWords (s : List ℕ) (i : ℕ) : Type 0 where
  pub told : (flags : ℕ) (v : List ℕ) (oid : ℕ) (modifier : ℤ) (next : ℕ) → description_at s i ≡ got (described flags v oid modifier) next
      → description_call s i ≡ (next, 0 ∷ flags ∷ (i + 1) ∷ length v ∷ oid ∷ twos modifier ∷ [])
  pub is_refused : (n : ℕ) → description_at s i ≡ refused n → description_call s i ≡ (0, n ∷ 0 ∷ 0 ∷ 0 ∷ 0 ∷ 0 ∷ [])

-- word 1: the identifier
pub record IdentifierWords (s : List ℕ) (i : ℕ) : Type 0 where
  pub told : (id next : ℕ) → identifier_at s i ≡ got id next → identifier_call s i ≡ (next, 0 ∷ id ∷ [])
  pub is_refused : (n : ℕ) → identifier_at s i ≡ refused n → identifier_call s i ≡ (0, n ∷ 0 ∷ [])

-- of any data and any place
pub record ItemsTold : Type 0 where
  pub column : (s : List ℕ) (i : ℕ) → TupleWords s i
  pub description : (s : List ℕ) (i : ℕ) → DescriptionWords s i
  pub identifier : (s : List ℕ) (i : ℕ) → IdentifierWords s i

-- ---- a relation cache

pub record CacheWords : Type 0 where
  -- a message is told as a row is, and leaves the memory after it; refused, with any number, it leaves the memory as it was
  pub message : (m : Packed) (s : List ℕ) → HeadTold (message_of m (row_said s)).0 (message_call m s).0
  pub left : (m : Packed) (s : List ℕ) → (message_call m s).1 ≡ (message_of m (row_said s)).1
  pub refused : (m : Packed) (s : List ℕ) (n : ℕ) → (message_of m (row_said s)).0 ≡ refusal n
      → message_call m s ≡ ((n, 0 ∷ 0 ∷ 0 ∷ 0 ∷ 0 ∷ 0 ∷ 0 ∷ 0 ∷ 0 ∷ 0 ∷ 0 ∷ []), m)
  -- 1 and how many columns a held relation has; else 0 and 0
  pub held : (held : ℕ) (ids counts : List ℕ) (id n : ℕ) → count_held held ids counts id ≡ some n → count_call held ids counts id ≡ (1, n)
  pub not_held : (held : ℕ) (ids counts : List ℕ) (id : ℕ) → count_held held ids counts id ≡ none → count_call held ids counts id ≡ (0, 0)
  -- 1, the name's place and length, whether it is of the key, its type; all 0 where there is no such column
  pub column : (held : ℕ) (ids counts words names : List ℕ) (id index at len : ℕ) (key : Bool) (oid : ℕ)
      → column_told (packed held ids counts (words_of words names)) id index ≡ some ((at, len), key, oid)
      → Cache.column_call held ids counts words names id index ≡ 1 ∷ at ∷ len ∷ flag key ∷ oid ∷ []
  pub no_column : (held : ℕ) (ids counts words names : List ℕ) (id index : ℕ)
      → column_told (packed held ids counts (words_of words names)) id index ≡ none
      → Cache.column_call held ids counts words names id index ≡ 0 ∷ 0 ∷ 0 ∷ 0 ∷ 0 ∷ []
  -- cleared, the whole memory but the names is zero
  pub cleared : clear_call ≡
      record {
        held = 0;
        ids = replicate {A = ℕ} 64 0;
        counts = replicate {A = ℕ} 64 0;
        columns = record { words = replicate {A = ℕ} 2048 0; names = [] };
      }

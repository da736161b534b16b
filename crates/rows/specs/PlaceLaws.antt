-- Where counts, lengths and letters stand in each message, and what is answered where one of them is bad, place by place. SCOPE 3.13.
use Rattle.std.specs.Prelude.{◌≡◌, List, [], ◌∷◌, ◌++◌, ◌⊎◌, ℕ, ◌<◌, ◌≤◌, length}
use Prim.Native.Char.{code}
use Rattle.wire.specs.Bytes.{be_bytes}
use Rattle.wire.specs.Find.{NoZero}
use Rattle.rows.specs.Layout.{All, all_bytes}
use Rattle.rows.specs.Rows.{Cell, string_bytes, cell_bytes, tuple_bytes, which_letter, refused_by, row_said}
use Rattle.rows.specs.RowLayout.{CellFits, TupleFits}
use Rattle.rows.specs.declared.Which.{Which}

-- where a tuple stands: of an Insert, of an Update without an old tuple, the old one and the new one of an Update with both, and of a Delete
pub data TuplePlace : Type 0 where
  of_insert : ℕ → TuplePlace
  of_update : ℕ → TuplePlace
  of_old : ℕ → Which → TuplePlace
  of_new : ℕ → Which → List Cell → TuplePlace
  of_delete : ℕ → Which → TuplePlace

-- the bytes in front of it
abbrev pub front_bytes : TuplePlace → List ℕ
front_bytes (of_insert id) = code "I" ∷ (be_bytes 4 id ++ (code "N" ∷ []))
front_bytes (of_update id) = code "U" ∷ (be_bytes 4 id ++ (code "N" ∷ []))
front_bytes (of_old id which) = code "U" ∷ (be_bytes 4 id ++ (which_letter which ∷ []))
front_bytes (of_new id which old) = code "U" ∷ (be_bytes 4 id ++ (which_letter which ∷ (tuple_bytes old ++ (code "N" ∷ []))))
front_bytes (of_delete id which) = code "D" ∷ (be_bytes 4 id ++ (which_letter which ∷ []))

-- these can be sent
abbrev pub FrontFits : TuplePlace → Type 0
FrontFits (of_insert id) = id ≤ 4294967295
FrontFits (of_update id) = id ≤ 4294967295
FrontFits (of_old id which) = id ≤ 4294967295
FrontFits (of_new id which old) = (id ≤ 4294967295) × TupleFits old
FrontFits (of_delete id which) = id ≤ 4294967295

-- a wrong letter is 27 and a negative count or length 26, at each place, whatever follows it
pub record PlaceLaws : Type 0 where
  -- the letter after the relation's identifier, and that of the new tuple after an old one
  pub insert_letter : (id b : ℕ) (t : List ℕ) → id ≤ 4294967295 → (b ≡ code "N" → ⊥) → row_said (code "I" ∷ (be_bytes 4 id ++ (b ∷ t))) ≡ refused_by 27
  pub update_letter : (id b : ℕ) (t : List ℕ) → id ≤ 4294967295 → (b ≡ code "K" → ⊥) → (b ≡ code "O" → ⊥) → (b ≡ code "N" → ⊥)
      → row_said (code "U" ∷ (be_bytes 4 id ++ (b ∷ t))) ≡ refused_by 27
  pub delete_letter : (id b : ℕ) (t : List ℕ) → id ≤ 4294967295 → (b ≡ code "K" → ⊥) → (b ≡ code "O" → ⊥)
      → row_said (code "D" ∷ (be_bytes 4 id ++ (b ∷ t))) ≡ refused_by 27
  pub new_letter : (id : ℕ) (which : Which) (old : List Cell) (b : ℕ) (t : List ℕ) → id ≤ 4294967295 → TupleFits old → (b ≡ code "N" → ⊥)
      → row_said (code "U" ∷ (be_bytes 4 id ++ (which_letter which ∷ (tuple_bytes old ++ (b ∷ t))))) ≡ refused_by 27
  -- the letter of a column, of any tuple, after any columns
  pub column_letter : (p : TuplePlace) → FrontFits p → (n : ℕ) (cs : List Cell) → n ≤ 32767 → All CellFits cs → length cs < n → (b : ℕ) (t : List ℕ)
      → (b ≡ code "n" → ⊥) → (b ≡ code "u" → ⊥) → (b ≡ code "t" → ⊥) → (b ≡ code "b" → ⊥)
      → row_said (front_bytes p ++ (be_bytes 2 n ++ (all_bytes cell_bytes cs ++ (b ∷ t)))) ≡ refused_by 27
  -- a negative count of any tuple, a negative length of any value, and the negative counts of a Relation and a Truncate
  pub tuple_count : (p : TuplePlace) → FrontFits p → (n : ℕ) (t : List ℕ) → 32768 ≤ n → n ≤ 65535
      → row_said (front_bytes p ++ (be_bytes 2 n ++ t)) ≡ refused_by 26
  pub value_length : (p : TuplePlace) → FrontFits p → (n : ℕ) (cs : List Cell) → n ≤ 32767 → All CellFits cs → length cs < n → (c k : ℕ) (t : List ℕ)
      → (c ≡ code "t") ⊎ (c ≡ code "b") → 2147483648 ≤ k → k ≤ 4294967295
      → row_said (front_bytes p ++ (be_bytes 2 n ++ (all_bytes cell_bytes cs ++ (c ∷ (be_bytes 4 k ++ t))))) ≡ refused_by 26
  pub relation_count : (id : ℕ) (space v : List ℕ) (identity n : ℕ) (t : List ℕ) → id ≤ 4294967295 → NoZero space → NoZero v → identity ≤ 255
      → 32768 ≤ n → n ≤ 65535
      → row_said (code "R" ∷ (be_bytes 4 id ++ (string_bytes space ++ (string_bytes v ++ (be_bytes 1 identity ++ (be_bytes 2 n ++ t)))))) ≡ refused_by 26
  pub truncate_count : (n : ℕ) (t : List ℕ) → 2147483648 ≤ n → n ≤ 4294967295 → row_said (code "T" ∷ (be_bytes 4 n ++ t)) ≡ refused_by 26

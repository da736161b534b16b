-- The cache on literal messages. Document 02, wish 4.
use Rattle.std.specs.Prelude.{◌≡◌, true, false, List, [], ◌∷◌, ℕ, zero, suc, replicate, negsuc}
use Rattle.rows.specs.Rows.{Described, described, relation, insert, update_from, truncate, null, row, refused_by, row_said}
use Rattle.rows.specs.RowCases.{a_relation}
use Rattle.rows.specs.declared.Which.TheVariants.{Key}
use Rattle.relations.specs.Cache.{column, is_key, Cache, judged_in, took}

-- n columns with names of k bytes
abbrev pub wide : ℕ → ℕ → List Described
wide n k = replicate {A = Described} n (described 1 (replicate {A = ℕ} k 97) 23 (negsuc 0))

-- so many relations, from an identifier on
abbrev pub filled : ℕ → ℕ → Cache
filled zero id = []
filled (suc n) id = (id, column (97 ∷ []) true 23 ∷ []) ∷ filled n (suc id)

pub record CacheCases : Type 0 where
  -- bit 0 of the flags: FE has it not, FF has
  pub flags_fe : is_key 254 ≡ false
  pub flags_ff : is_key 255 ≡ true
  -- 32 columns and 63 bytes pass, 33 and 64 do not; no columns and empty names pass
  pub most_columns : judged_in [] (relation 7 [] [] 0 (wide 32 63)) ≡ 0
  pub columns_33 : judged_in [] (relation 7 [] [] 0 (wide 33 1)) ≡ 29
  pub bytes_64 : judged_in [] (relation 7 [] [] 0 (wide 1 64)) ≡ 29
  pub no_columns : judged_in [] (relation 7 [] [] 0 []) ≡ 0
  -- 64 others are held: 28, also with 33 columns; one of these 64 is taken, and where 63 are held another is
  pub others_64 : judged_in (filled 64 100) (relation 7 [] [] 0 (wide 33 1)) ≡ 28
  pub one_of_64 : judged_in (filled 64 100) (relation 163 [] [] 0 (wide 1 1)) ≡ 0
  pub others_63 : judged_in (filled 63 100) (relation 7 [] [] 0 (wide 1 1)) ≡ 0
  -- rows of a relation with one column: not held, too many columns, too few in the old tuple alone, as many
  pub not_held : judged_in (filled 1 7) (insert 8 (null ∷ [])) ≡ 30
  pub too_many : judged_in (filled 1 7) (insert 7 (null ∷ null ∷ [])) ≡ 30
  pub old_short : judged_in (filled 1 7) (update_from 7 Key [] (null ∷ [])) ≡ 30
  pub as_many : judged_in (filled 1 7) (update_from 7 Key (null ∷ []) (null ∷ [])) ≡ 0
  -- a Truncate of a relation that is not held
  pub emptied_unheld : judged_in [] (truncate 0 (9 ∷ [])) ≡ 0
  -- a Relation by its bytes, on an empty cache; and a successor that is refused
  pub held_after : (took [] (row_said a_relation)).1 ≡ (5, column (0x63 ∷ []) false 0x17 ∷ []) ∷ []
  pub former_stays : took (filled 1 7) (row (relation 7 [] [] 0 (wide 1 64))) ≡ (refused_by 29, filled 1 7)

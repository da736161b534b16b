-- Words of a relation cache literally; what each word means over all values stands in crate `thm_word_meaning`. SCOPE 9.10.
use Rattle.std.specs.Prelude.{◌≡◌, refl, true, false, [], ◌∷◌}
use Rattle.std.proofs.Math.Option.{some, none}
use Rattle.packed_relations.specs.Words.{count_reply, column_words}

pub record WordCases : Type 0 where
  pub three_columns : count_reply (some 3) ≡ (1, 3)
  pub not_held : count_reply none ≡ (0, 0)
  -- a name of three bytes at place 2, of the key, with type 25
  pub key_column : column_words (some ((2, 3), true, 25)) ≡ 1 ∷ 2 ∷ 3 ∷ 1 ∷ 25 ∷ []
  pub other_column : column_words (some ((2, 3), false, 25)) ≡ 1 ∷ 2 ∷ 3 ∷ 0 ∷ 25 ∷ []
  pub no_column : column_words none ≡ 0 ∷ 0 ∷ 0 ∷ 0 ∷ 0 ∷ []

-- each by computing
pub word_cases : WordCases
word_cases = record { three_columns = refl; not_held = refl; key_column = refl; other_column = refl; no_column = refl }

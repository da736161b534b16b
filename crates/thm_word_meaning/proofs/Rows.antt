-- Each word about rows and of a relation cache means what specs/Rows.antt says.
use mathlib.Core.Path.{refl, ap, ◌∙◌}
use mathlib.Core.List.{List, [], ◌∷◌}
use Prim.Native.Nat.{ℕ, ◌+◌}
use lib.ListN.{length}
use Rattle.rows.specs.Layout.{Read, mapped}
use Rattle.rows.specs.Rows.{Cell, Described, row_said}
use Rattle.rows.specs.Head.{Answer, cell_at, described_at, answer_of}
use Rattle.packed_relations.specs.Packed.{emptied, message_of}
use Rattle.packed_relations.proofs.Alike.{refused_leaves_all}
use Rattle.rows.specs.Words.{row_reply, column_reply, description_reply, identifier_reply}
use Rattle.packed_relations.specs.Words as Cache
use Rattle.thm_word_meaning.specs.Rows.{HeadTold, RowWords, TupleWords, DescriptionWords, IdentifierWords, ItemsTold, CacheWords}
use Rattle.thm_word_meaning.proofs.OneWord.{flag_is, time_is}

-- ---- rows

head_told_lem : (a : Answer) → HeadTold a (row_reply a)
head_told_lem a =
    record {
      relation = λ id space_at space_len at len identity n i e. ap row_reply e;
      type = λ id space_at space_len at len e. ap row_reply e;
      origin = λ position at len e. ap row_reply e;
      insert = λ id n i e. ap row_reply e;
      update = λ id n i e. ap row_reply e;
      update_key = λ id m j n i e. ap row_reply e;
      update_old = λ id m j n i e. ap row_reply e;
      delete_key = λ id m j e. ap row_reply e;
      delete_old = λ id m j e. ap row_reply e;
      truncate = λ n options i e. ap row_reply e;
      no_row = λ e. ap row_reply e;
      refused = λ n e. ap row_reply e;
    }

pub row_words : RowWords
row_words s = head_told_lem (answer_of (row_said s))

tuple_words : (s : List ℕ) (i : ℕ) → TupleWords s i
tuple_words s i =
    record {
      is_null = λ next e. ap said e;
      is_unchanged = λ next e. ap said e;
      is_text = λ v next e. ap said e;
      is_binary = λ v next e. ap said e;
      is_refused = λ n e. ap said e;
    }
  where
    said : Read Cell → ℕ × List ℕ
    said x = column_reply (mapped (cell_at i) x)

description_words : (s : List ℕ) (i : ℕ) → DescriptionWords s i
description_words s i =
    record {
      told = λ flags v oid modifier next e. ap said e ∙ ap (λ (n : ℕ). (next, 0 ∷ flags ∷ (i + 1) ∷ length v ∷ oid ∷ n ∷ [])) (time_is modifier);
      is_refused = λ n e. ap said e;
    }
  where
    said : Read Described → ℕ × List ℕ
    said x = description_reply (mapped (described_at i) x)

identifier_words : (s : List ℕ) (i : ℕ) → IdentifierWords s i
identifier_words s i = record { told = λ id next e. ap identifier_reply e; is_refused = λ n e. ap identifier_reply e }

pub items_told : ItemsTold
items_told = record { column = tuple_words; description = description_words; identifier = identifier_words }

-- ---- a relation cache

pub cache_words : CacheWords
unfolding emptied
cache_words =
    record {
      message = λ m s. head_told_lem (message_of m (row_said s)).0;
      left = λ m s. refl;
      refused = λ m s n e. rw (e, refused_leaves_all m (row_said s) n e);
      held = λ held ids counts id n e. ap Cache.count_reply e;
      not_held = λ held ids counts id e. ap Cache.count_reply e;
      column = λ held ids counts words names id index at len key oid e. ap Cache.column_words e ∙ ap (λ (n : ℕ). 1 ∷ at ∷ len ∷ n ∷ oid ∷ []) (flag_is key);
      no_column = λ held ids counts words names id index e. ap Cache.column_words e;
      cleared = refl;
    }

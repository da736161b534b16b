-- What a caller sees of the packed memory after any messages, by the laws of the plain one. Document 02, wish 12; SCOPE 17.
use Rattle.std.specs.Prelude.{◌≡◌, true, List, ℕ, ◌≤◌, length}
use Rattle.std.proofs.Math.Option.{none}
use Rattle.std.proofs.Math.Pow.{are_bytes}
use Rattle.rows.specs.Rows.{row_said}
use Rattle.relations.specs.Memory.{count_in}
use Rattle.relations.specs.Laws.{named}
use Rattle.relations.specs.Seen.{Seen, HistoryLaws}
use Rattle.packed_relations.specs.Packed.{Packed, emptied, common, packed, words_of, message_of, column_told}
use Rattle.packed_relations.specs.Laws.{memory_after, AllBytes}

-- what the lookups answer
abbrev pub seen_in : Packed → Seen
seen_in p = record { count = count_in (common p); column = λ id k. named p.columns.names (column_told p id k) }

-- from an empty memory, which holds nothing, with room for all names each message of bytes does what the plain cache's laws say
pub record PackedLaws : Type 0 where
  pub empty_count : (names : List ℕ) (id : ℕ) → (seen_in (emptied names)).count id ≡ none
  pub empty_column : (names : List ℕ) (id k : ℕ) → (seen_in (emptied names)).column id k ≡ none
  pub from_empty : (names : List ℕ) → 129024 ≤ length names → (ss : List (List ℕ)) → AllBytes ss → (s : List ℕ) → are_bytes s ≡ true
      → HistoryLaws (λ ss. seen_in (memory_after (emptied names) ss)) (λ ss s. (message_of (memory_after (emptied names) ss) (row_said s)).0) ss s
  -- a column is looked up by the length of the names alone
  pub names_unread : (held : ℕ) (ids counts words names others : List ℕ) (id k : ℕ) → length names ≡ length others
      → column_told (packed held ids counts (words_of words names)) id k ≡ column_told (packed held ids counts (words_of words others)) id k

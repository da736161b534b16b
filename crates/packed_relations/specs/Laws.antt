-- What the packed memory is for: over any list of messages it answers as the former layout does, and so does every lookup in it. 02, wish 12; SCOPE
-- 17. Where the names have less room than the former layout has, that is so until a Relation is refused with 4.
use Rattle.std.specs.Prelude.{◌≡◌, true, List, [], ◌∷◌, ◌++◌, ◌⊎◌, ℕ, ◌<◌, ◌≤◌, min, length, take, drop}
use Rattle.std.proofs.Math.Pow.{are_bytes}
use Rattle.rows.specs.Rows.{Described, relation, Said, row, row_said}
use Rattle.rows.specs.Head.{Answer, head, head_of, refusal}
use Rattle.relations.specs.Cache.{Column, column, Cache}
use Rattle.relations.specs.Memory.{cache_of, count_in, message_of as former_message, emptied as former_emptied}
use Rattle.relations.specs.Answers.{column_told as former_told}
use Rattle.relations.specs.Laws.{Within, named, answers_on as former_answers, memory_after as former_after}
use Rattle.packed_relations.specs.Packed.{Packed, emptied, common, message_of, column_told}

-- ---- any list of messages, each call getting the memory as the last one left it

unfoldable pub answers_on : Packed → List (List ℕ) → List Answer
answers_on p [] = []
answers_on p (s ∷ ss) = (message_of p (row_said s)).0 ∷ answers_on (message_of p (row_said s)).1 ss

unfoldable pub memory_after : Packed → List (List ℕ) → Packed
memory_after p [] = p
memory_after p (s ∷ ss) = memory_after (message_of p (row_said s)).1 ss

-- messages are lists of bytes
unfoldable pub AllBytes : List (List ℕ) → Type 0
AllBytes [] = Unit
AllBytes (s ∷ ss) = (are_bytes s ≡ true) × AllBytes ss

-- none is refused with 4
unfoldable pub NoneCrowded : List Answer → Type 0
NoneCrowded [] = Unit
NoneCrowded (a ∷ others) = (a ≡ refusal 4 → ⊥) × NoneCrowded others

-- all bytes are lent that the former layout has for names, or no message found too few
abbrev pub Roomy : List ℕ → List (List ℕ) → Type 0
Roomy names ss = (129024 ≤ length names) ⊎ NoneCrowded (answers_on (emptied names) ss)

-- ---- the former layout's answers

-- from an empty cache, whatever bytes stand in the names, all answers are those of the former layout
abbrev pub AnswersAlike : Type 0
AnswersAlike = (names : List ℕ) (ss : List (List ℕ)) → AllBytes ss → Roomy names ss → answers_on (emptied names) ss ≡ former_answers former_emptied ss

-- after any list of messages every lookup answers the same, whatever identifier and index are asked for: how many columns there are, and of each the
-- bytes of its name, whether it is of the key, and its type
pub record LookupsAlike : Type 0 where
  pub count : (names : List ℕ) (ss : List (List ℕ)) → AllBytes ss → Roomy names ss → (id : ℕ)
      → count_in (common (memory_after (emptied names) ss)) id ≡ count_in (former_after former_emptied ss) id
  pub column : (names : List ℕ) (ss : List (List ℕ)) → AllBytes ss → Roomy names ss → (id k : ℕ)
      → named (memory_after (emptied names) ss).columns.names (column_told (memory_after (emptied names) ss) id k)
      ≡ named (former_after former_emptied ss).columns.names (former_told (former_after former_emptied ss) id k)

-- ---- where the names lie

-- the bytes of the names of columns, one after the other, and those of all relations that are held
unfoldable pub column_names : List Column → List ℕ
column_names [] = []
column_names (column v key oid ∷ cs) = v ++ column_names cs

unfoldable pub cache_names : Cache → List ℕ
cache_names [] = []
cache_names (one ∷ others) = column_names one.1 ++ cache_names others

-- after any list of messages the names that are held lie at the front, one behind the other in the order of slots and columns
abbrev pub NamesLie : Type 0
NamesLie =
    (names : List ℕ) (ss : List (List ℕ)) → AllBytes ss → Roomy names ss
    → let held : List ℕ = cache_names (cache_of (former_after former_emptied ss)) in
    take (length held) (memory_after (emptied names) ss).columns.names ≡ held

-- what stands behind them after a message stood there before it; a message that is refused with 4 leaves all (`RefusedLeavesAll`)
abbrev pub BehindStays : Type 0
BehindStays =
    (names : List ℕ) (ss : List (List ℕ)) → AllBytes ss → Roomy names ss → (s : List ℕ) → are_bytes s ≡ true
    → let p : Packed = memory_after (emptied names) ss in ((message_of p (row_said s)).0 ≡ refusal 4 → ⊥)
    → let held : List ℕ = cache_names (cache_of (former_message (former_after former_emptied ss) (row_said s)).1) in
    drop (length held) (message_of p (row_said s)).1.columns.names ≡ drop (length held) p.columns.names

-- ---- too little room

-- a Relation that the former layout takes is refused with 4 where the names of the relations that would then be held are longer than the names that
-- are lent, or than 129,024 bytes
abbrev pub Crowded : Type 0
Crowded =
    (names : List ℕ) (ss : List (List ℕ)) → AllBytes ss → Roomy names ss → (s : List ℕ) → are_bytes s ≡ true
    → (id : ℕ) (space v : List ℕ) (identity : ℕ) (ds : List Described) → row_said s ≡ row (relation id space v identity ds)
    → (former_message (former_after former_emptied ss) (row_said s)).0 ≡ head (head_of (relation id space v identity ds))
    → min (length names) 129024 < length (cache_names (cache_of (former_message (former_after former_emptied ss) (row_said s)).1))
    → (message_of (memory_after (emptied names) ss) (row_said s)).0 ≡ refusal 4

-- and only there: where they are not longer it is taken
abbrev pub Uncrowded : Type 0
Uncrowded =
    (names : List ℕ) (ss : List (List ℕ)) → AllBytes ss → Roomy names ss → (s : List ℕ) → are_bytes s ≡ true
    → (id : ℕ) (space v : List ℕ) (identity : ℕ) (ds : List Described) → row_said s ≡ row (relation id space v identity ds)
    → (former_message (former_after former_emptied ss) (row_said s)).0 ≡ head (head_of (relation id space v identity ds))
    → length (cache_names (cache_of (former_message (former_after former_emptied ss) (row_said s)).1)) ≤ min (length names) 129024
    → (message_of (memory_after (emptied names) ss) (row_said s)).0 ≡ head (head_of (relation id space v identity ds))

-- ---- any memory

-- whatever the memory is, the name of a column that is told lies in the names
abbrev pub ToldWithin : Type 0
ToldWithin = (p : Packed) (id k : ℕ) → Within (min (length p.columns.names) 129024) (column_told p id k)

-- a message that is refused, with whichever number, leaves the whole memory as it was, whatever it is
abbrev pub RefusedLeavesAll : Type 0
RefusedLeavesAll = (p : Packed) (said : Said) (n : ℕ) → (message_of p said).0 ≡ refusal n → (message_of p said).1 ≡ p

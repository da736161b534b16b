-- The query that opens a stream for any slot and any publications, as a server reads it: where it has a zero byte the text ends there, and a blank in
-- the slot ends the slot. PostgreSQL documentation, "Message Formats" (Query) and "Streaming Replication Protocol" (START_REPLICATION). SCOPE 5.2:
-- the slot stands as it was lent.
use Rattle.std.specs.Prelude.{◌≡◌, Bool, List, [], ◌∷◌, ◌++◌, map, ℕ, ◌+◌, ◌^◌, ◌<◌, length, eqb}
use Rattle.std.proofs.Math.Option.{some, none}
use Prim.Native.Char.{code}
use Rattle.std.specs.Borrow.{Bor}
use Rattle.wire.specs.Bytes.{pick}
use Rattle.wire.specs.Int.{half}
use Rattle.wire.specs.Find.{NoZero}
use Rattle.lsn.specs.declared.Lsn.{Lsn}
use Rattle.lsn.specs.Position.{display_of}
use Rattle.config.specs.OptionValue.{option_value}
use Rattle.text.specs.Ascii.{ascii, on_first}
use Rattle.config.specs.ReadBack.{with_commas}
use Rattle.frontend.specs.Frontend.{query}
use Rattle.frontend.specs.ReadBack.{query_of}
use Rattle.request.specs.Request.{start_replication}
use Rattle.request.specs.ReadBack.{Asked, asked_of, options, NoSpace}

-- ---- words

-- the words of a text, parted by blanks; two blanks have an empty word between them
unfoldable pub words_of : List ℕ → List (List ℕ)
words_of [] = [] ∷ []
words_of (c ∷ s) = pick (eqb c (code " ")) ([] ∷ words_of s) (on_first c (words_of s))

-- the words that are not empty
abbrev pub not_empty : List (List ℕ) → List (List ℕ)
not_empty [] = []
not_empty ([] ∷ ws) = not_empty ws
not_empty ((c ∷ w) ∷ ws) = (c ∷ w) ∷ not_empty ws

-- the tokens of a text: blanks, however many, part them
abbrev pub tokens_of : List ℕ → List (List ℕ)
tokens_of s = not_empty (words_of s)

-- no name has a zero byte
abbrev pub NoZeros : List (Bor (List ℕ)) → Type 0
NoZeros [] = Unit
NoZeros (n ∷ ns) = NoZero n.now × NoZeros ns

-- the text after the position
abbrev pub options_text : Bool → List (Bor (List ℕ)) → List ℕ
options_text binary names =
    ascii "(proto_version '1', publication_names '"
    ++ (option_value names ++ (ascii "', messages 'true'" ++ (pick binary (ascii ", binary 'true'") [] ++ ascii ")")))

pub record RequestLaws : Type 0 where
  -- without a zero byte in slot or publications, and without a blank in the slot, the server reads the whole text, and in it what was lent
  pub read : (binary : Bool) (slot : List ℕ) (names : List (Bor (List ℕ))) (p : Lsn) (rest : List ℕ) → NoSpace slot → NoZero slot → NoZeros names
      → p.0 < 2 ^ 64 → let text : List ℕ = start_replication binary slot names p in length text + 5 < half 4
      → (query_of (query text ++ rest) ≡ some (text, []))
      × (asked_of text ≡ some (record { slot = slot; position = (0, p.0); options = options binary (with_commas (map (λ x. x.now) names)) }))
  -- where the text has a zero byte, the server reads what stands before the first, and that is no such query
  pub cut : (binary : Bool) (slot : List ℕ) (names : List (Bor (List ℕ))) (p : Lsn) (seen hidden rest : List ℕ) → NoSpace slot → p.0 < 2 ^ 64
      → start_replication binary slot names p ≡ seen ++ (0 ∷ hidden) → NoZero seen → length (seen ++ (0 ∷ hidden)) + 5 < half 4
      → (query_of (query (start_replication binary slot names p) ++ rest) ≡ some (seen, hidden ++ (0 ∷ []))) × (asked_of seen ≡ none)
  -- in the slot: it ends with the slot's bytes before the zero byte
  pub slot_cut : (binary : Bool) (a b : List ℕ) (names : List (Bor (List ℕ))) (p : Lsn) → NoZero a
      → (hidden : List ℕ) × (start_replication binary (a ++ (0 ∷ b)) names p ≡ (ascii "START_REPLICATION SLOT " ++ a) ++ (0 ∷ hidden))
      × NoZero (ascii "START_REPLICATION SLOT " ++ a)
  -- of a slot with a blank the server takes no more than what stands before the blank, and unless LOGICAL follows the blank, it takes no query
  pub blank_slot : (binary : Bool) (a b : List ℕ) (names : List (Bor (List ℕ))) (p : Lsn) (x : Asked) → NoSpace a
      → asked_of (start_replication binary (a ++ (code " " ∷ b)) names p) ≡ some x → x.slot ≡ a
  pub blank_refused : (binary : Bool) (a b : List ℕ) (names : List (Bor (List ℕ))) (p : Lsn) → NoSpace a
      → ((t : List ℕ) → b ++ (code " " ∷ []) ≡ ascii "LOGICAL " ++ t → ⊥) → asked_of (start_replication binary (a ++ (code " " ∷ b)) names p) ≡ none
  -- the tokens, over all slots: those of the slot stand between SLOT and LOGICAL
  pub tokens : (binary : Bool) (slot : List ℕ) (names : List (Bor (List ℕ))) (p : Lsn)
      → tokens_of (start_replication binary slot names p)
      ≡ ascii "START_REPLICATION" ∷ ascii "SLOT" ∷ (tokens_of slot ++ (ascii "LOGICAL" ∷ display_of p.0 ∷ tokens_of (options_text binary names)))
  -- one where it has no blank, none where it is empty, and several where blanks part it
  pub one_token : (c : ℕ) (slot : List ℕ) → NoSpace (c ∷ slot) → tokens_of (c ∷ slot) ≡ (c ∷ slot) ∷ []
  pub no_token : tokens_of [] ≡ []
  pub more_tokens : (a b : List ℕ) → tokens_of (a ++ (code " " ∷ b)) ≡ tokens_of a ++ tokens_of b

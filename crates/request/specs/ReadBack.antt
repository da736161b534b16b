-- The query that opens a stream as a server reads it: PostgreSQL documentation, "Streaming Replication Protocol", START_REPLICATION SLOT
-- slot_name LOGICAL XXX/XXX [ ( option_name [ option_value ] [, ...] ) ]. SCOPE 5.2; 01, "Events and confirmations".
use Rattle.std.specs.Prelude.{◌≡◌, refl, Bool, true, false, List, [], ◌∷◌, map, ℕ, zero, suc, ◌^◌, ◌<◌, length, eqb}
use Rattle.std.proofs.Math.Option.{Option, some, none}
use Prim.Native.Char.{code}
use Rattle.std.specs.Borrow.{Bor}
use Rattle.wire.specs.Bytes.{pick}
use Rattle.wire.specs.Field.{and_then}
use Rattle.text.specs.Numeral.{numeral}
use Rattle.lsn.specs.declared.Lsn.{Lsn}
use Rattle.lsn.specs.Position.{position_of, display_of}
use Rattle.config.specs.OptionValue.{doubled, following, option_value}
use Rattle.text.specs.Ascii.{ascii}
use Rattle.config.specs.ReadBack.{with_byte, unquoted, with_commas, lent}
use Rattle.request.specs.Request.{start_replication}

-- ---- the reader

-- what follows a text that stands at the front
unfoldable pub rest_after : List ℕ → List ℕ → Option (List ℕ)
rest_after [] s = some s
rest_after (p ∷ ps) [] = none
rest_after (p ∷ ps) (c ∷ s) = pick (eqb c p) (rest_after ps s) none

-- a word: the bytes before the first space, and those after it
unfoldable pub word : List ℕ → Option (List ℕ × List ℕ)
word [] = none
word (c ∷ s) = pick (eqb c (code " ")) (some ([], s)) (with_byte c (word s))

-- after an option: the end of the list, with nothing after it, or a comma and the next option
abbrev pub next_by : Option (List ℕ) → Option (List ℕ) → (List ℕ → Option (List (List ℕ × List ℕ))) → Option (List (List ℕ × List ℕ))
next_by (some []) comma go = some []
next_by (some (c ∷ s)) comma go = none
next_by none none go = none
next_by none (some t) go = go t

-- options, each a name and a string literal, at most n
unfoldable pub options_from : ℕ → List ℕ → Option (List (List ℕ × List ℕ))
options_from zero s = none
options_from (suc n) s =
    and_then (word s) (λ name.
    and_then (rest_after (ascii "'") name.1) (λ t.
    and_then (unquoted t) (λ value.
    and_then (next_by (rest_after (ascii ")") value.1) (rest_after (ascii ", ") value.1) (options_from n)) (λ more.
    some ((name.0, value.0) ∷ more)))))

-- what is asked for: the slot, the position as `Lsn::parse` reads it, and the options in their order
pub record Asked : Type 0 where
  pub slot : List ℕ
  pub position : ℕ × ℕ
  pub options : List (List ℕ × List ℕ)

-- the same of a query's text, none where it is no such query
unfoldable pub asked_of : List ℕ → Option Asked
asked_of s =
    and_then (rest_after (ascii "START_REPLICATION SLOT ") s) (λ a.
    and_then (word a) (λ slot.
    and_then (rest_after (ascii "LOGICAL ") slot.1) (λ b.
    and_then (word b) (λ position.
    and_then (rest_after (ascii "(") position.1) (λ c.
    and_then (options_from (length c) c) (λ options.
    some (record { slot = slot.0; position = position_of position.0; options = options })))))))

-- ---- what is written is read back

-- the options: the last one only where binary is set
abbrev pub binary_option : Bool → List (List ℕ × List ℕ)
binary_option true = (ascii "binary", ascii "true") ∷ []
binary_option false = []

abbrev pub options : Bool → List ℕ → List (List ℕ × List ℕ)
options binary names =
    (ascii "proto_version", ascii "1") ∷ (ascii "publication_names", names) ∷ (ascii "messages", ascii "true") ∷ binary_option binary

-- no space stands in the text
abbrev pub NoSpace : List ℕ → Type 0
NoSpace [] = Unit
NoSpace (c ∷ s) = (c ≡ code " " → ⊥) × NoSpace s

-- the slot, the position, the names joined by commas and the binary part are read back, whatever bytes the names have
abbrev pub RequestReadBack : Type 0
RequestReadBack = (binary : Bool) (slot : List ℕ) (publications : List (Bor (List ℕ))) (position : Lsn) → NoSpace slot → position.0 < 2 ^ 64
    → asked_of (start_replication binary slot publications position)
    ≡ some (record { slot = slot; position = (0, position.0); options = options binary (with_commas (map (λ x. x.now) publications)) })

-- ---- queries byte by byte

pub record Cases : Type 0 where
  pub plain : start_replication false (ascii "s1") (lent "a" ∷ lent "b" ∷ []) (record { 0 = 0x16B374D848 })
      ≡ ascii "START_REPLICATION SLOT s1 LOGICAL 16/B374D848 (proto_version '1', publication_names 'a,b', messages 'true')"
  -- a quote in a name, binary set
  pub quote_in_name : start_replication true (ascii "s1") (lent "o'k" ∷ []) (record { 0 = 0 })
      ≡ ascii "START_REPLICATION SLOT s1 LOGICAL 0/0 (proto_version '1', publication_names 'o''k', messages 'true', binary 'true')"

-- they hold, by computing
pub cases : Cases
unfolding ascii doubled following option_value numeral display_of start_replication
cases = record { plain = refl; quote_in_name = refl }

-- The fields of an ErrorResponse: PostgreSQL documentation, "Message Formats" (ErrorResponse) and "Error and Notice Message Fields".
-- A field is a letter and a string that ends in a zero byte; a zero byte where a letter is due ends the message. SCOPE 2.4; 01,
-- "Texts and positions".
use Rattle.std.proofs.Math.Option.{Option, some, none}
use Rattle.std.specs.Prelude.{true, false, List, [], ◌∷◌, map, ℕ, zero, suc, ◌+◌, length, drop, get_or, set, eqb, ltb, Option as Answer, Some, None, Bool}
use Rattle.wire.specs.Bytes.{pick, at}
use Rattle.wire.specs.Find.{index_of}
use Rattle.messages.specs.declared.Field.{Field}

-- a field as it stands in the payload: its letter, where its value begins and how long that is
pub record Entry : Type 0 where
  pub letter : ℕ
  pub from : ℕ
  pub len : ℕ

-- an entry whose value ends at a zero byte, and what follows it; an unterminated field is not kept and ends the walk
abbrev pub kept : ℕ → ℕ → Option ℕ → (ℕ → List Entry) → List Entry
kept letter from none rest = []
kept letter from (some len) rest = record { letter = letter; from = from; len = len } ∷ rest len

-- the entries from place i on, of which s are the bytes, at most n
unfoldable pub entries_from : ℕ → ℕ → List ℕ → List Entry
entries_from zero i s = []
entries_from (suc n) i [] = []
entries_from (suc n) i (letter ∷ s) =
    pick (eqb letter 0) []
    (kept letter (i + 1) (index_of 0 s) (λ len. entries_from n (i + 1 + len + 1) (drop (len + 1) s)))

-- the entries of a payload, in their order
unfoldable pub entries_of : List ℕ → List Entry
entries_of payload = entries_from (length payload) 0 payload

-- a field that is not given
abbrev pub absent : Answer Field
absent = None

-- the field that an entry gives
abbrev pub entered : Entry → Answer Field
entered e = Some (record { from = e.from; len = e.len })

abbrev pub is_given : Answer Field → Bool
is_given (Some f) = true
is_given None = false

-- where a field begins and how long it is, 0 and 0 where it is not given
abbrev pub part_of : Answer Field → ℕ × ℕ
part_of (Some f) = (f.from, f.len)
part_of None = (0, 0)

-- the last entry of a letter wins
unfoldable pub last_of : ℕ → Answer Field → List Entry → Answer Field
last_of letter f [] = f
last_of letter f (e ∷ es) = last_of letter (pick (eqb e.letter letter) (entered e) f) es

-- the fifteen letters, in the order of the fields: S C M D H P W s t c d n F L R. Other letters are skipped
abbrev pub letters : List ℕ
letters = 83 ∷ 67 ∷ 77 ∷ 68 ∷ 72 ∷ 80 ∷ 87 ∷ 115 ∷ 116 ∷ 99 ∷ 100 ∷ 110 ∷ 70 ∷ 76 ∷ 82 ∷ []

-- the fifteen fields of a payload
unfoldable pub fields_of : List ℕ → List (Answer Field)
fields_of payload = map (λ letter. last_of letter absent (entries_of payload)) letters

-- the bytes that a field names in the payload
abbrev pub named : List ℕ → Answer Field → List ℕ
named payload f = at payload (part_of f).0 (part_of f).1

-- the field of an index, absent from 15 on
abbrev pub indexed : List (Answer Field) → ℕ → Answer Field
indexed fields i = pick (ltb i 15) (get_or fields i absent) absent

-- the fields with that of a place replaced
abbrev pub replaced : Option ℕ → Answer Field → List (Answer Field) → List (Answer Field)
replaced (some i) f fields = set fields i f
replaced none f fields = fields

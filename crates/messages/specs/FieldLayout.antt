-- The layout of an error's fields: PostgreSQL documentation, "Message Formats" (ErrorResponse). Each field is a Byte1, not zero, and a
-- String, which a zero byte ends; a zero byte where a letter is due ends them all. SCOPE 2.4; 01, "Texts and positions".
use Rattle.std.specs.Prelude.{◌≡◌, List, [], ◌∷◌, ◌++◌, map, ◌⊎◌, ℕ}
use Rattle.wire.specs.Bytes.{at}
use Rattle.wire.specs.Find.{NoZero}
use Rattle.messages.specs.Fields.{Entry, entries_of}

-- letters and values as they are sent
unfoldable pub encode : List (ℕ × List ℕ) → List ℕ
encode [] = []
encode (f ∷ fs) = f.0 ∷ (f.1 ++ (0 ∷ encode fs))

-- no letter is zero, nor a byte of a value
abbrev pub Sendable : List (ℕ × List ℕ) → Type 0
Sendable [] = Unit
Sendable (f ∷ fs) = (f.0 ≡ 0 → ⊥) × NoZero f.1 × Sendable fs

-- what ends the fields: nothing more, a zero byte where a letter is due, or a letter after which no zero byte stands
abbrev pub Ended : List ℕ → Type 0
Ended [] = Unit
Ended (b ∷ s) = (b ≡ 0) ⊎ ((b ≡ 0 → ⊥) × NoZero s)

-- the payload is these letters and values as they are sent, and what ends them
pub record Laid (payload : List ℕ) (fs : List (ℕ × List ℕ)) : Type 0 where
  pub sendable : Sendable fs
  pub rest : List ℕ
  pub whole : payload ≡ encode fs ++ rest
  pub ended : Ended rest

-- the letter of an entry, and the value that it names
abbrev pub said : List ℕ → Entry → ℕ × List ℕ
said payload e = (e.letter, at payload e.from e.len)

-- the letters and values of a payload's entries, in order
unfoldable pub fields_read : List ℕ → List (ℕ × List ℕ)
fields_read payload = map (said payload) (entries_of payload)

-- what is read from a payload is how it is laid out
abbrev pub ReadIsLaid : Type 0
ReadIsLaid = (payload : List ℕ) → Laid payload (fields_read payload)

-- a payload is laid out in one way only
abbrev pub LaidIsRead : Type 0
LaidIsRead = (payload : List ℕ) (fs : List (ℕ × List ℕ)) → Laid payload fs → fields_read payload ≡ fs

-- so what is sent, ended by a zero byte, is read back, whatever follows
abbrev pub SentIsRead : Type 0
SentIsRead = (fs : List (ℕ × List ℕ)) (surplus : List ℕ) → Sendable fs → fields_read (encode fs ++ (0 ∷ surplus)) ≡ fs

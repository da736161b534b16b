-- What a read of the server's messages leaves, as words. SCOPE 9.4, 3.3.
use Rattle.std.specs.Prelude.{ℕ, Bool, List, [], ◌∷◌}
use Rattle.framing.specs.declared.MessageReader.{MessageReader}
use Rattle.framing.specs.Read.{Said, more, whole, refused, Result, read_of}
use Rattle.ffi_words.specs.Words.{reader_of, reader_words}

-- refusal, taken, whether a message is whole, its tag, its payload's length
abbrev pub read_words : Said → ℕ → List ℕ
read_words more taken = 0 ∷ taken ∷ 0 ∷ 0 ∷ 0 ∷ []
read_words (whole tag n) taken = 0 ∷ taken ∷ 1 ∷ tag ∷ n ∷ []
read_words (refused number) taken = number ∷ taken ∷ 0 ∷ 0 ∷ 0 ∷ []

-- words, and the reader that they stand for
abbrev pub ReaderStanding : Type 0
ReaderStanding = List ℕ × MessageReader

-- any words stand for some reader
abbrev pub reader_standing : List ℕ → ReaderStanding
reader_standing w = (w, reader_of w)

-- reader, answer and payload buffer after a read; the reader's words stand for it
abbrev pub read_leaves : Result → ReaderStanding × List ℕ × List ℕ
read_leaves x = ((reader_words x.1, x.1), read_words x.0 x.2, x.3)

-- `rufflesquash_read`, with the limit's setting, the unread bytes, whether the input has ended, and a payload buffer
abbrev pub read_call : List ℕ → ℕ → List ℕ → Bool → List ℕ → ReaderStanding × List ℕ × List ℕ
read_call w limit unread ended payload = read_leaves (read_of limit (reader_of w) unread ended payload)

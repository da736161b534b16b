-- Parts lie in what was lent: the place and the length that a call answers, whatever the payload is. SCOPE 9.5.
use Rattle.std.specs.Prelude.{ℕ, ◌+◌, ◌≤◌, Bool, List, length}
use Rattle.framing.specs.Read as F
use Rattle.framing.specs.Read.{read_of}
use Rattle.framing.specs.declared.MessageReader.{MessageReader}
use Rattle.ffi_answers.specs.Parts.{auth_request_call, data_column_call, error_field_call}
use Rattle.thm_host_calls.specs.HostWords.{word}

-- a part of a payload
abbrev pub PartWithin : List ℕ → ℕ → ℕ → Type 0
PartWithin payload place len = place + len ≤ length payload

-- the rest of an authentication request
abbrev pub AuthIsWithin : Type 0
AuthIsWithin = (payload : List ℕ) → let w = auth_request_call payload in PartWithin payload (word w 2) (word w 3)

-- a column's value
abbrev pub ColumnIsWithin : Type 0
ColumnIsWithin = (payload : List ℕ) (i : ℕ) → let w = (data_column_call payload i).1 in PartWithin payload (word w 1) (word w 2)

-- a field of an error
abbrev pub FieldIsWithin : Type 0
FieldIsWithin = (payload : List ℕ) (i : ℕ) → let w = error_field_call payload i in PartWithin payload (word w 1) (word w 2)

-- a whole message's payload
abbrev pub MessageWithin : ℕ → F.Said → Type 0
MessageWithin n F.more = Unit {0}
MessageWithin n (F.whole tag len) = len ≤ n
MessageWithin n (F.refused number) = Unit {0}

abbrev pub MessageIsWithin : Type 0
MessageIsWithin =
    (setting : ℕ) (r : MessageReader) (u : List ℕ) (e : Bool) (p : List ℕ) → MessageWithin (length p) (read_of setting r u e p).0

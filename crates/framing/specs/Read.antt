-- One read of the Rust's `MessageReader::read`, with refusals 3 and 6 to 9. SCOPE 3.2, 3.3, 3.4; 01, "Messages".
use Rattle.std.specs.Prelude.{ℕ, ◌+◌, ◌-◌, min, Bool, true, false, List, [], ◌∷◌, length, get_or, take, drop, ltb, leb, eqb, Ok, Err, Some, None}
use Rattle.std.specs.Prelude.{Result as Answer, Option as Maybe}
use Rattle.wire.specs.Bytes.{pick, put}
use Rattle.wire.specs.Int.{is_negative}
use Rattle.frames.specs.Message.{length_field}
use Rattle.error.specs.Refusal.{number_of}
use Rattle.framing.specs.declared.MessageReader.{MessageReader}
use Rattle.error.specs.declared.Refusal.{Refusal}
use Rattle.framing.specs.declared.Whole.{Whole}

-- what an answer says: more bytes are needed; a message is whole, its tag and its payload's length; or 01's number of a refusal
pub data Said : Type 0 where
  more : Said
  whole : ℕ → ℕ → Said
  refused : ℕ → Said

abbrev pub said_by : Answer (Maybe Whole) Refusal → Said
said_by (Ok None) = more
said_by (Ok (Some w)) = whole w.tag w.len
said_by (Err r) = refused (number_of r)

-- the limit: the setting, and at most 1 GiB
abbrev pub limit_of : ℕ → ℕ
limit_of setting = min setting 1073741824

abbrev pub zeros : List ℕ
zeros = 0 ∷ 0 ∷ 0 ∷ 0 ∷ 0 ∷ []

-- a reader at the beginning of a message
abbrev pub fresh : MessageReader
fresh = record { header = zeros; filled = 0; payload_len = 0; refused = false }

-- a reader that remembers refusal 7
abbrev pub shut : MessageReader
shut = record { header = zeros; filled = 0; payload_len = 0; refused = true }

-- a reader with these header bytes, so many bytes of the message, and a payload of n
abbrev pub at_byte : List ℕ → ℕ → ℕ → MessageReader
at_byte h filled n = record { header = h; filled = filled; payload_len = n; refused = false }

-- the answer, the reader, how many bytes were taken, and the payload buffer
abbrev pub Result : Type 0
Result = Said × MessageReader × ℕ × List ℕ

-- k bytes were taken before
abbrev pub after_taking : ℕ → Result → Result
after_taking k s = (s.0, s.1, k + s.2, s.3)

-- an unfinished message with so many bytes unread: the input's end counts only where there are none
abbrev pub unfinished : ℕ → ℕ → Bool → Said
unfinished n unread e = pick (eqb unread 0) (pick e (refused n) more) more

-- the payload bytes that the message lacks, put into the buffer after those that are there. A reader that no call made is held to the buffer's
-- length
unfoldable pub payload_of : MessageReader → List ℕ → Bool → List ℕ → Result
payload_of r u e p =
    let n : ℕ = min r.payload_len (length p) in
    let have : ℕ = r.filled - 5 in
    let tag : ℕ = get_or r.header 0 0 in
    let k : ℕ = min (n - have) (length u) in
    pick (leb n have) (whole tag n, fresh, 0, p)
    (pick (ltb (have + k) n) (unfinished 9 (length u) e, at_byte r.header (r.filled + k) r.payload_len, k, put p have (take k u))
    (whole tag n, fresh, k, put p have (take k u)))

-- a whole header: its length is judged, and the payload begins. Bytes were read in this call, so the input's end does not count
unfoldable pub judged_of : ℕ → List ℕ → List ℕ → List ℕ → Result
judged_of limit h u p =
    let n : ℕ = length_field h in
    pick (is_negative 4 n) (refused 6, fresh, 0, p)
    (pick (ltb n 4) (refused 6, fresh, 0, p)
    (pick (ltb limit (n - 4)) (refused 7, shut, 0, p)
    (payload_of (at_byte h 5 (n - 4)) u false p)))

-- the header bytes that the message lacks
unfoldable pub header_of : ℕ → MessageReader → List ℕ → Bool → List ℕ → Result
header_of limit r u e p =
    let k : ℕ = min (5 - r.filled) (length u) in
    let h : List ℕ = put r.header r.filled (take k u) in
    pick (ltb (r.filled + k) 5) (unfinished 8 (length u) e, at_byte h (r.filled + k) r.payload_len, k, p)
    (after_taking k (judged_of limit h (drop k u) p))

-- a read of the unread bytes u, with a setting of the limit: 3, then a remembered 7, then what the message lacks
unfoldable pub read_of : ℕ → MessageReader → List ℕ → Bool → List ℕ → Result
read_of setting r u e p =
    pick (ltb (length p) (limit_of setting)) (refused 3, r, 0, p)
    (pick r.refused (refused 7, r, 0, p)
    (pick (ltb r.filled 5) (header_of (limit_of setting) r u e p) (payload_of r u e p)))

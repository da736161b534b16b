-- The layout of a message: PostgreSQL documentation, "Message Formats". A tag byte, a 32-bit length that counts itself and not the tag, and
-- that many bytes less four. That the length is signed is 01's and the Rust's reading; the documentation's Int32 is an n-bit integer.
-- SCOPE 3.1; 01, "Messages".
use Rattle.std.specs.Prelude.{ℕ, ◌+◌, ◌-◌, List, ◌∷◌, ◌++◌, length, get_or, ltb}
use Rattle.wire.specs.Bytes.{pick, at, be, be_bytes}
use Rattle.wire.specs.Int.{is_negative}

-- the bytes of a message
unfoldable pub framed : ℕ → List ℕ → List ℕ
framed tag payload = tag ∷ (be_bytes 4 (length payload + 4) ++ payload)

-- what stands at the front of a stream
pub data Front : Type 0 where
  -- less than a message: the header is not there whole, or the payload
  in_header in_payload : Front
  -- a length below 4, negative ones too (6)
  bad_length : Front
  -- a payload over the limit (7)
  too_large : Front
  -- a whole message: its tag and its payload's length
  whole : ℕ → ℕ → Front

-- the number in a length field
abbrev pub length_field : List ℕ → ℕ
length_field s = be (at s 1 4)

-- what stands at the front of a stream with a whole header, by its length field
abbrev pub front_by : ℕ → List ℕ → ℕ → Front
front_by limit s n =
    pick (is_negative 4 n) bad_length
    (pick (ltb n 4) bad_length
    (pick (ltb limit (n - 4)) too_large
    (pick (ltb (length s) (n + 1)) in_payload
    (whole (get_or s 0 0) (n - 4)))))

-- what stands at the front: by the length field, once the five bytes of the header are there
unfoldable pub front_of : ℕ → List ℕ → Front
front_of limit s = pick (ltb (length s) 5) in_header (front_by limit s (length_field s))

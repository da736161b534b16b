-- What holds of every read, the limit at its edges, and reads byte by byte. SCOPE 3.2, 3.3, 3.4; 01, "Messages".
use Rattle.std.specs.Prelude.{◌≡◌, refl, Bool, true, false, List, [], ◌∷◌, ℕ, ◌≤◌, ◌<◌, length}
use Rattle.wire.specs.Bytes.{be, be_from, put}
use Rattle.framing.specs.declared.MessageReader.{MessageReader}
use Rattle.framing.specs.Read.{more, whole, refused, limit_of, fresh, shut, Result, payload_of, judged_of, header_of, read_of}

-- a read with a buffer shorter than the limit is refused with 3, and the reader forgets nothing: header bytes, filled mark and length are as
-- they were, no byte is taken, and the buffer is untouched
abbrev pub ShortBufferIsRefused : Type 0
ShortBufferIsRefused = (setting : ℕ) (r : MessageReader) (u : List ℕ) (e : Bool) (p : List ℕ) → length p < limit_of setting
    → read_of setting r u e p ≡ (refused 3, r, 0, p)

-- the payload of a whole message lies in the buffer
abbrev pub WholeIsWithin : Type 0
WholeIsWithin = (setting : ℕ) (r : MessageReader) (u : List ℕ) (e : Bool) (p : List ℕ) (tag n : ℕ) → (read_of setting r u e p).0 ≡ whole tag n
    → n ≤ length p

-- a reader in the middle of a header, and one in the middle of a payload of three bytes
abbrev pub in_header : MessageReader
in_header = record { header = 0x64 ∷ 0 ∷ 0 ∷ 0 ∷ 0 ∷ []; filled = 4; payload_len = 0; refused = false }

abbrev pub in_payload : MessageReader
in_payload = record { header = 0x64 ∷ 0 ∷ 0 ∷ 0 ∷ 7 ∷ []; filled = 6; payload_len = 3; refused = false }

-- a buffer of four bytes, which is the limit
abbrev pub buffer : List ℕ
buffer = 9 ∷ 9 ∷ 9 ∷ 9 ∷ []

-- a read with a limit of four bytes
abbrev pub reading : MessageReader → List ℕ → Bool → Result
reading r u e = read_of 4 r u e buffer

pub record Cases : Type 0 where
  -- the limit: the setting up to 1 GiB, and 1 GiB above that
  pub no_limit : limit_of 0 ≡ 0
  pub small_limit : limit_of 1000 ≡ 1000
  pub below_most : limit_of 1_073_741_823 ≡ 1_073_741_823
  pub most : limit_of 1_073_741_824 ≡ 1_073_741_824
  pub above_most : limit_of 1_073_741_825 ≡ 1_073_741_824
  pub any_setting : limit_of 0xFFFF_FFFF_FFFF_FFFF ≡ 1_073_741_824
  -- a message, and one without a payload
  pub a_message : reading fresh (0x64 ∷ 0 ∷ 0 ∷ 0 ∷ 6 ∷ 0x41 ∷ 0x42 ∷ 0x43 ∷ []) false ≡ (whole 0x64 2, fresh, 7, 0x41 ∷ 0x42 ∷ 9 ∷ 9 ∷ [])
  pub empty_message : reading in_header (4 ∷ 0x41 ∷ []) true ≡ (whole 0x64 0, fresh, 1, buffer)
  -- a payload of the limit itself
  pub of_limit : reading fresh (0x64 ∷ 0 ∷ 0 ∷ 0 ∷ 8 ∷ 1 ∷ 2 ∷ 3 ∷ 4 ∷ []) false ≡ (whole 0x64 4, fresh, 9, 1 ∷ 2 ∷ 3 ∷ 4 ∷ [])
  -- the payload goes on at the filled mark, and the front is untouched
  pub from_mark : reading in_payload (0x42 ∷ 0x43 ∷ 0x44 ∷ []) false ≡ (whole 0x64 3, fresh, 2, 9 ∷ 0x42 ∷ 0x43 ∷ 9 ∷ [])
  -- 6: a length of 3, and a negative one; what the header lacked is taken
  pub three : reading in_header (3 ∷ 0x41 ∷ []) false ≡ (refused 6, fresh, 1, buffer)
  pub negative : reading fresh (0x64 ∷ 0xFF ∷ 0xFF ∷ 0xFF ∷ 0xFF ∷ []) false ≡ (refused 6, fresh, 5, buffer)
  -- 7: a payload of one byte more than the limit; every later read repeats it and takes nothing
  pub over : reading in_header (9 ∷ 0x41 ∷ []) false ≡ (refused 7, shut, 1, buffer)
  pub over_again : reading shut (0x41 ∷ []) false ≡ (refused 7, shut, 0, buffer)
  -- 8: the input ended in a header, also before its first byte
  pub ended_before : reading fresh [] true ≡ (refused 8, fresh, 0, buffer)
  pub ended_in_header : reading in_header [] true ≡ (refused 8, in_header, 0, buffer)
  -- 9: the input ended in a payload
  pub ended_in_payload : reading in_payload [] true ≡ (refused 9, in_payload, 0, buffer)
  -- the end does not count where a byte is unread, nor before it
  pub not_yet : (reading in_payload (0x42 ∷ []) true).0 ≡ more
  pub not_ended : reading in_payload [] false ≡ (more, in_payload, 0, buffer)

-- they hold, by computing
pub cases : Cases
unfolding be be_from put payload_of judged_of header_of read_of
cases =
    record {
      no_limit = refl;
      small_limit = refl;
      below_most = refl;
      most = refl;
      above_most = refl;
      any_setting = refl;
      a_message = refl;
      empty_message = refl;
      of_limit = refl;
      from_mark = refl;
      three = refl;
      negative = refl;
      over = refl;
      over_again = refl;
      ended_before = refl;
      ended_in_header = refl;
      ended_in_payload = refl;
      not_yet = refl;
      not_ended = refl;
    }

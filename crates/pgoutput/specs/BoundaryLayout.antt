-- The layout of Begin, Commit and Message, both ways: what is sent is read as what it says, whatever follows, and what is read was sent so. Positions
-- are below 2 ^ 64, a time is a signed number of 64 bits, data are bytes. SCOPE 3.9.
use Rattle.std.specs.Prelude.{◌≡◌, Bool, true, List, ◌++◌, ℕ, ◌+◌, ◌%◌, ◌<◌, ◌^◌, length, ℤ, eqb}
use Rattle.std.specs.Int.Signed.{mag}
use Rattle.std.proofs.Math.Pow.{are_bytes}
use Rattle.wire.specs.Bytes.{at}
use Rattle.wire.specs.Find.{NoZero}
use Rattle.pgoutput.specs.Boundary.{begin, commit, message, boundary_of, begin_bytes, commit_bytes, message_bytes}

-- ---- Begin

-- every Begin is read as its values
abbrev pub BeginIsRead : Type 0
BeginIsRead =
    (final : ℕ) (time : ℤ) (xid : ℕ) (surplus : List ℕ) → final < 2 ^ 64 → mag time < 2 ^ 63 → xid < 2 ^ 32
    → boundary_of (begin_bytes final time xid ++ surplus) ≡ begin final time xid

-- the data are the Begin of these values and a surplus
pub record SentBegin (s : List ℕ) (final : ℕ) (time : ℤ) (xid : ℕ) : Type 0 where
  pub final_fits : final < 2 ^ 64
  pub time_fits : mag time < 2 ^ 63
  pub xid_fits : xid < 2 ^ 32
  pub surplus : List ℕ
  pub whole : s ≡ begin_bytes final time xid ++ surplus

-- what is read as Begin was sent so
abbrev pub ReadIsBegin : Type 0
ReadIsBegin = (s : List ℕ) (final : ℕ) (time : ℤ) (xid : ℕ) → are_bytes s ≡ true → boundary_of s ≡ begin final time xid → SentBegin s final time xid

-- ---- Commit, whose flags are a byte that is not told

-- every Commit is read as its values
abbrev pub CommitIsRead : Type 0
CommitIsRead =
    (flags position end : ℕ) (time : ℤ) (surplus : List ℕ) → flags < 256 → position < 2 ^ 64 → end < 2 ^ 64 → mag time < 2 ^ 63
    → boundary_of (commit_bytes flags position end time ++ surplus) ≡ commit position end time

-- the data are the Commit of these values and a surplus
pub record SentCommit (s : List ℕ) (position end : ℕ) (time : ℤ) : Type 0 where
  pub flags : ℕ
  pub flags_fit : flags < 256
  pub position_fits : position < 2 ^ 64
  pub end_fits : end < 2 ^ 64
  pub time_fits : mag time < 2 ^ 63
  pub surplus : List ℕ
  pub whole : s ≡ commit_bytes flags position end time ++ surplus

-- what is read as Commit was sent so
abbrev pub ReadIsCommit : Type 0
ReadIsCommit =
    (s : List ℕ) (position end : ℕ) (time : ℤ) → are_bytes s ≡ true → boundary_of s ≡ commit position end time → SentCommit s position end time

-- ---- Message, of whose flags bit 0 is told

-- the data are read as the message, and the parts that are named are its prefix and its content
pub record ReadMessage (s : List ℕ) (flag : Bool) (position : ℕ) (prefix content : List ℕ) : Type 0 where
  pub said : boundary_of s ≡ message flag position 10 (length prefix) (10 + length prefix + 1 + 4) (length content)
  pub prefix_there : at s 10 (length prefix) ≡ prefix
  pub content_there : at s (10 + length prefix + 1 + 4) (length content) ≡ content

-- every Message is read so
abbrev pub MessageIsRead : Type 0
MessageIsRead =
    (flags position : ℕ) (prefix content surplus : List ℕ) → flags < 256 → position < 2 ^ 64 → NoZero prefix → length content < 2 ^ 31
    → ReadMessage (message_bytes flags position prefix content ++ surplus) (eqb (flags % 2) 1) position prefix content

-- the data are the Message of these values, with flags of which bit 0 is the flag, and a surplus
pub record SentMessage (s : List ℕ) (flag : Bool) (position : ℕ) (prefix content : List ℕ) : Type 0 where
  pub flags : ℕ
  pub flags_fit : flags < 256
  pub flag_is : flag ≡ eqb (flags % 2) 1
  pub position_fits : position < 2 ^ 64
  pub no_zero : NoZero prefix
  pub content_fits : length content < 2 ^ 31
  pub surplus : List ℕ
  pub whole : s ≡ message_bytes flags position prefix content ++ surplus

-- what is read as Message was sent so, and the parts that are named lie within the data
abbrev pub ReadIsMessage : Type 0
ReadIsMessage =
    (s : List ℕ) (flag : Bool) (position pf pl cf cl : ℕ) → are_bytes s ≡ true → boundary_of s ≡ message flag position pf pl cf cl
    → (length (at s pf pl) ≡ pl) × (length (at s cf cl) ≡ cl) × SentMessage s flag position (at s pf pl) (at s cf cl)

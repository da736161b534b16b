-- A second reading of the generator: xorshift by its bits, the draws of a seed as one list, the messages that are cut from that list, their bytes
-- place by place, and what a call answers. It shares no definition with Xorshift.antt and Load.antt. SCOPE 16.1; document 02, wish 13.
use Rattle.std.specs.Prelude.{◌≡◌, true, false, List, [], ◌∷◌, ◌++◌, ℕ, ◌+◌, ◌/◌, ◌%◌, ◌^◌, ◌≤◌, ◌<◌, length, replicate}
use Rattle.wire.specs.Bytes.{be}
use Rattle.load.specs.declared.Message.{Message}
use Rattle.load.specs.declared.Message.TheVariants.{KeepAlive, Begin, Data, Commit}
use Rattle.load.specs.declared.Made.{Made}
use Rattle.load.specs.Xorshift.{next_of}
use Rattle.load.specs.Load.{made_of, bytes_of, messages_of, stream_of, loading}

-- ---- xorshift

-- bit i of a number, bit 0 the lowest
abbrev pub bit_at : ℕ → ℕ → ℕ
bit_at i x = x / 2 ^ i % 2

-- y is x exclusive-or x shifted to the left by k, in 64 bits: the k lowest bits stay, and bit i is added, without a carry, to bit i + k
pub record XorLeft (k x y : ℕ) : Type 0 where
  pub fits : y < 2 ^ 64
  pub stay : (i : ℕ) → i < k → bit_at i y ≡ bit_at i x
  pub meet : (i : ℕ) → i + k < 64 → bit_at (i + k) y ≡ (bit_at (i + k) x + bit_at i x) % 2

-- y is x exclusive-or x shifted to the right by k: the k highest bits stay, and bit i + k is added to bit i
pub record XorRight (k x y : ℕ) : Type 0 where
  pub fits : y < 2 ^ 64
  pub stay : (i : ℕ) → 64 ≤ i + k → i < 64 → bit_at i y ≡ bit_at i x
  pub meet : (i : ℕ) → i + k < 64 → bit_at i y ≡ (bit_at i x + bit_at (i + k) x) % 2

-- y is drawn from x: left 13, right 7, left 17
pub record DrawnFrom (x y : ℕ) : Type 0 where
  pub a : ℕ
  pub b : ℕ
  pub left_13 : XorLeft 13 x a
  pub right_7 : XorRight 7 a b
  pub left_17 : XorLeft 17 b y

-- the definition draws that number and no other, from every state of 64 bits
abbrev pub NextIsByBits : Type 0
NextIsByBits = (x y : ℕ) → x < 2 ^ 64 → (next_of x ≡ y → DrawnFrom x y) × (DrawnFrom x y → next_of x ≡ y)

-- ---- the draws of a seed, and the messages that are cut from them

-- numbers that are drawn from a state one after the other; the state itself is no draw
pub data Draws : ℕ → List ℕ → Type 0 where
  no_draw : {s : ℕ} → Draws s []
  a_draw : {s y : ℕ} {ys : List ℕ} → DrawnFrom s y → Draws y ys → Draws s (y ∷ ys)

-- numbers cut into messages from the first to the last, without a gap: the first of each chooses its kind, the others are its fields in wire order,
-- of an xid the 32 lowest bits; a reply is the lowest bit of a last one, and how many letters there are a last one modulo 64
pub data CutInto : List ℕ → List Message → Type 0 where
  all_cut : CutInto [] []
  a_keepalive : {kind end last : ℕ} {ns : List ℕ} {ms : List Message} → kind % 4 ≡ 0 → last % 2 ≡ 0 → CutInto ns ms
      → CutInto (kind ∷ end ∷ last ∷ ns) (KeepAlive end false ∷ ms)
  a_request : {kind end last : ℕ} {ns : List ℕ} {ms : List Message} → kind % 4 ≡ 0 → last % 2 ≡ 1 → CutInto ns ms
      → CutInto (kind ∷ end ∷ last ∷ ns) (KeepAlive end true ∷ ms)
  a_begin : {kind start end final last : ℕ} {ns : List ℕ} {ms : List Message} → kind % 4 ≡ 1 → CutInto ns ms
      → CutInto (kind ∷ start ∷ end ∷ final ∷ last ∷ ns) (Begin start end final (last % 4294967296) ∷ ms)
  other_data : {kind start end last : ℕ} {ns : List ℕ} {ms : List Message} → kind % 4 ≡ 2 → CutInto ns ms
      → CutInto (kind ∷ start ∷ end ∷ last ∷ ns) (Data start end (last % 64) ∷ ms)
  a_commit : {kind start end position last : ℕ} {ns : List ℕ} {ms : List Message} → kind % 4 ≡ 3 → CutInto ns ms
      → CutInto (kind ∷ start ∷ end ∷ position ∷ last ∷ ns) (Commit start end position last ∷ ms)

-- messages that are cut from the first draws of a seed
pub record CutFrom (seed : ℕ) (ms : List Message) : Type 0 where
  pub numbers : List ℕ
  pub drawn_so : Draws seed numbers
  pub cut_so : CutInto numbers ms

-- the n messages of a seed are those n that are cut from its draws, and no others
abbrev pub MessagesAreCut : Type 0
MessagesAreCut =
    (seed n : ℕ) (ms : List Message) → seed < 2 ^ 64
    → (messages_of n seed ≡ ms → CutFrom seed ms × (length ms ≡ n)) × (CutFrom seed ms → length ms ≡ n → messages_of n seed ≡ ms)

-- one message is cut from the draws of a state, and its last draw is the next state
pub record MadeFrom (s : ℕ) (m : Made) : Type 0 where
  pub before : List ℕ
  pub drawn_so : Draws s (before ++ (m.state ∷ []))
  pub cut_so : CutInto (before ++ (m.state ∷ [])) (m.message ∷ [])

-- so is every message with its next state. From state 0, which is no seed, a keepalive of end 0 without a request is made, and state 0 again
abbrev pub MadeIsCut : Type 0
MadeIsCut = (s : ℕ) (m : Made) → s < 2 ^ 64 → (made_of s ≡ m → MadeFrom s m) × (MadeFrom s m → made_of s ≡ m)

-- ---- bytes

-- the 8 bytes of a position, the highest first
abbrev pub eight : ℕ → List ℕ
eight v =
    v / 72057594037927936 % 256 ∷ v / 281474976710656 % 256 ∷ v / 1099511627776 % 256 ∷ v / 4294967296 % 256 ∷ v / 16777216 % 256 ∷ v / 65536 % 256
    ∷ v / 256 % 256 ∷ v % 256 ∷ []

-- the 4 bytes of a length or an xid
abbrev pub four : ℕ → List ℕ
four v = v / 16777216 % 256 ∷ v / 65536 % 256 ∷ v / 256 % 256 ∷ v % 256 ∷ []

-- a time of 0
abbrev pub no_time : List ℕ
no_time = 0 ∷ 0 ∷ 0 ∷ 0 ∷ 0 ∷ 0 ∷ 0 ∷ 0 ∷ []

-- the bytes of a field spell its value: 8 bytes every position, 4 bytes every length and xid
abbrev pub FieldsAreSpelled : Type 0
FieldsAreSpelled = (v : ℕ) → (v < 2 ^ 64 → be (eight v) ≡ v) × (v < 2 ^ 32 → be (four v) ≡ v)

-- `d`, the length of all that follows and itself, and the payload: `k` with end, time and reply, or `w` with start, end and time before its data,
-- which are `B` with the final position, time and xid, `I` and letters `A`, or `C` with flags, position, end and time (PostgreSQL, "Streaming
-- Replication Protocol" and "Logical Replication Message Formats")
pub data Laid : Message → List ℕ → Type 0 where
  keepalive_laid : (end : ℕ) → Laid (KeepAlive end false) (100 ∷ (four 22 ++ (107 ∷ (eight end ++ (no_time ++ (0 ∷ []))))))
  request_laid : (end : ℕ) → Laid (KeepAlive end true) (100 ∷ (four 22 ++ (107 ∷ (eight end ++ (no_time ++ (1 ∷ []))))))
  begin_laid : (start end final xid : ℕ)
      → Laid (Begin start end final xid)
      (100 ∷ (four 50 ++ (119 ∷ (eight start ++ (eight end ++ (no_time ++ (66 ∷ (eight final ++ (no_time ++ four xid)))))))))
  data_laid : (start end letters : ℕ)
      → Laid (Data start end letters)
      (100 ∷ (four (30 + letters) ++ (119 ∷ (eight start ++ (eight end ++ (no_time ++ (73 ∷ replicate letters 65)))))))
  commit_laid : (start end position commit_end : ℕ)
      → Laid (Commit start end position commit_end)
      (100 ∷ (four 55 ++ (119 ∷ (eight start ++ (eight end ++ (no_time ++ (67 ∷ 0 ∷ (eight position ++ (eight commit_end ++ no_time)))))))))

-- every message has these bytes and no others
abbrev pub BytesAreLaid : Type 0
BytesAreLaid = (m : Message) (bytes : List ℕ) → (bytes_of m ≡ bytes → Laid m bytes) × (Laid m bytes → bytes_of m ≡ bytes)

-- messages one after the other
pub data InBytes : List Message → List ℕ → Type 0 where
  no_message : InBytes [] []
  a_message : {m : Message} {ms : List Message} (first rest : List ℕ) → Laid m first → InBytes ms rest → InBytes (m ∷ ms) (first ++ rest)

-- the bytes of n messages that are cut from the draws of a seed
pub record StreamFrom (seed n : ℕ) (bytes : List ℕ) : Type 0 where
  pub messages : List Message
  pub many : length messages ≡ n
  pub cut_so : CutFrom seed messages
  pub laid_so : InBytes messages bytes

-- the stream is these bytes and no others
abbrev pub StreamIsCut : Type 0
StreamIsCut =
    (seed n : ℕ) (bytes : List ℕ) → seed < 2 ^ 64
    → (stream_of n seed ≡ bytes → StreamFrom seed n bytes) × (StreamFrom seed n bytes → stream_of n seed ≡ bytes)

-- ---- what a call answers

-- the refusal's number, the length and the output that is left: 35 for seed 0 whatever the output is, then 4 for an output that is shorter than the
-- stream, both with the output as it was; else the stream stands over the front of the output, and the rest is as it was
pub data Answered (seed n : ℕ) (out : List ℕ) : ℕ → ℕ → List ℕ → Type 0 where
  seed_zero : seed ≡ 0 → Answered seed n out 35 0 out
  output_too_short : {bytes : List ℕ} → 0 < seed → StreamFrom seed n bytes → length out < length bytes → Answered seed n out 4 0 out
  written : {bytes : List ℕ} (front rest : List ℕ) → 0 < seed → StreamFrom seed n bytes → out ≡ front ++ rest → length front ≡ length bytes
      → Answered seed n out 0 (length bytes) (bytes ++ rest)

-- every call is answered so and not otherwise
abbrev pub LoadIsAnswered : Type 0
LoadIsAnswered =
    (seed n : ℕ) (out : List ℕ) (number count : ℕ) (left : List ℕ) → seed < 2 ^ 64
    → (loading seed n out ≡ ((number, count), left) → Answered seed n out number count left)
    × (Answered seed n out number count left → loading seed n out ≡ ((number, count), left))

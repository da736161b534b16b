-- A wider relation of two streams, of which the theorem is proved: the same headers, and of each whole message the same public view. An unfinished
-- payload is free, and so is all that follows a bad header or a message over the limit. SCOPE 8.12; 02, wish 14.
use Rattle.std.specs.Prelude.{◌≡◌, Bool, true, false, List, [], ℕ, ◌+◌, length, take, drop, eqb}
use Rattle.frames.specs.Message.{Front, in_header, in_payload, bad_length, too_large, whole, front_of}
use Rattle.replication.specs.CopyData.{copy_data_of}
use Rattle.replication.specs.CopyData as C
use Rattle.pgoutput.specs.Boundary.{boundary_of}
use Rattle.pgoutput.specs.Boundary as B
use Rattle.thm_any_calls.specs.Tests.{part}
use Rattle.thm_unpublished.specs.Hidden.{hidden_at, DifferHidden}

-- what is public of a CopyData payload: what it says, the boundary in its data (positions, times, places and lengths), and a Message's prefix
pub record View : Type 0 where
  pub said : C.Said
  pub boundary : B.Said
  pub prefix : List ℕ

-- the boundary in the data
abbrev pub boundary_in : List ℕ → C.Said → B.Said
boundary_in p (C.w start end time from len) = boundary_of (part p from len)
boundary_in p (C.k end time reply) = B.no_boundary
boundary_in p (C.refused n) = B.no_boundary

-- the bytes of a prefix, whose place counts from the data
abbrev pub prefix_by : List ℕ → B.Said → List ℕ
prefix_by s (B.begin final time xid) = []
prefix_by s (B.commit position end time) = []
prefix_by s (B.message flag position pf pl cf cl) = part s pf pl
prefix_by s B.no_boundary = []
prefix_by s (B.refused n) = []

abbrev pub prefix_in : List ℕ → C.Said → List ℕ
prefix_in p (C.w start end time from len) = prefix_by (part p from len) (boundary_of (part p from len))
prefix_in p (C.k end time reply) = []
prefix_in p (C.refused n) = []

abbrev pub view_of : List ℕ → View
view_of p = record { said = copy_data_of p; boundary = boundary_in p (copy_data_of p); prefix = prefix_in p (copy_data_of p) }

-- two payloads of messages with a tag: as long, those of an error, `E`, byte 69, the same, those of a CopyData, `d`, byte 100, with the same view;
-- others are free
pub record AlikePayload (tag : ℕ) (p q : List ℕ) : Type 0 where
  pub size : length p ≡ length q
  pub error : eqb tag 69 ≡ true → p ≡ q
  pub copied : eqb tag 100 ≡ true → view_of p ≡ view_of q

abbrev pub is_whole : Front → Bool
is_whole in_header = false
is_whole in_payload = false
is_whole bad_length = false
is_whole too_large = false
is_whole (whole tag n) = true

-- two streams that are read with a limit
pub data Alike (limit : ℕ) : List ℕ → List ℕ → Type 0 where
  ends : {a b : List ℕ} → length a ≡ length b → take 5 a ≡ take 5 b → is_whole (front_of limit a) ≡ false → Alike limit a b
  goes_on : {a b : List ℕ} (tag n : ℕ) → length a ≡ length b → take 5 a ≡ take 5 b → front_of limit a ≡ whole tag n
      → AlikePayload tag (part a 5 n) (part b 5 n) → Alike limit (drop (5 + n) a) (drop (5 + n) b) → Alike limit a b

-- streams that differ in hidden places alone have the same hidden places, so that it does not matter whose are meant
abbrev pub HiddenIsMutual : Type 0
HiddenIsMutual = (limit : ℕ) (a b : List ℕ) → DifferHidden limit a b → (j : ℕ) → hidden_at limit a j ≡ hidden_at limit b j

-- streams that differ in hidden places alone are alike
abbrev pub HiddenIsAlike : Type 0
HiddenIsAlike = (limit : ℕ) (a b : List ℕ) → DifferHidden limit a b → Alike limit a b

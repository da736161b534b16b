-- How many of the unread bytes are one whole message within the limit, without a read. SCOPE 3.14; 01, "Messages".
use Rattle.std.specs.Prelude.{◌≡◌, Bool, List, ℕ, ◌+◌, ◌≤◌, ◌<◌, length, take, eqb}
use Rattle.std.proofs.Math.Option.{Option, some, none}
use Rattle.wire.specs.Bytes.{pick, at, put}
use Rattle.frames.specs.Message.{Front, in_header, in_payload, bad_length, too_large, front_of}
use Rattle.frames.specs.Message.{whole as whole_at}
use Rattle.framing.specs.Read.{whole, limit_of, fresh, read_of}

-- the bytes of a whole message, header and payload; 0 where nothing can be said: a message that is not there whole, a bad length, one over the limit
abbrev pub whole_bytes : Front → ℕ
whole_bytes in_header = 0
whole_bytes in_payload = 0
whole_bytes bad_length = 0
whole_bytes too_large = 0
whole_bytes (whole_at tag n) = 5 + n

-- of unread bytes, with a setting of the limit
unfoldable pub front_bytes : ℕ → List ℕ → ℕ
front_bytes setting u = whole_bytes (front_of (limit_of setting) u)

-- a number of bytes, or that there is no such message
abbrev pub there : ℕ → Option ℕ
there n = pick (eqb n 0) none (some n)

-- by what a read with an empty reader does, for every buffer as long as the limit
pub record FrontLaws : Type 0 where
  -- a message is there whole: a read takes it, of all unread bytes and of its own alone, and its payload stands behind the header
  pub told : (setting : ℕ) (u : List ℕ) (e : Bool) (p : List ℕ) (k : ℕ) → limit_of setting ≤ length p → front_bytes setting u ≡ k → 0 < k
      → (tag n : ℕ) × (k ≡ 5 + n) × (k ≤ length u) × (read_of setting fresh u e p ≡ (whole tag n, fresh, k, put p 0 (at u 5 n)))
      × (read_of setting fresh (take k u) e p ≡ (whole tag n, fresh, k, put p 0 (at u 5 n)))
  -- a read that gives a whole message takes as many
  pub only : (setting : ℕ) (u : List ℕ) (e : Bool) (p : List ℕ) (tag n : ℕ) → limit_of setting ≤ length p
      → (read_of setting fresh u e p).0 ≡ whole tag n → (front_bytes setting u ≡ 5 + n) × ((read_of setting fresh u e p).2 ≡ 5 + n)

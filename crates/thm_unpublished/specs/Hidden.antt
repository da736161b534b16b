-- The hidden places of a stream, from the boundary rule: the content of a Message that is read, and the bytes after the first of other data that are
-- no Begin, Commit or Message. Data that are refused have none. SCOPE 8.12; 02, wish 14.
use Rattle.std.specs.Prelude.{◌≡◌, Bool, false, List, [], ◌∷◌, ℕ, ◌+◌, ◌-◌, length, get_or, ltb, leb, eqb}
use Rattle.wire.specs.Bytes.{pick}
use Rattle.frames.specs.Cut.{Item, message, refused, cut_of}
use Rattle.replication.specs.CopyData.{copy_data_of}
use Rattle.replication.specs.CopyData as C
use Rattle.pgoutput.specs.Boundary.{boundary_of}
use Rattle.pgoutput.specs.Boundary as B
use Rattle.thm_any_calls.specs.Tests.{both, part}

-- place j of data, by their boundary
abbrev pub hidden_by : B.Said → ℕ → Bool
hidden_by (B.begin final time xid) j = false
hidden_by (B.commit position end time) j = false
hidden_by (B.message flag position pf pl cf cl) j = both (leb cf j) (ltb j (cf + cl))
hidden_by B.no_boundary j = leb 1 j
hidden_by (B.refused n) j = false

-- place j of a CopyData payload, by what the payload says: a place of an XLogData's data
abbrev pub hidden_by_payload : List ℕ → C.Said → ℕ → Bool
hidden_by_payload p (C.w start end time from len) j = both (leb from j) (hidden_by (boundary_of (part p from len)) (j - from))
hidden_by_payload p (C.k end time reply) j = false
hidden_by_payload p (C.refused n) j = false

-- place j of a message, whose header has five bytes: only a CopyData, `d`, byte 100, has hidden places
abbrev pub hidden_in_message : ℕ → List ℕ → ℕ → Bool
hidden_in_message tag p j = both (eqb tag 100) (both (leb 5 j) (hidden_by_payload p (copy_data_of p) (j - 5)))

-- place j of the bytes of whole messages and bad headers
unfoldable pub hidden_in : List Item → ℕ → Bool
hidden_in [] j = false
hidden_in (message tag p ∷ is) j = pick (ltb j (5 + length p)) (hidden_in_message tag p j) (hidden_in is (j - (5 + length p)))
hidden_in (refused ∷ is) j = pick (ltb j 5) false (hidden_in is (j - 5))

-- place j of a stream that is read with a limit
unfoldable pub hidden_at : ℕ → List ℕ → ℕ → Bool
hidden_at limit s j = hidden_in (cut_of limit s).items j

-- two streams that differ in place, and in hidden places alone
pub record DifferHidden (limit : ℕ) (a b : List ℕ) : Type 0 where
  pub size : length a ≡ length b
  pub public : (j : ℕ) → hidden_at limit a j ≡ false → get_or a j 0 ≡ get_or b j 0

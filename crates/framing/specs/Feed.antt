-- What a reader answers to the bytes that it is fed, by the cut of these bytes and by no field of the reader. SCOPE 3.3; 01, "Messages".
use Rattle.std.specs.Prelude.{ℕ, ◌+◌, ◌-◌, ◌≤◌, ◌≡◌, Bool, true, false, List, [], ◌∷◌, ◌++◌, length, take, drop, eqb}
use Rattle.wire.specs.Bytes.{pick, put}
use Rattle.frames.specs.Message.{length_field}
use Rattle.frames.specs.Cut.{Item, message, Ending, header, payload, over, Cut, cut_of}
use Rattle.frames.specs.Cut.{refused as bad}
use Rattle.framing.specs.declared.MessageReader.{MessageReader}
use Rattle.framing.specs.Read.{Said, more, whole, refused, fresh, limit_of, Result, unfinished, read_of}

-- ---- one read, by the cut of what the reader holds of a message and the unread bytes after it

-- the answer where the cut finds no item: the input's end is 8 in a header and 9 in a payload, where no byte is unread
abbrev pub end_answer : Ending → ℕ → Bool → Said
end_answer header unread e = unfinished 8 unread e
end_answer payload unread e = unfinished 9 unread e
end_answer over unread e = refused 7

-- the answer by the first item of the cut
abbrev pub first_answer : List Item → Ending → ℕ → Bool → Said
first_answer [] end unread e = end_answer end unread e
first_answer (message tag p ∷ is) end unread e = whole tag (length p)
first_answer (bad ∷ is) end unread e = refused 6

-- how many bytes of s are used where the cut finds no item: all of them, and of a message over the limit the header
abbrev pub end_span : Ending → List ℕ → ℕ
end_span header s = length s
end_span payload s = length s
end_span over s = 5

-- how many bytes of s its first item has
abbrev pub span : List Item → Ending → List ℕ → ℕ
span [] end s = end_span end s
span (message tag p ∷ is) end s = 5 + length p
span (bad ∷ is) end s = 5

-- the payload bytes of the message at the front of s, as far as they are there
abbrev pub end_stored : Ending → List ℕ → List ℕ
end_stored header s = []
end_stored payload s = drop 5 s
end_stored over s = []

abbrev pub stored : List Item → Ending → List ℕ → List ℕ
stored [] end s = end_stored end s
stored (message tag p ∷ is) end s = p
stored (bad ∷ is) end s = []

-- a reader that holds the bytes s of an unfinished message, the payload's among them at the buffer's front
pub record Holds (s : List ℕ) (r : MessageReader) (p : List ℕ) : Type 0 where
  pub going : r.refused ≡ false
  pub filled : r.filled ≡ length s
  pub five : length r.header ≡ 5
  pub head : take (length s) r.header ≡ take 5 s
  pub size : 5 ≤ length s → r.payload_len ≡ length_field s - 4
  pub front : take (length s - 5) p ≡ drop 5 s

-- the reader after bytes whose cut ends so: it holds the rest s, or it remembers refusal 7
abbrev pub follows_by : Ending → List ℕ → MessageReader → List ℕ → Type 0
follows_by header s r p = Holds s r p
follows_by payload s r p = Holds s r p
follows_by over s r p = r.refused ≡ true

-- the same of a cut
abbrev pub FollowsCut : Cut → MessageReader → List ℕ → Type 0
FollowsCut c r p = follows_by c.ending c.rest r p

-- what an answer hands on: a whole message with the bytes at the buffer's front, or a bad length
abbrev pub item_of : Said → List ℕ → List Item
item_of more p = []
item_of (whole tag n) p = message tag (take n p) ∷ []
item_of (refused n) p = pick (eqb n 6) (bad ∷ []) []

-- a read of the unread bytes u, after the bytes b: its answer, what it takes, the whole buffer, the reader after it, and what it hands on
pub record Reads (limit : ℕ) (b u : List ℕ) (e : Bool) (p : List ℕ) (x : Result) : Type 0 where
  pub answer : let s = (cut_of limit b).rest ++ u in let c = cut_of limit s in x.0 ≡ first_answer c.items c.ending (length u) e
  pub taken : let s = (cut_of limit b).rest ++ u in let c = cut_of limit s in x.2 ≡ span c.items c.ending s - length (cut_of limit b).rest
  pub within : x.2 ≤ length u
  pub buffer : let s = (cut_of limit b).rest ++ u in let c = cut_of limit s in x.3 ≡ put p 0 (stored c.items c.ending s)
  pub follows : FollowsCut (cut_of limit (b ++ take x.2 u)) x.1 x.3
  pub items : (cut_of limit (b ++ take x.2 u)).items ≡ (cut_of limit b).items ++ item_of x.0 x.3

-- ---- any list of reads

-- the next `unread` untaken bytes are offered; whether the input has ended
pub record Offer : Type 0 where
  pub unread : ℕ
  pub ended : Bool

-- what was handed on, the reader, the sum taken, and the buffer
abbrev pub Fed : Type 0
Fed = List Item × MessageReader × ℕ × List ℕ

-- one offer more
abbrev pub feed_one : ℕ → List ℕ → Fed → Offer → Fed
feed_one setting bytes f o =
    let x : Result = read_of setting f.1 (take o.unread (drop f.2 bytes)) o.ended f.3 in
    (f.0 ++ item_of x.0 x.3, x.1, f.2 + x.2, x.3)

-- offer after offer
unfoldable pub feed_all : ℕ → List ℕ → Fed → List Offer → Fed
feed_all setting bytes f [] = f
feed_all setting bytes f (o ∷ os) = feed_all setting bytes (feed_one setting bytes f o) os

-- however bytes are offered to a fresh reader with a buffer as long as the limit: what it hands on are the items of the cut of the bytes that
-- it took, and it holds the rest of that cut
abbrev pub FedIsCut : Type 0
FedIsCut =
    (setting : ℕ) (bytes p : List ℕ) → limit_of setting ≤ length p → (os : List Offer)
    → let f = feed_all setting bytes ([], fresh, 0, p) os in
    let c = cut_of (limit_of setting) (take f.2 bytes) in
    (f.0 ≡ c.items) × (f.2 ≤ length bytes) × FollowsCut c f.1 f.3 × (length f.3 ≡ length p)

-- the next read of such a reader answers, takes and stores what the cut says
abbrev pub ReadIsCut : Type 0
ReadIsCut =
    (setting : ℕ) (b u : List ℕ) (e : Bool) (r : MessageReader) (p : List ℕ) → limit_of setting ≤ length p
    → FollowsCut (cut_of (limit_of setting) b) r p → Reads (limit_of setting) b u e p (read_of setting r u e p)

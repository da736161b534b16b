-- A stream as the messages that it was framed from, and that this is what the cut finds, both ways. The length in a header is spelled out here, and
-- is not the one by which the cut is defined. SCOPE 3.1; 01, "Messages".
use Rattle.std.specs.Prelude.{◌≡◌, true, List, [], ◌∷◌, ◌++◌, ◌⊎◌, ℕ, ◌+◌, ◌-◌, ◌*◌, ◌≤◌, ◌<◌, length, get_or, drop}
use Rattle.std.proofs.Math.Pow.{are_bytes}
use Rattle.frames.specs.Message.{framed, front_of}
use Rattle.frames.specs.Cut.{Item, message, refused, Ending, header, payload, over, behind, cut_by, cut_of}

-- the four bytes after the tag, the first of them the highest
abbrev pub length_in : List ℕ → ℕ
length_in s = get_or s 1 0 * 16777216 + get_or s 2 0 * 65536 + get_or s 3 0 * 256 + get_or s 4 0

-- a length that no message has: negative, or below 4
abbrev pub Bad : ℕ → Type 0
Bad n = (2147483648 ≤ n) ⊎ (n < 4)

-- a length that one can have
abbrev pub Good : ℕ → Type 0
Good n = (n < 2147483648) × (4 ≤ n)

-- a stream that is framed messages within the limit and headers with a bad length, in this order, and then the rest
pub data Laid (limit : ℕ) : List ℕ → List Item → List ℕ → Type 0 where
  all : {s : List ℕ} → Laid limit s [] s
  one : (tag : ℕ) (p : List ℕ) {s rest : List ℕ} {is : List Item} → length p + 4 < 2147483648 → length p ≤ limit
      → Laid limit s is rest → Laid limit (framed tag p ++ s) (message tag p ∷ is) rest
  bad : (h : List ℕ) {s rest : List ℕ} {is : List Item} → length h ≡ 5 → Bad (length_in h)
      → Laid limit s is rest → Laid limit (h ++ s) (refused ∷ is) rest

-- why nothing more is found in what is left
abbrev pub Stops : ℕ → List ℕ → Ending → Type 0
Stops limit s header = length s < 5
Stops limit s payload = (5 ≤ length s) × Good (length_in s) × (length_in s - 4 ≤ limit) × (length s < length_in s + 1)
Stops limit s over = (5 ≤ length s) × Good (length_in s) × (limit < length_in s - 4)

-- the cut goes by what stands at the front, and goes on behind it
abbrev pub CutByFront : Type 0
CutByFront = (limit : ℕ) (s : List ℕ) → cut_of limit s ≡ cut_by s (front_of limit s) (λ k. cut_of limit (drop k s))

-- a framed message at the front is cut off whole
abbrev pub FramedIsCut : Type 0
FramedIsCut = (limit tag : ℕ) (p rest : List ℕ) → length p + 4 < 2147483648 → length p ≤ limit
    → cut_of limit (framed tag p ++ rest) ≡ behind (message tag p) (cut_of limit rest)

-- a stream that is laid out so is cut so
abbrev pub LaidIsCut : Type 0
LaidIsCut = (limit : ℕ) (s : List ℕ) (is : List Item) (rest : List ℕ) (e : Ending) → Laid limit s is rest → Stops limit rest e
    → cut_of limit s ≡ record { items = is; rest = rest; ending = e }

-- a stream of bytes is laid out as it is cut: each message that is cut off whole was framed
abbrev pub CutIsLaid : Type 0
CutIsLaid = (limit : ℕ) (s : List ℕ) → are_bytes s ≡ true
    → let c = cut_of limit s in Laid limit s c.items c.rest × Stops limit c.rest c.ending

-- A stream cut into messages. SCOPE 3.1; 01, "Messages".
use Rattle.std.specs.Prelude.{ℕ, zero, suc, ◌+◌, List, [], ◌∷◌, length, drop}
use Rattle.wire.specs.Bytes.{at}
use Rattle.frames.specs.Message.{Front, in_header, in_payload, bad_length, too_large, whole, front_of}

-- what the cut finds: a message with its tag and payload, or a header whose length is below 4, after which the cut goes on
pub data Item : Type 0 where
  message : ℕ → List ℕ → Item
  refused : Item

-- why the cut ends: within a header, within a payload, or before a payload over the limit
pub data Ending : Type 0 where
  header payload over : Ending

-- a stream cut: the items in their order, the bytes after the last of them, and why the cut ends there
pub record Cut : Type 0 where
  pub items : List Item
  pub rest : List ℕ
  pub ending : Ending

-- an item before those of a cut
abbrev pub behind : Item → Cut → Cut
behind i c = record { items = i ∷ c.items; rest = c.rest; ending = c.ending }

abbrev pub ended : List ℕ → Ending → Cut
ended s e = record { items = []; rest = s; ending = e }

-- the cut by what stands at the front: its item and the cut of what follows it, or the end
abbrev pub cut_by : List ℕ → Front → (ℕ → Cut) → Cut
cut_by s in_header go = ended s header
cut_by s in_payload go = ended s payload
cut_by s too_large go = ended s over
cut_by s bad_length go = behind refused (go 5)
cut_by s (whole tag n) go = behind (message tag (at s 5 n)) (go (5 + n))

-- the cut of a stream of at most n items
unfoldable pub cut_from : ℕ → ℕ → List ℕ → Cut
cut_from zero limit s = ended s header
cut_from (suc n) limit s = cut_by s (front_of limit s) (λ k. cut_from n limit (drop k s))

-- every item takes a byte at least, so a stream has no more items than bytes
unfoldable pub cut_of : ℕ → List ℕ → Cut
cut_of limit s = cut_from (suc (length s)) limit s

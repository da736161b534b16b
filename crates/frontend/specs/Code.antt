-- The messages as the code goes through them: a header, and texts one after the other. SCOPE 3.6, 3.7.
use Rattle.std.specs.Prelude.{ℕ, ◌+◌, List, [], ◌∷◌, ◌++◌}
use Rattle.std.specs.Borrow.{Bor}
use Rattle.wire.specs.Bytes.{be_bytes}

-- the tag and the length field before a payload of n bytes
unfoldable pub header : ℕ → ℕ → List ℕ
header tag n = tag ∷ be_bytes 4 (n + 4)

-- the texts, each with a zero byte after it
unfoldable pub strings : List (Bor (List ℕ)) → List ℕ
strings [] = []
strings (t ∷ ts) = t.now ++ (0 ∷ strings ts)

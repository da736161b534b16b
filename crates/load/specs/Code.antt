-- The messages as the code writes them: the header of a CopyData message, and what stands before the data of an XLogData. SCOPE 16.1.
use Rattle.std.specs.Prelude.{ℕ, ◌+◌, List, ◌∷◌, ◌++◌, pos}
use Rattle.wire.specs.Bytes.{be_bytes}
use Rattle.wire.specs.Int.{int_bytes}

-- the tag and the length field before a payload of n bytes
unfoldable pub header : ℕ → List ℕ
header n = 100 ∷ be_bytes 4 (n + 4)

-- letter, start, end and time before the data
unfoldable pub xlog_head : ℕ → ℕ → List ℕ
xlog_head start end = 119 ∷ (be_bytes 8 start ++ (be_bytes 8 end ++ int_bytes 8 (pos 0)))

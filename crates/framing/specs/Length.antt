-- The length of a payload by the length field before it. SCOPE 3.3; 01, "Messages".
use Rattle.std.specs.Prelude.{ℕ, ◌-◌, ltb}
use Rattle.std.proofs.Math.Option.{Option, some, none}
use Rattle.wire.specs.Bytes.{pick}
use Rattle.wire.specs.Int.{is_negative}

-- the field counts itself; none where it is negative or counts fewer bytes than its own
abbrev pub payload_length : ℕ → Option ℕ
payload_length n = pick (is_negative 4 n) none (pick (ltb n 4) none (some (n - 4)))

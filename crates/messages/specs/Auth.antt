-- An authentication request: PostgreSQL documentation, "Message Formats" (Authentication...): Int32, then what that code asks for. That
-- the code is signed is 01's and the Rust's reading. SCOPE 2.8; 01, "Texts and positions".
use Rattle.std.specs.Prelude.{List, ℕ, ◌-◌, length, ℤ, pos, Result, Ok, Err}
use Rattle.std.proofs.Math.Option.{Option, some, none}
use Rattle.wire.specs.Int.{int_at}
use Rattle.error.specs.Refusal.{number_of}
use Rattle.error.specs.declared.Refusal.{Refusal}
use Rattle.messages.specs.declared.AuthRequest.{AuthRequest}

-- what an answer says: 01's number, 0 for none, the code, and where the rest begins and how long it is
abbrev pub auth_outcome : Result AuthRequest Refusal → ℕ × ℤ × ℕ × ℕ
auth_outcome (Ok a) = (0, a.code, a.from, a.len)
auth_outcome (Err r) = (number_of r, pos 0, 0, 0)

-- the same, by a code that may be cut: 21 under 4 bytes
abbrev pub auth_by : ℕ → Option ℤ → ℕ × ℤ × ℕ × ℕ
auth_by n none = (21, pos 0, 0, 0)
auth_by n (some code) = (0, code, 4, n - 4)

-- the code in the first four bytes, and where the bytes after it stand
unfoldable pub auth_of : List ℕ → ℕ × ℤ × ℕ × ℕ
auth_of payload = auth_by (length payload) (int_at 4 payload 0)

-- The tags of messages that a client tells apart: PostgreSQL documentation, "Message Formats". SCOPE 3.12; 01, "Messages".
use Rattle.std.specs.Prelude.{ℕ, Bool, eqb}

-- ErrorResponse, Byte1('E')
abbrev pub is_error : ℕ → Bool
is_error tag = eqb tag 69

-- ReadyForQuery, Byte1('Z')
abbrev pub is_ready_for_query : ℕ → Bool
is_ready_for_query tag = eqb tag 90

-- DataRow, Byte1('D')
abbrev pub is_data_row : ℕ → Bool
is_data_row tag = eqb tag 68

-- CopyBothResponse, Byte1('W')
abbrev pub is_copy_both_response : ℕ → Bool
is_copy_both_response tag = eqb tag 87

-- CopyData, Byte1('d')
abbrev pub is_copy_data : ℕ → Bool
is_copy_data tag = eqb tag 100

-- an authentication request, Byte1('R')
abbrev pub is_auth_request : ℕ → Bool
is_auth_request tag = eqb tag 82

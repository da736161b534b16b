-- The layout of an authentication request: PostgreSQL documentation, "Message Formats" (AuthenticationOk ..): Int32 code, then what the code
-- calls for. SCOPE 2.8; 01, "Texts and positions".
use Rattle.std.specs.Prelude.{◌≡◌, refl, true, List, [], ◌∷◌, ◌++◌, ℕ, ◌+◌, ◌≤◌, ◌<◌, length, ℤ, pos, negsuc}
use Rattle.std.specs.Int.Signed.{mag}
use Rattle.std.proofs.Math.Pow.{are_bytes}
use Rattle.wire.specs.Bytes.{at, be, be_from}
use Rattle.wire.specs.Field.{field_at, signed}
use Rattle.wire.specs.Int.{half, int_bytes}
use Rattle.messages.specs.Auth.{auth_of}

-- a code and what follows it are read back: where the rest stands, and how long it is
abbrev pub SentAuthIsRead : Type 0
SentAuthIsRead = (code : ℤ) (rest : List ℕ) → mag code < half 4 → let payload : List ℕ = int_bytes 4 code ++ rest in
    (auth_of payload ≡ (0, code, 4, length rest)) × (at payload 4 (length rest) ≡ rest)

-- a request of bytes that is read was sent so
abbrev pub ReadAuthIsSent : Type 0
ReadAuthIsSent = (payload : List ℕ) (code : ℤ) (from len : ℕ) → are_bytes payload ≡ true → auth_of payload ≡ (0, code, from, len)
    → (mag code < half 4) × (payload ≡ int_bytes 4 code ++ at payload from len)

-- under 4 bytes: 21
abbrev pub ShortAuthIsRefused : Type 0
ShortAuthIsRefused = (payload : List ℕ) → length payload < 4 → auth_of payload ≡ (21, pos 0, 0, 0)

-- the part that any answer names lies in the payload
abbrev pub AuthIsWithin : Type 0
AuthIsWithin = (payload : List ℕ) → let a = auth_of payload in a.2 + a.3 ≤ length payload

-- the requests of the documentation's list, each by its code and with what follows the code; then what is in no list
pub record Cases : Type 0 where
  -- AuthenticationOk
  pub ok : auth_of (0 ∷ 0 ∷ 0 ∷ 0 ∷ []) ≡ (0, pos 0, 4, 0)
  -- AuthenticationKerberosV5
  pub kerberos : auth_of (0 ∷ 0 ∷ 0 ∷ 2 ∷ []) ≡ (0, pos 2, 4, 0)
  -- AuthenticationCleartextPassword
  pub cleartext : auth_of (0 ∷ 0 ∷ 0 ∷ 3 ∷ []) ≡ (0, pos 3, 4, 0)
  -- AuthenticationMD5Password with its salt of four bytes
  pub md5 : auth_of (0 ∷ 0 ∷ 0 ∷ 5 ∷ 1 ∷ 2 ∷ 3 ∷ 4 ∷ []) ≡ (0, pos 5, 4, 4)
  -- AuthenticationGSS
  pub gss : auth_of (0 ∷ 0 ∷ 0 ∷ 7 ∷ []) ≡ (0, pos 7, 4, 0)
  -- AuthenticationGSSContinue with its data
  pub gss_continue : auth_of (0 ∷ 0 ∷ 0 ∷ 8 ∷ 1 ∷ 2 ∷ []) ≡ (0, pos 8, 4, 2)
  -- AuthenticationSSPI
  pub sspi : auth_of (0 ∷ 0 ∷ 0 ∷ 9 ∷ []) ≡ (0, pos 9, 4, 0)
  -- AuthenticationSASL with the mechanism `SCRAM-SHA-256` and the zero byte after the last mechanism
  pub sasl :
      auth_of (0 ∷ 0 ∷ 0 ∷ 10 ∷ 83 ∷ 67 ∷ 82 ∷ 65 ∷ 77 ∷ 45 ∷ 83 ∷ 72 ∷ 65 ∷ 45 ∷ 50 ∷ 53 ∷ 54 ∷ 0 ∷ 0 ∷ []) ≡ (0, pos 10, 4, 15)
  -- AuthenticationSASLContinue with its data
  pub sasl_continue : auth_of (0 ∷ 0 ∷ 0 ∷ 11 ∷ 114 ∷ 61 ∷ []) ≡ (0, pos 11, 4, 2)
  -- AuthenticationSASLFinal with its data
  pub sasl_final : auth_of (0 ∷ 0 ∷ 0 ∷ 12 ∷ 118 ∷ 61 ∷ []) ≡ (0, pos 12, 4, 2)
  -- the high byte counts, and a code with the top bit is negative
  pub high : auth_of (1 ∷ 0 ∷ 0 ∷ 0 ∷ []) ≡ (0, pos 16777216, 4, 0)
  pub negative : auth_of (0xFF ∷ 0xFF ∷ 0xFF ∷ 0xFF ∷ []) ≡ (0, negsuc 0, 4, 0)
  -- 21
  pub short : auth_of (0 ∷ 0 ∷ 0 ∷ []) ≡ (21, pos 0, 0, 0)
  pub empty : auth_of [] ≡ (21, pos 0, 0, 0)

-- they hold, by computing
pub cases : Cases
unfolding auth_of be be_from field_at signed
cases =
    record {
      ok = refl;
      kerberos = refl;
      cleartext = refl;
      md5 = refl;
      gss = refl;
      gss_continue = refl;
      sspi = refl;
      sasl = refl;
      sasl_continue = refl;
      sasl_final = refl;
      high = refl;
      negative = refl;
      short = refl;
      empty = refl;
    }

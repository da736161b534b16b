-- The parts that answers name lie in what was lent.
use mathlib.Core.Bool.{Bool, true, false}
use mathlib.Core.List.{List}
use Prim.Native.Nat.{ℕ, ◌+◌, ◌-◌, ◌≤◌, min}
use native.Mathlib.Omega.{arith}
use lib.ListN.{length, get_or, take, drop}
use lib.Dec.{leb, ltb, eqb}
use Rattle.wire.specs.Bytes.{pick, put}
use Rattle.wire.specs.Int.{is_negative}
use Rattle.framing.specs.Read as F
use Rattle.framing.specs.Read.{Said, Result, fresh, shut, at_byte, limit_of, unfinished, payload_of, judged_of, header_of, read_of, after_taking}
use Rattle.framing.specs.declared.MessageReader.{MessageReader}
use Rattle.messages.specs.Fields.{absent, part_of, fields_of}
use Rattle.messages.proofs.AuthLayout.{auth_is_within as auth_within}
use Rattle.messages.proofs.FieldsSent.{field_is_within as field_within}
use Rattle.query.proofs.DataRowLayout.{part_is_within as column_within}
use Rattle.frames.specs.Message.{length_field}
use Rattle.thm_word_meaning.specs.Within.{AuthIsWithin, ColumnIsWithin, FieldIsWithin, MessageWithin, MessageIsWithin}

-- ---- parts of a payload

pub auth_is_within : AuthIsWithin
auth_is_within payload = auth_within payload

pub column_is_within : ColumnIsWithin
column_is_within payload i = column_within payload i

indexed_within : (payload : List ℕ) (i : ℕ) (b : Bool)
    → (part_of (pick b (get_or (fields_of payload) i absent) absent)).0 + (part_of (pick b (get_or (fields_of payload) i absent) absent)).1 ≤ length payload
indexed_within payload i true = field_within payload i
indexed_within payload i false = omega arith

pub field_is_within : FieldIsWithin
field_is_within payload i = indexed_within payload i (ltb i 15)

-- ---- a whole message

module _ (n : ℕ) where
  picked : (b : Bool) (x y : Said) → MessageWithin n x → MessageWithin n y → MessageWithin n (pick b x y)
  picked true x y h g = h
  picked false x y h g = g

  chosen : (b : Bool) (x y : Result) → MessageWithin n x.0 → MessageWithin n y.0 → MessageWithin n (pick b x y).0
  chosen true x y h g = h
  chosen false x y h g = g

  not_yet : (number unread : ℕ) (e : Bool) → MessageWithin n (unfinished number unread e)
  not_yet number unread e =
      picked (eqb unread 0) (pick e (F.refused number) F.more) F.more (picked e (F.refused number) F.more tt tt) tt

at_most : (a n : ℕ) → min a n ≤ n
at_most a n = omega arith

payload_within : (r : MessageReader) (u : List ℕ) (e : Bool) (p : List ℕ) → MessageWithin (length p) (payload_of r u e p).0
unfolding payload_of
payload_within r u e p =
    let n : ℕ = min r.payload_len (length p) in
    let have : ℕ = r.filled - 5 in
    let tag : ℕ = get_or r.header 0 0 in
    let k : ℕ = min (n - have) (length u) in
    let going : Result = (unfinished 9 (length u) e, at_byte r.header (r.filled + k) r.payload_len, k, put p have (take k u)) in
    let done : Result = (F.whole tag n, fresh, k, put p have (take k u)) in
    chosen (length p) (leb n have) (F.whole tag n, fresh, 0, p) (pick (ltb (have + k) n) going done)
    (at_most r.payload_len (length p))
    (chosen (length p) (ltb (have + k) n) going done (not_yet (length p) 9 (length u) e) (at_most r.payload_len (length p)))

judged_within : (limit : ℕ) (h u p : List ℕ) → MessageWithin (length p) (judged_of limit h u p).0
unfolding judged_of
judged_within limit h u p =
    let n : ℕ = length_field h in
    let whole : Result = payload_of (at_byte h 5 (n - 4)) u false p in
    let large : Result = pick (ltb limit (n - 4)) (F.refused 7, shut, 0, p) whole in
    chosen (length p) (is_negative 4 n) (F.refused 6, fresh, 0, p) (pick (ltb n 4) (F.refused 6, fresh, 0, p) large) tt
    (chosen (length p) (ltb n 4) (F.refused 6, fresh, 0, p) large tt
    (chosen (length p) (ltb limit (n - 4)) (F.refused 7, shut, 0, p) whole tt (payload_within (at_byte h 5 (n - 4)) u false p)))

header_within : (limit : ℕ) (r : MessageReader) (u : List ℕ) (e : Bool) (p : List ℕ) → MessageWithin (length p) (header_of limit r u e p).0
unfolding header_of
header_within limit r u e p =
    let k : ℕ = min (5 - r.filled) (length u) in
    let h : List ℕ = put r.header r.filled (take k u) in
    chosen (length p) (ltb (r.filled + k) 5) (unfinished 8 (length u) e, at_byte h (r.filled + k) r.payload_len, k, p)
    (after_taking k (judged_of limit h (drop k u) p)) (not_yet (length p) 8 (length u) e) (judged_within limit h (drop k u) p)

pub message_is_within : MessageIsWithin
unfolding read_of
message_is_within setting r u e p =
    let reads : Result = pick (ltb r.filled 5) (header_of (limit_of setting) r u e p) (payload_of r u e p) in
    chosen (length p) (ltb (length p) (limit_of setting)) (F.refused 3, r, 0, p) (pick r.refused (F.refused 7, r, 0, p) reads) tt
    (chosen (length p) r.refused (F.refused 7, r, 0, p) reads tt
    (chosen (length p) (ltb r.filled 5) (header_of (limit_of setting) r u e p) (payload_of r u e p) (header_within (limit_of setting) r u e p)
    (payload_within r u e p)))

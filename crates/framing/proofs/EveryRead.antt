-- What holds of every read: a buffer shorter than the limit, and the payload of a whole message.
use mathlib.Core.Path.{◌≡◌}
use mathlib.Core.Bool.{Bool, false}
use mathlib.Core.List.{List}
use Prim.Native.Nat.{ℕ, ◌+◌, ◌-◌, ◌≤◌, min}
use native.Mathlib.Omega.{arith}
use native.Mathlib.Nat.{min-le_right}
use lib.ListN.{length, drop, take}
use lib.Dec.{leb, ltb, eqb}
use borrow.Author.Tests.{lt-ltb}
use Rattle.wire.specs.Bytes.{put}
use Rattle.wire.specs.Int.{is_negative}
use Rattle.wire.proofs.Laws.{by_test, impossible}
use Rattle.frames.specs.Message.{length_field}
use Rattle.framing.specs.declared.MessageReader.{MessageReader}
use Rattle.framing.specs.Read.{whole, limit_of, at_byte, Result, unfinished, payload_of, judged_of, header_of, read_of}
use Rattle.framing.specs.Cases.{ShortBufferIsRefused, WholeIsWithin}
use Rattle.framing.proofs.Laws.{pick_both}

pub short_buffer_is_refused : ShortBufferIsRefused
unfolding read_of
short_buffer_is_refused setting r u e p h = simp (lt-ltb _ _ h)

-- what is shown of each way out of a read
abbrev Within : List ℕ → Result → Type 0
Within p s = (tag n : ℕ) → s.0 ≡ whole tag n → n ≤ length p

unfinished_within : (p : List ℕ) (k unread : ℕ) (e : Bool) (tag n : ℕ) → unfinished k unread e ≡ whole tag n → n ≤ length p
unfinished_within p k unread e tag n q =
    by_test (eqb unread 0)
    (λ t. by_test e (λ f. impossible cc) (λ f. impossible cc))
    (λ t. impossible cc)

payload_within : (r : MessageReader) (u : List ℕ) (e : Bool) (p : List ℕ) → Within p (payload_of r u e p)
unfolding payload_of
payload_within r u e p =
    let n : ℕ = min r.payload_len (length p) in
    let have : ℕ = r.filled - 5 in
    let k : ℕ = min (n - have) (length u) in
    let l : n ≤ length p = min-le_right r.payload_len (length p) in
    pick_both (Within p) (leb n have) _ _
    (λ tag m q. let h : n ≡ m = cc in omega arith)
    (pick_both (Within p) (ltb (have + k) n) _ _
    (λ tag m q. unfinished_within p 9 (length u) e tag m q)
    (λ tag m q. let h : n ≡ m = cc in omega arith))

judged_within : (limit : ℕ) (h u p : List ℕ) → Within p (judged_of limit h u p)
unfolding judged_of
judged_within limit h u p =
    let n : ℕ = length_field h in
    pick_both (Within p) (is_negative 4 n) _ _ (λ tag m q. impossible cc)
    (pick_both (Within p) (ltb n 4) _ _ (λ tag m q. impossible cc)
    (pick_both (Within p) (ltb limit (n - 4)) _ _ (λ tag m q. impossible cc)
    (payload_within (at_byte h 5 (n - 4)) u false p)))

header_within : (limit : ℕ) (r : MessageReader) (u : List ℕ) (e : Bool) (p : List ℕ) → Within p (header_of limit r u e p)
unfolding header_of
header_within limit r u e p =
    let k : ℕ = min (5 - r.filled) (length u) in
    let h : List ℕ = put r.header r.filled (take k u) in
    pick_both (Within p) (ltb (r.filled + k) 5) _ _
    (λ tag m q. unfinished_within p 8 (length u) e tag m q)
    (λ tag m q. judged_within limit h (drop k u) p tag m q)

pub whole_is_within : WholeIsWithin
unfolding read_of
whole_is_within setting r u e p =
    pick_both (Within p) (ltb (length p) (limit_of setting)) _ _ (λ tag m q. impossible cc)
    (pick_both (Within p) r.refused _ _ (λ tag m q. impossible cc)
    (pick_both (Within p) (ltb r.filled 5) _ _ (header_within (limit_of setting) r u e p) (payload_within r u e p)))

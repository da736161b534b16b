-- The limit by its test; and that no other way through a read answers 3.
use mathlib.Core.Path.{◌≡◌, refl}
use mathlib.Core.Bool.{Bool, true, false}
use mathlib.Core.List.{List}
use Prim.Native.Nat.{ℕ, ◌+◌, ◌-◌, ◌≤◌, min}
use native.Mathlib.Omega.{arith}
use lib.ListN.{length, take, drop}
use lib.Dec.{ltb, leb, eqb}
use borrow.Author.Tests.{lt-ltb, le-ltb}
use Rattle.wire.specs.Bytes.{pick, put}
use Rattle.wire.specs.Int.{is_negative}
use Rattle.wire.proofs.Laws.{by_test}
use Rattle.frames.specs.Message.{length_field}
use Rattle.framing.specs.declared.MessageReader.{MessageReader}
use Rattle.framing.specs.Read.{Said, more, whole, refused, limit_of, at_byte, Result, unfinished, payload_of}
use Rattle.framing.specs.Read.{judged_of, header_of, read_of}
use Rattle.framing.specs.LimitLaws.{LimitLaws}

-- an answer other than 3
abbrev Other : Said → Type 0
Other more = Unit
Other (whole tag n) = Unit
Other (refused n) = n ≡ 3 → ⊥

other : (s : Said) → Other s → s ≡ refused 3 → ⊥
other more o e = let z : ◌≡◌ {A = ℕ} 0 1 = cc in omega arith
other (whole tag n) o e = let z : ◌≡◌ {A = ℕ} 0 1 = cc in omega arith
other (refused n) o e = let q : n ≡ 3 = cc in o q

-- one of two results
either : (t : Bool) (x y : Result) → Other x.0 → Other y.0 → Other (pick t x y).0
either true x y a b = a
either false x y a b = b

unfinished_other : (n unread : ℕ) (e : Bool) → (n ≡ 3 → ⊥) → Other (unfinished n unread e)
unfinished_other n unread e h =
    by_test (eqb unread 0) (λ t. by_test e (λ q. rw (t, q) h) (λ q. rw (t, q) tt)) (λ t. rw t tt)

payload_other : (r : MessageReader) (u : List ℕ) (e : Bool) (p : List ℕ) → Other (payload_of r u e p).0
unfolding payload_of
payload_other r u e p =
    let n : ℕ = min r.payload_len (length p) in
    let have : ℕ = r.filled - 5 in
    let k : ℕ = min (n - have) (length u) in
    either (leb n have) _ _ tt (either (ltb (have + k) n) _ _ (unfinished_other 9 (length u) e (λ z. omega arith)) tt)

judged_other : (limit : ℕ) (h u p : List ℕ) → Other (judged_of limit h u p).0
unfolding judged_of
judged_other limit h u p =
    let n : ℕ = length_field h in
    either (is_negative 4 n) _ _ (λ z. omega arith)
    (either (ltb n 4) _ _ (λ z. omega arith)
    (either (ltb limit (n - 4)) _ _ (λ z. omega arith) (payload_other (at_byte h 5 (n - 4)) u false p)))

header_other : (limit : ℕ) (r : MessageReader) (u : List ℕ) (e : Bool) (p : List ℕ) → Other (header_of limit r u e p).0
unfolding header_of
header_other limit r u e p =
    let k : ℕ = min (5 - r.filled) (length u) in
    let h : List ℕ = put r.header r.filled (take k u) in
    either (ltb (r.filled + k) 5) _ _ (unfinished_other 8 (length u) e (λ z. omega arith)) (judged_other limit h (drop k u) p)

read_other : (n : ℕ) (r : MessageReader) (u : List ℕ) (e : Bool) (p : List ℕ) → limit_of n ≤ length p → Other (read_of n r u e p).0
unfolding read_of
read_other n r u e p h =
    rw (le-ltb (length p) (limit_of n) h)
    (either r.refused _ _ (λ z. omega arith) (either (ltb r.filled 5) _ _ (header_other (limit_of n) r u e p) (payload_other r u e p)))

pub limit_laws : LimitLaws
unfolding read_of
limit_laws =
    record {
      setting = λ n h. omega arith;
      most = λ n h. omega arith;
      three = λ n r u e p h. rw (lt-ltb (length p) (limit_of n) h);
      only_then = λ n r u e p h. other (read_of n r u e p).0 (read_other n r u e p h);
      remembered = λ n r u e p h q. rw (le-ltb (length p) (limit_of n) h, q);
      says_more = refl;
      says_whole = λ tag n. refl;
      says_refused = λ r. refl;
    }

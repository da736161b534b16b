-- A read without a byte.
use Prim.Native.Nat.{ℕ, ◌+◌, ◌-◌, ◌<◌, ◌≤◌, min}
use native.Mathlib.Nat.{add-zero}
use native.Mathlib.Omega.{arith}
use borrow.Author.Tests.{ltb-true, leb-false, lt-ltb, le-ltb}
use mathlib.Core.Bool.{Bool, false}
use mathlib.Core.Path.{◌≡◌, sym, ap}
use mathlib.Core.List.{List, []}
use lib.ListN.{length, get_or, take-append-drop}
use lib.Dec.{ltb, leb}
use Rattle.wire.specs.Bytes.{pick, put}
use Rattle.wire.proofs.Laws.{by_test}
use Rattle.framing.specs.declared.MessageReader.{MessageReader}
use Rattle.framing.specs.Read.{Result, at_byte, fresh, header_of, limit_of, payload_of, read_of}
use Rattle.framing.specs.Read as R
use Rattle.schedule.specs.NextStep.{is_whole}

-- what a reader with a whole header answers
abbrev pub payload_read : MessageReader → List ℕ → Result
payload_read x p =
    let n : ℕ = min x.payload_len (length p) in
    pick (leb n (x.filled - 5)) (R.whole (get_or x.header 0 0) n, fresh, 0, p) (R.more, x, 0, p)

-- a remembered 7, a message that lacks nothing, or nothing changes
unfoldable pub quiet_read : MessageReader → List ℕ → Result
quiet_read x p =
    pick x.refused (R.refused 7, x, 0, p)
    (pick (is_whole x (length p)) (R.whole (get_or x.header 0 0) (min x.payload_len (length p)), fresh, 0, p)
    (R.more, x, 0, p))

put_nothing : (d : List ℕ) (i : ℕ) → put d i [] ≡ d
unfolding put
put_nothing d i = let e : i + 0 ≡ i = omega arith in rw e (take-append-drop i d)

none_there : (n : ℕ) → min n 0 ≡ 0
none_there n = omega arith

same_reader : (x : MessageReader) → x.refused ≡ false → at_byte x.header x.filled x.payload_len ≡ x
same_reader x h = ap (λ (b : Bool). record { header = x.header; filled = x.filled; payload_len = x.payload_len; refused = b }) (sym h)

header_quietly : (limit : ℕ) (x : MessageReader) (p : List ℕ) → x.refused ≡ false → x.filled < 5 → header_of limit x [] false p ≡ (R.more, x, 0, p)
unfolding header_of
header_quietly limit x p h k = simp (none_there, add-zero, lt-ltb _ _ k, put_nothing, same_reader x h)

payload_quietly : (x : MessageReader) (p : List ℕ) → x.refused ≡ false → payload_of x [] false p ≡ payload_read x p
unfolding payload_of
payload_quietly x p h =
    let n : ℕ = min x.payload_len (length p) in
    by_test (leb n (x.filled - 5)) (λ t. simp t)
    (λ t. let k : x.filled - 5 < n = leb-false n (x.filled - 5) t in simp (t, none_there, add-zero, lt-ltb _ _ k, put_nothing, same_reader x h))

pub read_quietly : (setting : ℕ) (x : MessageReader) (p : List ℕ) → limit_of setting ≤ length p → read_of setting x [] false p ≡ quiet_read x p
unfolding read_of is_whole quiet_read
read_quietly setting x p h =
    by_test x.refused (λ t. simp (le-ltb _ _ h, t))
    (λ t. by_test (ltb x.filled 5)
    (λ k. simp (le-ltb _ _ h, t, k) (header_quietly (limit_of setting) x p t (ltb-true _ _ k)))
    (λ k. simp (le-ltb _ _ h, t, k) (payload_quietly x p t)))

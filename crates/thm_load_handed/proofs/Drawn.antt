-- What is drawn fits its fields.
use mathlib.Core.Bool.{Bool, true, false}
use mathlib.Core.List.{List, [], ◌∷◌}
use Prim.Native.Nat.{ℕ, zero, suc, ◌%◌, ◌<◌, ◌^◌}
use native.Mathlib.Omega.{arith}
use lib.Bits.{bit_xor, xor_lt}
use lib.Dec.{eqb}
use Rattle.wire.specs.Bytes.{pick}
use Rattle.load.specs.declared.Message.{Message}
use Rattle.load.specs.declared.Message.TheVariants.{KeepAlive, Begin, Data, Commit}
use Rattle.load.specs.Xorshift.{left, right, next_of, drawn}
use Rattle.load.specs.Load.{message_of, draws_of, messages_of}

next_fits : (x : ℕ) → x < 2 ^ 64 → next_of x < 2 ^ 64
unfolding next_of
next_fits x h =
    let l : left 13 x < 2 ^ 64 = omega arith in
    first (bit_xor x (left 13 x)) (xor_lt 64 x (left 13 x) h l)
  where
    last : (b : ℕ) → b < 2 ^ 64 → bit_xor b (left 17 b) < 2 ^ 64
    last b f = let l : left 17 b < 2 ^ 64 = omega arith in xor_lt 64 b (left 17 b) f l

    first : (a : ℕ) → a < 2 ^ 64 → bit_xor (bit_xor a (right 7 a)) (left 17 (bit_xor a (right 7 a))) < 2 ^ 64
    first a f = let l : right 7 a < 2 ^ 64 = omega arith in last (bit_xor a (right 7 a)) (xor_lt 64 a (right 7 a) f l)

drawn_fits : (n s : ℕ) → s < 2 ^ 64 → drawn n s < 2 ^ 64
unfolding drawn
drawn_fits zero s h = h
drawn_fits (suc n) s h = next_fits (drawn n s) (drawn_fits n s h)

-- positions have 64 bits, an xid has 32, and there are fewer than 64 letters
abbrev pub Fits : Message → Type 0
Fits (KeepAlive end reply) = end < 2 ^ 64
Fits (Begin start end final xid) = (start < 2 ^ 64) × (end < 2 ^ 64) × (final < 2 ^ 64) × (xid < 2 ^ 32)
Fits (Data start end letters) = (start < 2 ^ 64) × (end < 2 ^ 64) × (letters < 64)
Fits (Commit start end position commit_end) = (start < 2 ^ 64) × (end < 2 ^ 64) × (position < 2 ^ 64) × (commit_end < 2 ^ 64)

any_kind : (a b c : Bool) (k l m n : Message) → Fits k → Fits l → Fits m → Fits n → Fits (pick a k (pick b l (pick c m n)))
any_kind true b c k l m n f g h i = f
any_kind false true c k l m n f g h i = g
any_kind false false true k l m n f g h i = h
any_kind false false false k l m n f g h i = i

message_fits : (s : ℕ) → s < 2 ^ 64 → Fits (message_of s)
unfolding message_of
message_fits s h =
    let two : drawn 2 s < 2 ^ 64 = drawn_fits 2 s h in
    let three : drawn 3 s < 2 ^ 64 = drawn_fits 3 s h in
    let four : drawn 4 s < 2 ^ 64 = drawn_fits 4 s h in
    let five : drawn 5 s < 2 ^ 64 = drawn_fits 5 s h in
    let xid : drawn 5 s % 2 ^ 32 < 2 ^ 32 = omega arith in
    let letters : drawn 4 s % 64 < 64 = omega arith in
    any_kind (eqb (drawn 1 s % 4) 0) (eqb (drawn 1 s % 4) 1) (eqb (drawn 1 s % 4) 2)
    (KeepAlive (drawn 2 s) (eqb (drawn 3 s % 2) 1))
    (Begin (drawn 2 s) (drawn 3 s) (drawn 4 s) (drawn 5 s % 2 ^ 32))
    (Data (drawn 2 s) (drawn 3 s) (drawn 4 s % 64))
    (Commit (drawn 2 s) (drawn 3 s) (drawn 4 s) (drawn 5 s))
    two (two, three, four, xid) (two, three, letters) (two, three, four, five)

abbrev pub AllFit : List Message → Type 0
AllFit [] = Unit
AllFit (m ∷ ms) = Fits m × AllFit ms

pub all_fit : (n s : ℕ) → s < 2 ^ 64 → AllFit (messages_of n s)
unfolding messages_of
all_fit zero s h = tt
all_fit (suc n) s h = (message_fits s h, all_fit n (drawn (draws_of s) s) (drawn_fits (draws_of s) s h))

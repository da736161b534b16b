-- Marsaglia's xorshift over 64 bits, with the shifts left 13, right 7, left 17: document 02, wish 13. A shift is what it is in arithmetic: to the
-- left a product whose lowest 64 bits stay, to the right a quotient.
use Rattle.std.specs.Prelude.{ℕ, zero, suc, ◌*◌, ◌/◌, ◌%◌, ◌^◌}
use Rattle.std.specs.Int.Bits.{bit_xor}

-- to the left by k
abbrev pub left : ℕ → ℕ → ℕ
left k x = x * 2 ^ k % 2 ^ 64

-- to the right by k
abbrev pub right : ℕ → ℕ → ℕ
right k x = x / 2 ^ k

-- the next state, which is also the number drawn
unfoldable pub next_of : ℕ → ℕ
next_of x =
    let a : ℕ = bit_xor x (left 13 x) in
    let b : ℕ = bit_xor a (right 7 a) in
    bit_xor b (left 17 b)

-- the n-th number drawn from a state, and the state after n draws
unfoldable pub drawn : ℕ → ℕ → ℕ
drawn zero s = s
drawn (suc n) s = next_of (drawn n s)

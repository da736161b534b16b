-- The files as a number, there and back.
use mathlib.Core.Path.{◌≡◌, refl, sym}
use mathlib.Core.Bool.{Bool, true, false}
use Prim.Native.Nat.{ℕ, ◌+◌, ◌*◌, ◌/◌, ◌%◌, ◌<◌}
use native.Mathlib.Omega.{arith}
use borrow.Author.Tests.{eqb-true, eqb-false}
use lib.Dec.{eqb}
use Rattle.wire.proofs.Laws.{by_test}
use Rattle.touched.specs.Touched.{files}
use Rattle.touched.specs.Bits.{bit_of, bit_at, bits_of, files_by, BitLaws}

-- the value of the lowest bit
lowest_bit : (n : ℕ) → bit_of (bit_at n) ≡ n % 2
lowest_bit n =
    by_test (eqb (n % 2) 1) (λ e. rw e (sym (eqb-true (n % 2) 1 e)))
    (λ e. let z : n % 2 ≡ 0 = omega (arith, eqb-false (n % 2) 1 e) in rw (e, z))

-- every combination of four
each : (a b c d : Bool) → (bits_of (files a b c d) < 16) × (files_by (bits_of (files a b c d)) ≡ files a b c d)
unfolding bits_of files_by
each true true true true = (omega arith, refl)
each true true true false = (omega arith, refl)
each true true false true = (omega arith, refl)
each true true false false = (omega arith, refl)
each true false true true = (omega arith, refl)
each true false true false = (omega arith, refl)
each true false false true = (omega arith, refl)
each true false false false = (omega arith, refl)
each false true true true = (omega arith, refl)
each false true true false = (omega arith, refl)
each false true false true = (omega arith, refl)
each false true false false = (omega arith, refl)
each false false true true = (omega arith, refl)
each false false true false = (omega arith, refl)
each false false false true = (omega arith, refl)
each false false false false = (omega arith, refl)

-- the lowest bit, and those above it
of_sixteen : (n : ℕ) → n % 16 ≡ n % 2 + 2 * (n / 2 % 8)
of_sixteen n = omega arith

of_eight : (n : ℕ) → n % 8 ≡ n % 2 + 2 * (n / 2 % 4)
of_eight n = omega arith

of_four : (n : ℕ) → n % 4 ≡ n % 2 + 2 * (n / 2 % 2)
of_four n = omega arith

fourth : (n : ℕ) → n / 4 ≡ n / 2 / 2
fourth n = omega arith

eighth : (n : ℕ) → n / 8 ≡ n / 2 / 2 / 2
eighth n = omega arith

sum : (a b c d x y z : ℕ) → x ≡ a + 2 * y → y ≡ b + 2 * z → z ≡ c + 2 * d → a + 2 * b + 4 * c + 8 * d ≡ x
sum a b c d x y z p q r = omega arith

kept : (n : ℕ) → bits_of (files_by n) ≡ n % 16
unfolding bits_of files_by
kept n =
    rw (lowest_bit n, lowest_bit (n / 2), lowest_bit (n / 4), lowest_bit (n / 8), fourth n, eighth n)
    (sum (n % 2) (n / 2 % 2) (n / 2 / 2 % 2) (n / 2 / 2 / 2 % 2) (n % 16) (n / 2 % 8) (n / 2 / 2 % 4)
    (of_sixteen n) (of_eight (n / 2)) (of_four (n / 2 / 2)))

pub bit_laws : BitLaws
bit_laws =
    record {
      below = λ b. (each b.zero b.one b.two b.three).0;
      back = λ b. (each b.zero b.one b.two b.three).1;
      lowest = kept;
    }

-- By the tests; the bits go back to the files.
use mathlib.Core.Path.{◌≡◌, refl, ap}
use mathlib.Core.Bool.{true, false}
use Prim.Native.Nat.{ℕ, zero, suc, ◌≤◌}
use native.Mathlib.Omega.{arith}
use lib.Dec.{leb}
use borrow.Author.Tests.{le-leb, lt-leb}
use Rattle.wire.proofs.Laws.{by_test}
use Rattle.touched.specs.declared.Files.{Files}
use Rattle.touched.specs.Bits.{files_by}
use Rattle.touched.proofs.BitLaws.{bit_laws}
use Rattle.ledger.specs.declared.Entry.{Entry}
use Rattle.ledger.specs.Ledger.{bit_for, undone_for}
use Rattle.ledger.specs.Undone.{FileBits, UndoneLaws}

all_four : (f : ℕ) → f ≤ 3 → bit_for f 15 ≡ true
unfolding bit_for
all_four zero k = refl
all_four (suc zero) k = refl
all_four (suc (suc zero)) k = refl
all_four (suc (suc (suc zero))) k = refl
all_four (suc (suc (suc (suc f)))) k = absurd (omega arith)

pub file_bits : FileBits
unfolding bit_for files_by
file_bits =
    record {
      zero = λ b. ap (λ (x : Files). x.zero) (bit_laws.back b);
      one = λ b. ap (λ (x : Files). x.one) (bit_laws.back b);
      two = λ b. ap (λ (x : Files). x.two) (bit_laws.back b);
      three = λ b. ap (λ (x : Files). x.three) (bit_laws.back b);
      all_four = all_four;
    }

is_untouched : (start done f : ℕ) (e : Entry) → bit_for f e.touched ≡ false → undone_for start done f e ≡ false
unfolding undone_for
is_untouched start done f e b =
    by_test (leb e.end start) (λ t. rw t) (λ t. by_test (leb e.end done) (λ k. rw (t, k)) (λ k. rw (t, k, b)))

is_at_done : (start done f : ℕ) (e : Entry) → e.end ≤ done → undone_for start done f e ≡ false
unfolding undone_for
is_at_done start done f e k = by_test (leb e.end start) (λ t. rw t) (λ t. rw (t, le-leb e.end done k))

pub undone_laws : UndoneLaws
unfolding undone_for
undone_laws =
    record {
      undone = λ start done f e b s d. rw (lt-leb e.end start s, lt-leb e.end done d, b);
      untouched = is_untouched;
      at_start = λ start done f e s. rw (le-leb e.end start s);
      at_done = is_at_done;
    }

-- The cases by computing, the laws by recursion on the lists and widths.
use mathlib.Core.Path.{◌≡◌, refl, ap}
use mathlib.Core.List.{List, [], ◌∷◌, ◌++◌}
use mathlib.Core.Option.{some, none}
use Prim.Native.Nat.{ℕ, zero, suc, ◌+◌, ◌*◌, ◌/◌, ◌%◌, ◌^◌, ◌≤◌, ◌<◌}
use native.Mathlib.Nat.{pow-suc, add-mul, mul_assoc, mul_comm, le_of_suc-le-suc}
use native.Mathlib.Omega.{arith}
use lib.ListN.{length, take, drop, get_or, replicate, length-take}
use lib.Seq.{take-append_seam, drop_at}
use lib.IntN.{negsuc}
use lib.Dec.{eqb, leb}
use borrow.Author.Tests.{eqb-true, eqb-false, lt-leb, leb-true, leb-false}
use Rattle.wire.specs.Bytes.{at, put, nowhere, placed, copied, be, be_from, be_bytes}
use Rattle.wire.specs.Field.{field_at, signed, unsigned}
use Rattle.wire.specs.Int.{half, value, int_bytes}
use Rattle.wire.specs.Find.{index_of}
use Rattle.wire.specs.Cases.{OrderLaws, SignedLaws, PlacedLaws, FindLawsOf}
use Rattle.wire.proofs.Laws.{by_test, impossible, below_pow}
use Rattle.wire.proofs.FieldLaws.{halves}
use Rattle.wire.proofs.FindLaws.{found_later, nothing_later, found_below}

-- ---- the order of bytes

be_from_lem : (a : ℕ) (s : List ℕ) → be_from a s ≡ a * 256 ^ length s + be_from 0 s
unfolding be_from
be_from_lem a [] = omega arith
be_from_lem a (x ∷ s) =
    let p : be_from (a * 256 + x) s ≡ (a * 256 + x) * 256 ^ length s + be_from 0 s = be_from_lem (a * 256 + x) s in
    let z : 0 * 256 + x ≡ x = omega arith in
    let q : be_from (0 * 256 + x) s ≡ x * 256 ^ length s + be_from 0 s = rw z (be_from_lem x s) in
    let m : (a * 256 + x) * 256 ^ length s ≡ a * (256 ^ length s * 256) + x * 256 ^ length s =
    rw (add-mul, mul_assoc a 256 (256 ^ length s), mul_comm 256 (256 ^ length s))
    in
    rw (p, q, pow-suc 256 (length s)) (omega arith)

pub order_laws : OrderLaws
unfolding be be_from be_bytes field_at
order_laws =
    record {
      written = refl;
      read = refl;
      padded = refl;
      first_is_highest = λ b s. let z : 0 + b ≡ b = omega arith in rw z (be_from_lem b s);
      whole_field = refl;
      cut_field = refl;
      far_field = refl;
    }

-- ---- two's complement

complement : (n k : ℕ) → 0 < n → k < half n → value n (negsuc k) + (k + 1) ≡ 256 ^ n
unfolding unsigned
complement n k h l = let e : half n * 2 ≡ 256 ^ n = halves n h in omega arith

replicate_snoc : (n x : ℕ) → replicate n x ++ (x ∷ []) ≡ replicate (suc n) x
replicate_snoc zero x = refl
replicate_snoc (suc n) x = ap (λ (l : List ℕ). x ∷ l) (replicate_snoc n x)

all_bits : (n v : ℕ) → v + 1 ≡ 256 ^ n → be_bytes n v ≡ replicate n 255
unfolding be_bytes
all_bits zero v e = refl
all_bits (suc n) v e =
    let p : 256 ^ suc n ≡ 256 ^ n * 256 = pow-suc 256 n in
    let b : 0 < 256 ^ n = below_pow n in
    let q : v / 256 + 1 ≡ 256 ^ n = omega arith in
    let r : v % 256 ≡ 255 = omega arith in
    rw (r, all_bits n (v / 256) q) (replicate_snoc n 255)

all_ones : (n : ℕ) → 0 < n → int_bytes n (negsuc 0) ≡ replicate n 255
all_ones n h =
    let e : half n * 2 ≡ 256 ^ n = halves n h in
    let b : 0 < 256 ^ n = below_pow n in
    all_bits n (value n (negsuc 0)) (complement n 0 h (omega arith))

pub signed_laws : SignedLaws
unfolding be be_from be_bytes field_at signed unsigned
signed_laws =
    record {
      complement = complement;
      all_ones = all_ones;
      minus_two = refl;
      largest_byte = refl;
      smallest_byte = refl;
      last_byte = refl;
      read_minus_one = refl;
      read_smallest = refl;
    }

-- ---- bytes written over a buffer

pub there : (d : List ℕ) (i : ℕ) (src : List ℕ) → i + length src ≤ length d → at (put d i src) i (length src) ≡ src
unfolding put
there d i src h =
    let l : length (take i d) ≡ i = simp length-take (omega arith) in
    rw (drop_at (take i d) (src ++ drop (i + length src) d) i l) (take-append_seam src (drop (i + length src) d))

says_nowhere : (d : List ℕ) (i : ℕ) (src : List ℕ) → length d < 2 ^ 63 → (placed d i src).0 ≡ nowhere → length d < i + length src
unfolding placed
says_nowhere d i src b e =
    by_test (leb (i + length src) (length d))
    (λ t.
    let l : i + length src ≤ length d = leb-true _ _ t in
    let w : i + length src ≡ nowhere = simp t at e in
    absurd (omega arith))
    (λ t. leb-false _ _ t)

says_a_place : (d : List ℕ) (i : ℕ) (src : List ℕ) → length d < i + length src → (placed d i src).0 ≡ nowhere
unfolding placed
says_a_place d i src h = simp (lt-leb _ _ h)

pub placed_laws : PlacedLaws
unfolding put placed copied
placed_laws =
    record {
      over = refl;
      there = there;
      fits = refl;
      short = refl;
      empty_text = refl;
      empty_text_outside = refl;
      says_nowhere = says_nowhere;
      says_a_place = says_a_place;
      copied_short = refl;
      copied_whole = refl;
    }

-- ---- the search for a byte

found : (b : ℕ) (s : List ℕ) (i : ℕ) → index_of b s ≡ some i → (get_or s i 0 ≡ b) × ((j : ℕ) → j < i → get_or s j 0 ≡ b → ⊥)
unfolding index_of
found b [] i e = impossible cc
found b (x ∷ s) i e =
    by_test (eqb x b)
    (λ t. let z : i ≡ 0 = cc in rw z (eqb-true x b t, λ j h q. omega arith))
    (λ t.
    let w = found_later (index_of b s) i (rw t at e) in
    let r = found b s w.0 w.1 in
    rw w.2 (r.0, earlier w.0 (eqb-false x b t) r.1))
  where
    earlier : (k : ℕ) → (x ≡ b → ⊥) → ((j : ℕ) → j < k → get_or s j 0 ≡ b → ⊥) → (j : ℕ) → j < suc k → get_or (x ∷ s) j 0 ≡ b → ⊥
    earlier k n r zero h q = n q
    earlier k n r (suc j) h q = r j (le_of_suc-le-suc h) q

missing : (b : ℕ) (s : List ℕ) → index_of b s ≡ none → (j : ℕ) → j < length s → get_or s j 0 ≡ b → ⊥
unfolding index_of
missing b [] e j h q = omega arith
missing b (x ∷ s) e j h q =
    by_test (eqb x b)
    (λ t. impossible cc)
    (λ t. at_place (eqb-false x b t) (missing b s (nothing_later (index_of b s) (rw t at e))) j h q)
  where
    at_place : (x ≡ b → ⊥) → ((j : ℕ) → j < length s → get_or s j 0 ≡ b → ⊥) → (j : ℕ) → j < length (x ∷ s) → get_or (x ∷ s) j 0 ≡ b → ⊥
    at_place n r zero h q = n q
    at_place n r (suc j) h q = r j (le_of_suc-le-suc h) q

pub find_laws : FindLawsOf
find_laws = record { found = λ b s i e. (found_below b s i e, (found b s i e).0, (found b s i e).1); missing = missing }

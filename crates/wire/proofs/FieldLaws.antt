-- Fields and their bytes, both ways: a number and the bytes that spell it, a signed number and the value that stands for it, a field at its
-- place in a list. Bytes are numbers below 256 (`are_bytes`).
use mathlib.Core.Path.{◌≡◌, refl, sym, ap, ◌∙◌}
use mathlib.Core.Bool.{Bool, true, false, ◌&&◌}
use mathlib.Core.List.{List, [], ◌∷◌, ◌++◌}
use mathlib.Core.Option.{Option, some, none}
use Prim.Native.Nat.{ℕ, zero, suc, ◌+◌, ◌*◌, ◌-◌, ◌/◌, ◌%◌, ◌^◌, ◌≤◌, ◌<◌}
use native.Mathlib.Nat.{div-lt_iff_lt-mul, div-add-mod', mod-eq_of_lt, add-zero, pow-suc}
use native.Mathlib.Numerals.{add-one}
use native.Mathlib.Omega.{arith}
use lib.ListN.{length, drop, get_or, length-append, length-drop, take-append-drop}
use lib.Seq.{take-suc, take_at, drop_at, drop-drop, get_or-drop}
use lib.IntN.{ℤ, pos, negsuc}
use lib.Signed.{mag}
use lib.Dec.{leb, ltb}
use lib.Pow.{are_bytes}
use borrow.Author.Tests.{lt-ltb, le-ltb, le-leb, lt-leb, ltb-true, ltb-false, leb-true}
use Rattle.wire.specs.Bytes.{be, be_from, be_bytes, at}
use Rattle.wire.specs.Field.{field_at, signed, unsigned}
use Rattle.wire.specs.Int.{half, int, int_at, int_bytes}
use Rattle.std.specs.Prelude.{Option as Answer, Some}
use Rattle.wire.specs.Answer.{value_of}
use Rattle.wire.proofs.Laws.{be_snoc, be_more, be_none, length_be_bytes, more, by_test, impossible}

-- ---- a number and the bytes that spell it

pub be_be_bytes : (n v : ℕ) → v < 256 ^ n → be (be_bytes n v) ≡ v
unfolding be be_from be_bytes
be_be_bytes zero v h = omega arith
be_be_bytes (suc n) v h =
    let z : 0 < 256 = omega arith in
    let l : v / 256 < 256 ^ n = (div-lt_iff_lt-mul z).1 (rw pow-suc at h) in
    be_snoc (be_bytes n (v / 256)) (v % 256) ∙ rw (be_be_bytes n (v / 256) l) (div-add-mod' v 256)

be_bytes_more : (n v b : ℕ) → b < 256 → be_bytes (suc n) (v * 256 + b) ≡ be_bytes n v ++ (b ∷ [])
unfolding be_bytes
be_bytes_more n v b h =
    let q : (v * 256 + b) / 256 ≡ v = omega arith in
    let r : (v * 256 + b) % 256 ≡ b = omega arith in
    rw (q, r)

-- a byte is its own number
pub be_bytes_one : (b : ℕ) → b < 256 → be_bytes 1 b ≡ b ∷ []
unfolding be_bytes
be_bytes_one b h = let r : b % 256 ≡ b = mod-eq_of_lt h in rw r

pub be_one : (s : List ℕ) (i : ℕ) → i < length s → be (at s i 1) ≡ get_or s i 0
be_one s i h =
    let l : i + 0 < length s = omega arith in
    be_more s i 0 l ∙ rw (be_none, add-zero) (omega arith)

both : (a b : Bool) → (a && b) ≡ true → (a ≡ true) × (b ≡ true)
both true b e = (refl, e)
both false b e = impossible cc

pub first_byte : (x : ℕ) (s : List ℕ) → are_bytes (x ∷ s) ≡ true → (x < 256) × (are_bytes s ≡ true)
first_byte x s e = let p = both (ltb x 256) (are_bytes s) e in (ltb-true x 256 p.0, p.1)

-- an element is a byte, and so is the 0 past the end
pub byte_at : (s : List ℕ) (i : ℕ) → are_bytes s ≡ true → get_or s i 0 < 256
byte_at [] i e = omega arith
byte_at (x ∷ s) zero e = (first_byte x s e).0
byte_at (x ∷ s) (suc i) e = byte_at s i (first_byte x s e).1

-- the bytes of the number that a part of a list spells are that part
pub part_bytes : (s : List ℕ) (i n : ℕ) → are_bytes s ≡ true → i + n ≤ length s → (be_bytes n (be (at s i n)) ≡ at s i n) × (be (at s i n) < 256 ^ n)
unfolding be_bytes
part_bytes s i zero e h = (refl, rw be_none (omega arith))
part_bytes s i (suc n) e h =
    let l : i + n < length s = omega arith in
    let k : n < length (drop i s) = simp length-drop (omega arith) in
    let r = part_bytes s i n e (omega arith) in
    let b : get_or s (i + n) 0 < 256 = byte_at s (i + n) e in
    let t : at s i (n + 1) ≡ at s i n ++ (get_or s (i + n) 0 ∷ []) = rw (add-one, take-suc (drop i s) n 0 k, get_or-drop) in
    rw (← add-one n, be_more s i n l, t)
    (be_bytes_more n (be (at s i n)) (get_or s (i + n) 0) b ∙ ap (λ (x : List ℕ). x ++ (get_or s (i + n) 0 ∷ [])) r.0, more n r.1 b)

-- ---- a signed number and the value that stands for it

module _ (half : ℕ) where
  pub unsigned_below : (z : ℤ) → mag z < half → unsigned half z < half * 2
  unfolding unsigned
  unsigned_below (pos n) h = omega arith
  unsigned_below (negsuc n) h = omega arith

  pub signed_unsigned : (z : ℤ) → mag z < half → signed half (unsigned half z) ≡ z
  unfolding signed unsigned
  signed_unsigned (pos n) h = simp (lt-ltb n half h)
  signed_unsigned (negsuc n) h =
      let l : half ≤ half * 2 - 1 - n = omega arith in
      let e : half * 2 - 1 - (half * 2 - 1 - n) ≡ n = omega arith in
      simp (le-ltb (half * 2 - 1 - n) half l, e)

  module _ (v : ℕ) (h : v < half * 2) where
    pub unsigned_signed : unsigned half (signed half v) ≡ v
    unfolding signed unsigned
    unsigned_signed =
        by_test (ltb v half)
        (λ t. simp t)
        (λ t. simp t (omega arith))

    pub signed_within : mag (signed half v) < half
    unfolding signed
    signed_within =
        by_test (ltb v half)
        (λ t. let l : v < half = ltb-true v half t in simp t l)
        (λ t. let l : half ≤ v = ltb-false v half t in simp t (omega arith))

-- ---- a field that was read

-- by an answer's contract, and which answer it is
pub told : {F A : Type 0} (f : F → Option A) {r x : F} {o : Option A} → f r ≡ o → r ≡ x → o ≡ f x
told f h e = sym h ∙ ap f e

pub value_below : {r : Answer ℕ} {v m : ℕ} → r ≡ Some v → value_of r < m → v < m
value_below e h = rw e at h

-- ---- a field that is not cut

pub field_within : (n : ℕ) (s : List ℕ) (i v : ℕ) → field_at n s i ≡ some v → i + n ≤ length s
unfolding field_at
field_within n s i v e =
    by_test (leb (i + n) (length s))
    (λ t. leb-true _ _ t)
    (λ t. impossible cc)

pub field_whole : (n : ℕ) (s : List ℕ) (i : ℕ) → i + n ≤ length s → field_at n s i ≡ some (be (at s i n))
unfolding field_at
field_whole n s i h = simp (le-leb _ _ h)

pub field_cut : (n : ℕ) (s : List ℕ) (i : ℕ) → length s < i + n → field_at n s i ≡ none
unfolding field_at
field_cut n s i h = simp (lt-leb _ _ h)

pub int_whole : (n : ℕ) (s : List ℕ) (i : ℕ) → i + n ≤ length s → int_at n s i ≡ some (int n (be (at s i n)))
int_whole n s i h = rw (field_whole n s i h)

pub int_within : (n : ℕ) (s : List ℕ) (i : ℕ) (z : ℤ) → int_at n s i ≡ some z → i + n ≤ length s
unfolding field_at
int_within n s i z e =
    by_test (leb (i + n) (length s))
    (λ t. leb-true _ _ t)
    (λ t. let w : none ≡ some z = simp t at e in impossible cc)

-- ---- a field at its place: what the list holds from there on is the field's bytes and the rest

-- from the bytes to the number
pub part_read : (n : ℕ) (s : List ℕ) (i v : ℕ) (rest : List ℕ) → v < 256 ^ n → drop i s ≡ be_bytes n v ++ rest → (be (at s i n) ≡ v) × (drop (i + n) s ≡ rest)
part_read n s i v rest h e = (
  rw (e, take_at (be_bytes n v) rest n (length_be_bytes n v)) (be_be_bytes n v h),
  sym (drop-drop n i s) ∙ rw (e, drop_at (be_bytes n v) rest n (length_be_bytes n v)),
)

pub field_read : (n : ℕ) (s : List ℕ) (i v : ℕ) (rest : List ℕ) → 0 < n → v < 256 ^ n → drop i s ≡ be_bytes n v ++ rest → (field_at n s i ≡ some v) × (drop (i + n) s ≡ rest)
field_read n s i v rest z h e =
    let p = part_read n s i v rest h e in
    let l : length s - i ≡ n + length rest = sym (length-drop i s) ∙ ap length e ∙ simp (length-append, length_be_bytes) in
    (field_whole n s i (omega arith) ∙ ap some p.0, p.1)

-- from the number to the bytes
pub part_there : (n : ℕ) (s : List ℕ) (i : ℕ) → are_bytes s ≡ true → i + n ≤ length s → drop i s ≡ be_bytes n (be (at s i n)) ++ drop (i + n) s
part_there n s i e h = rw ((part_bytes s i n e h).0, ← drop-drop n i s) (sym (take-append-drop n (drop i s)))

pub field_there : (n : ℕ) (s : List ℕ) (i v : ℕ) → are_bytes s ≡ true → field_at n s i ≡ some v → (i + n ≤ length s) × (v < 256 ^ n) × (drop i s ≡ be_bytes n v ++ drop (i + n) s)
field_there n s i v e f =
    let l : i + n ≤ length s = field_within n s i v f in
    let w : be (at s i n) ≡ v = cc (field_whole n s i l) in
    (l, rw w at (part_bytes s i n e l).1, rw w at (part_there n s i e l))

-- ---- a signed field at its place, the same

-- each value is negative or not
pub halves : (n : ℕ) → 0 < n → half n * 2 ≡ 256 ^ n
halves zero h = absurd (omega arith)
halves (suc n) h = rw pow-suc (omega arith)

pub value_fits : (n : ℕ) (z : ℤ) → 0 < n → mag z < half n → unsigned (half n) z < 256 ^ n
value_fits n z h b = omega (arith, halves n h, unsigned_below (half n) z b)

module _ (n : ℕ) (s : List ℕ) (i : ℕ) (h : 0 < n) where
  pub int_part_read : (z : ℤ) (rest : List ℕ) → mag z < half n → drop i s ≡ int_bytes n z ++ rest → (int n (be (at s i n)) ≡ z) × (drop (i + n) s ≡ rest)
  int_part_read z rest b e =
      let p = part_read n s i (unsigned (half n) z) rest (value_fits n z h b) e in
      (rw p.0 (signed_unsigned (half n) z b), p.1)

  pub int_read : (z : ℤ) (rest : List ℕ) → mag z < half n → drop i s ≡ int_bytes n z ++ rest → (int_at n s i ≡ some z) × (drop (i + n) s ≡ rest)
  int_read z rest b e =
      let p = field_read n s i (unsigned (half n) z) rest h (value_fits n z h b) e in
      (rw p.0 (ap some (signed_unsigned (half n) z b)), p.1)

  pub int_part_there : are_bytes s ≡ true → i + n ≤ length s
      → (mag (int n (be (at s i n))) < half n) × (drop i s ≡ int_bytes n (int n (be (at s i n))) ++ drop (i + n) s)
  int_part_there e l =
      let b : be (at s i n) < half n * 2 = rw (halves n h) (part_bytes s i n e l).1 in
      (signed_within (half n) (be (at s i n)) b, rw (unsigned_signed (half n) (be (at s i n)) b) (part_there n s i e l))

  pub int_there : (z : ℤ) → are_bytes s ≡ true → int_at n s i ≡ some z → (i + n ≤ length s) × (mag z < half n) × (drop i s ≡ int_bytes n z ++ drop (i + n) s)
  int_there z e f =
      let l : i + n ≤ length s = int_within n s i z f in
      let w : int n (be (at s i n)) ≡ z = cc (int_whole n s i l) in
      let p = int_part_there e l in
      (l, rw w at p.0, rw w at p.1)

-- The laws over all values, mostly from what the proofs of the code need.
use mathlib.Core.Path.{◌≡◌, refl, sym, ap, ◌∙◌}
use mathlib.Core.Bool.{true}
use mathlib.Core.List.{List, [], ◌∷◌, ◌++◌, append_assoc, append-nil}
use mathlib.Core.Option.{some, none}
use Prim.Native.Nat.{ℕ, zero, suc, ◌+◌, ◌*◌, ◌-◌, ◌/◌, ◌%◌, ◌^◌, ◌≤◌, ◌<◌, min}
use native.Mathlib.Nat.{div-add-mod', mod-eq_of_lt, mul-add-mod_self_right, mul_assoc, mod-lt, pow-suc, mod-one}
use native.Mathlib.Omega.{arith}
use lib.ListN.{length, take, drop, get_or, length-append, length-take, take-append-drop, drop_of_length-le}
use lib.Seq.{take_at, drop_at, drop-drop, take-append_seam, drop-append_seam, take-length}
use lib.IntN.{ℤ, negsuc}
use lib.Signed.{mag}
use lib.Pow.{are_bytes}
use borrow.Author.Tests.{lt-ltb, le-ltb, le-leb, lt-leb, eq-eqb, ne_eqb}
use Rattle.wire.specs.Bytes.{at, put, placed, copied, be, be_from, be_bytes}
use Rattle.wire.specs.Field.{field_at, signed}
use Rattle.wire.specs.Int.{half, int, int_at, int_bytes}
use Rattle.wire.specs.Find.{index_of}
use Rattle.wire.specs.AllValues.{Over, PutLaws, PlaceLaws, CopyLaws, NumberLaws, IntLaws, SearchLaws, ValueLaws}
use Rattle.wire.proofs.Laws.{length_put, length_be_bytes, be_snoc, below_pow}
use Rattle.wire.proofs.FieldLaws.{be_be_bytes, first_byte, part_bytes, field_whole, field_cut, int_read, halves, signed_unsigned}
use Rattle.wire.proofs.FieldLaws.{unsigned_signed, signed_within, value_fits}
use Rattle.wire.proofs.Cases.{there, order_laws}

-- ---- written over a buffer

over : (d : List ℕ) (i : ℕ) (src : List ℕ) → i + length src ≤ length d → Over d i src (put d i src)
unfolding put
over d i src h =
    let l : length (take i d) ≡ i = simp length-take (omega arith) in
    let m : length (take i d ++ src) ≡ i + length src = simp (length-append, l) (omega arith) in
    let t : List ℕ = drop (i + length src) d in
    let a : take i d ++ (src ++ t) ≡ (take i d ++ src) ++ t = sym (append_assoc (take i d) src t) in
    record {
      front = take_at (take i d) (src ++ drop (i + length src) d) i l;
      written = there d i src h;
      rest = rw a (drop_at (take i d ++ src) (drop (i + length src) d) (i + length src) m);
      same_length = length_put d src i h;
    }

only : (d : List ℕ) (i : ℕ) (src w : List ℕ) → i + length src ≤ length d → Over d i src w → w ≡ put d i src
unfolding put
only d i src w h x =
    let a : w ≡ take i w ++ drop i w = sym (take-append-drop i w) in
    let b : drop i w ≡ at w i (length src) ++ drop (i + length src) w =
    sym (take-append-drop (length src) (drop i w)) ∙ rw (drop-drop (length src) i w) in
    a ∙ rw (b, x.front, x.written, x.rest)

between : (before old src behind : List ℕ) → length old ≡ length src → put (before ++ (old ++ behind)) (length before) src ≡ before ++ (src ++ behind)
unfolding put
between before old src behind e =
    let d : List ℕ = before ++ (old ++ behind) in
    let t : take (length before) d ≡ before = take-append_seam before (old ++ behind) in
    let r : drop (length before + length src) d ≡ behind =
    (rw (← e, ← drop-drop (length old) (length before) d, drop-append_seam before (old ++ behind)) (drop-append_seam old behind)) in
    rw (t, r)

pub put_laws : PutLaws
put_laws = record { over = over; only = only; between = between }

pub place_laws : PlaceLaws
unfolding placed
place_laws = record { fits = λ d i src h. simp (le-leb _ _ h); short = λ d i src h. simp (lt-leb _ _ h) }

copy_whole : (d src : List ℕ) → length src ≤ length d → copied d src ≡ (length src, src ++ drop (length src) d)
unfolding copied put
copy_whole d src h =
    let m : min (length src) (length d) ≡ length src = omega arith in
    let z : 0 + length src ≡ length src = omega arith in
    rw (m, take-length src, z)

copy_part : (d src : List ℕ) → length d ≤ length src → copied d src ≡ (length d, take (length d) src)
unfolding copied put
copy_part d src h =
    let m : min (length src) (length d) ≡ length d = omega arith in
    let t : length (take (length d) src) ≡ length d = simp length-take (omega arith) in
    let k : length d ≤ 0 + length (take (length d) src) = omega arith in
    rw (m, drop_of_length-le d k, append-nil)

pub copy_laws : CopyLaws
copy_laws = record { whole = copy_whole; part = copy_part }

-- ---- numbers

bytes_back : (s : List ℕ) → are_bytes s ≡ true → (be_bytes (length s) (be s) ≡ s) × (be s < 256 ^ length s)
bytes_back s e =
    let w = part_bytes s 0 (length s) e (omega arith) in
    rw (take-length s) at w

bytes_snoc : (s : List ℕ) (b : ℕ) → are_bytes s ≡ true → b < 256 → are_bytes (s ++ (b ∷ [])) ≡ true
bytes_snoc [] b e h = rw (lt-ltb b 256 h)
bytes_snoc (c ∷ s) b e h = let f = first_byte c s e in rw (lt-ltb c 256 f.0, bytes_snoc s b f.1 h)

are_bytes_lem : (n v : ℕ) → are_bytes (be_bytes n v) ≡ true
unfolding be_bytes
are_bytes_lem zero v = refl
are_bytes_lem (suc n) v = let z : 0 < 256 = omega arith in bytes_snoc (be_bytes n (v / 256)) (v % 256) (are_bytes_lem n (v / 256)) (mod-lt v z)

mod_more : (p a : ℕ) → 0 < p → (a / 256) % p * 256 + a % 256 ≡ a % (p * 256)
mod_more p a h =
    let q : ℕ = a / 256 / p in
    let x : ℕ = (a / 256) % p in
    let y : ℕ = a % 256 in
    let z : 0 < 256 = omega arith in
    let lx : x < p = mod-lt (a / 256) h in
    let ly : y < 256 = mod-lt a z in
    let e₁ : a / 256 * 256 + y ≡ a = div-add-mod' a 256 in
    let e₂ : q * p + x ≡ a / 256 = div-add-mod' (a / 256) p in
    let e₃ : q * p * 256 ≡ q * (p * 256) = mul_assoc q p 256 in
    let e : a ≡ q * (p * 256) + (x * 256 + y) = omega arith in
    let l : x * 256 + y < p * 256 = omega arith in
    sym (ap (λ (v : ℕ). v % (p * 256)) e ∙ mul-add-mod_self_right q (p * 256) (x * 256 + y) ∙ mod-eq_of_lt l)

-- the bytes of a number say its lowest bits
pub be_modulo : (n v : ℕ) → be (be_bytes n v) ≡ v % 256 ^ n
unfolding be be_from be_bytes
be_modulo zero v = sym (mod-one v)
be_modulo (suc n) v = be_snoc (be_bytes n (v / 256)) (v % 256) ∙ rw (be_modulo n (v / 256), pow-suc) (mod_more (256 ^ n) v (below_pow n))

none_is_zero : be [] ≡ 0
unfolding be be_from
none_is_zero = refl

field : (n : ℕ) (s t u : List ℕ) → length t ≡ n → field_at n (s ++ (t ++ u)) (length s) ≡ some (be t)
field n s t u e =
    let l : length s + n ≤ length (s ++ (t ++ u)) = simp length-append (omega arith) in
    let p : at (s ++ (t ++ u)) (length s) n ≡ t = rw (drop-append_seam s (t ++ u)) (take_at t u n e) in
    field_whole n (s ++ (t ++ u)) (length s) l ∙ rw p

pub number_laws : NumberLaws
number_laws =
    record {
      number_back = be_be_bytes;
      modulo = be_modulo;
      bytes_back = λ s e. (bytes_back s e).0;
      below = λ s e. (bytes_back s e).1;
      bytes = λ n v. (length_be_bytes n v, are_bytes_lem n v);
      no_bytes = none_is_zero;
      first = order_laws.first_is_highest;
      field = field;
      field_cut = field_cut;
    }

-- ---- signed numbers

negative : (n v : ℕ) → 0 < n → half n ≤ v → v < 256 ^ n → (k : ℕ) × (int n v ≡ negsuc k) × (v + (k + 1) ≡ 256 ^ n)
unfolding signed
negative n v z h b =
    let e : half n * 2 ≡ 256 ^ n = halves n z in
    (half n * 2 - 1 - v, simp (le-ltb v (half n) h), omega arith)

int_field : (n : ℕ) (z : ℤ) (s u : List ℕ) → 0 < n → mag z < half n → int_at n (s ++ (int_bytes n z ++ u)) (length s) ≡ some z
int_field n z s u h b = (int_read n (s ++ (int_bytes n z ++ u)) (length s) h z u b (drop-append_seam s (int_bytes n z ++ u))).0

int_cut : (n : ℕ) (s : List ℕ) (i : ℕ) → length s < i + n → int_at n s i ≡ none
int_cut n s i h = rw (field_cut n s i h)

twice : (n v : ℕ) → 0 < n → v < 256 ^ n → v < half n * 2
twice n v z h = let e : half n * 2 ≡ 256 ^ n = halves n z in omega arith

pub int_laws : IntLaws
unfolding signed
int_laws =
    record {
      not_negative = λ n v h. simp (lt-ltb v (half n) h);
      negative = negative;
      sign = λ n v h. le-leb _ _ h;
      no_sign = λ n v h. lt-leb _ _ h;
      halves = λ n z. let e : half n * 2 ≡ 256 ^ n = halves n z in omega arith;
      number_back = λ n z h. signed_unsigned (half n) z h;
      value_back = λ n v z h. unsigned_signed (half n) v (twice n v z h);
      value_below = λ n z h b. value_fits n z h b;
      number_within = λ n v z h. signed_within (half n) v (twice n v z h);
      field = int_field;
      field_cut = int_cut;
    }

-- ---- the search for a byte

nowhere_there : (b : ℕ) (s : List ℕ) → ((j : ℕ) → j < length s → get_or s j 0 ≡ b → ⊥) → index_of b s ≡ none
unfolding index_of
nowhere_there b [] f = refl
nowhere_there b (x ∷ s) f =
    rw (ne_eqb x b (λ e. f 0 (omega arith) e), nowhere_there b s (λ j h e. f (suc j) (omega arith) e))

first : (b : ℕ) (s t : List ℕ) → ((j : ℕ) → j < length s → get_or s j 0 ≡ b → ⊥) → index_of b (s ++ (b ∷ t)) ≡ some (length s)
unfolding index_of
first b [] t f = rw (eq-eqb b b refl)
first b (x ∷ s) t f =
    rw (ne_eqb x b (λ e. f 0 (omega arith) e), first b s t (λ j h e. f (suc j) (omega arith) e)) (ap some (omega arith))

pub search_laws : SearchLaws
search_laws = record { first = first; nowhere_there = nowhere_there }

pub value_laws : ValueLaws
value_laws =
    record {
      found = λ v. refl;
      not_found = refl;
      signed = λ v. refl;
      signed_cut = refl;
      size = λ v. refl;
      no_size = refl;
    }

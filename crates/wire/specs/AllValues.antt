-- Laws over all values of the definitions of bytes, fields and searches: SCOPE 1.2. What is written over a buffer leaves its front and its rest as
-- they were; a number and its bytes, and a signed number and its value, are inverse to each other over their whole ranges, at every width.
use Rattle.std.specs.Prelude.{◌≡◌, true, false, List, [], ◌∷◌, ◌++◌, ℕ, ◌+◌, ◌*◌, ◌%◌, ◌^◌, ◌≤◌, ◌<◌, length, take, drop, get_or, ℤ, pos, negsuc, Some, None}
use Rattle.std.proofs.Math.Option.{some, none}
use Rattle.std.specs.Int.Signed.{mag}
use Rattle.std.proofs.Math.Pow.{are_bytes}
use Rattle.wire.specs.Answer.{maybe, value_of}
use Rattle.wire.specs.Bytes.{at, put, placed, copied, be, be_bytes}
use Rattle.wire.specs.Field.{field_at}
use Rattle.wire.specs.Int.{half, is_negative, int, value, int_at, int_bytes}
use Rattle.wire.specs.Find.{index_of}

-- ---- bytes written over a buffer

-- w is d with src over it from place i on: the front, what was written, the rest, and the length
pub record Over (d : List ℕ) (i : ℕ) (src w : List ℕ) : Type 0 where
  pub front : take i w ≡ take i d
  pub written : at w i (length src) ≡ src
  pub rest : drop (i + length src) w ≡ drop (i + length src) d
  pub same_length : length w ≡ length d

pub record PutLaws : Type 0 where
  pub over : (d : List ℕ) (i : ℕ) (src : List ℕ) → i + length src ≤ length d → Over d i src (put d i src)
  -- and nothing else is so
  pub only : (d : List ℕ) (i : ℕ) (src w : List ℕ) → i + length src ≤ length d → Over d i src w → w ≡ put d i src
  -- a buffer given as what stands before, what is written over and what stands behind
  pub between : (before old src behind : List ℕ) → length old ≡ length src
      → put (before ++ (old ++ behind)) (length before) src ≡ before ++ (src ++ behind)

-- a text is placed exactly where it fits, with the place after it
pub record PlaceLaws : Type 0 where
  pub fits : (d : List ℕ) (i : ℕ) (src : List ℕ) → i + length src ≤ length d → placed d i src ≡ (i + length src, put d i src)
  pub short : (d : List ℕ) (i : ℕ) (src : List ℕ) → length d < i + length src → placed d i src ≡ (18446744073709551615, d)

-- as much is copied as both have, over the front
pub record CopyLaws : Type 0 where
  pub whole : (d src : List ℕ) → length src ≤ length d → copied d src ≡ (length src, src ++ drop (length src) d)
  pub part : (d src : List ℕ) → length d ≤ length src → copied d src ≡ (length d, take (length d) src)

-- ---- numbers and bytes

pub record NumberLaws : Type 0 where
  -- a number of n bytes and its bytes, both ways
  pub number_back : (n v : ℕ) → v < 256 ^ n → be (be_bytes n v) ≡ v
  -- of a larger number the n lowest bytes
  pub modulo : (n v : ℕ) → be (be_bytes n v) ≡ v % 256 ^ n
  pub bytes_back : (s : List ℕ) → are_bytes s ≡ true → be_bytes (length s) (be s) ≡ s
  pub below : (s : List ℕ) → are_bytes s ≡ true → be s < 256 ^ length s
  pub bytes : (n v : ℕ) → (length (be_bytes n v) ≡ n) × (are_bytes (be_bytes n v) ≡ true)
  -- no bytes are 0, and a byte counts for as much as all behind it together, and one
  pub no_bytes : be [] ≡ 0
  pub first : (b : ℕ) (s : List ℕ) → be (b ∷ s) ≡ b * 256 ^ length s + be s
  -- a field is there exactly where its last byte is
  pub field : (n : ℕ) (s t u : List ℕ) → length t ≡ n → field_at n (s ++ (t ++ u)) (length s) ≡ some (be t)
  pub field_cut : (n : ℕ) (s : List ℕ) (i : ℕ) → length s < i + n → field_at n s i ≡ none

-- ---- signed numbers, of any width

pub record IntLaws : Type 0 where
  -- the lower half of the values stand for themselves, the upper half for the value less 256^n
  pub not_negative : (n v : ℕ) → v < half n → int n v ≡ pos v
  pub negative : (n v : ℕ) → 0 < n → half n ≤ v → v < 256 ^ n → (k : ℕ) × (int n v ≡ negsuc k) × (v + (k + 1) ≡ 256 ^ n)
  pub sign : (n v : ℕ) → half n ≤ v → is_negative n v ≡ true
  pub no_sign : (n v : ℕ) → v < half n → is_negative n v ≡ false
  -- a half is half of the values
  pub halves : (n : ℕ) → 0 < n → half n + half n ≡ 256 ^ n
  -- numbers and values, both ways
  pub number_back : (n : ℕ) (z : ℤ) → mag z < half n → int n (value n z) ≡ z
  pub value_back : (n v : ℕ) → 0 < n → v < 256 ^ n → value n (int n v) ≡ v
  pub value_below : (n : ℕ) (z : ℤ) → 0 < n → mag z < half n → value n z < 256 ^ n
  pub number_within : (n v : ℕ) → 0 < n → v < 256 ^ n → mag (int n v) < half n
  -- a signed field: its bytes are read back wherever they stand, and a cut one is none
  pub field : (n : ℕ) (z : ℤ) (s u : List ℕ) → 0 < n → mag z < half n → int_at n (s ++ (int_bytes n z ++ u)) (length s) ≡ some z
  pub field_cut : (n : ℕ) (s : List ℕ) (i : ℕ) → length s < i + n → int_at n s i ≡ none

-- ---- the search for a byte, both ways

pub record SearchLaws : Type 0 where
  pub first : (b : ℕ) (s t : List ℕ) → ((j : ℕ) → j < length s → get_or s j 0 ≡ b → ⊥) → index_of b (s ++ (b ∷ t)) ≡ some (length s)
  pub nowhere_there : (b : ℕ) (s : List ℕ) → ((j : ℕ) → j < length s → get_or s j 0 ≡ b → ⊥) → index_of b s ≡ none

-- ---- what each answer says

pub record ValueLaws : Type 0 where
  -- a place, and a field of any width, not signed and signed
  pub found : (v : ℕ) → maybe (Some v) ≡ some v
  pub not_found : maybe {A = ℕ} None ≡ none
  pub signed : (v : ℤ) → maybe (Some v) ≡ some v
  pub signed_cut : maybe {A = ℤ} None ≡ none
  pub size : (v : ℕ) → value_of (Some v) ≡ v
  pub no_size : value_of None ≡ 0

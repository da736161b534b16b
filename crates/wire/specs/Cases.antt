-- Cases and laws of the definitions of bytes and fields, in plain numbers: SCOPE 1.2. Numbers stand on the wire with their highest byte first, and
-- a signed number of n bytes stands there as its two's complement.
use Rattle.std.specs.Prelude.{◌≡◌, List, [], ◌∷◌, ℕ, ◌+◌, ◌*◌, ◌^◌, ◌≤◌, ◌<◌, length, get_or, replicate, pos, negsuc}
use Rattle.std.proofs.Math.Option.{some, none}
use Rattle.wire.specs.Bytes.{at, put, nowhere, placed, copied, be, be_bytes}
use Rattle.wire.specs.Field.{field_at}
use Rattle.wire.specs.Int.{half, int, value, int_at, int_bytes}
use Rattle.wire.specs.Find.{index_of}

-- the order of bytes
pub record OrderLaws : Type 0 where
  pub written : be_bytes 4 0x01020304 ≡ 1 ∷ 2 ∷ 3 ∷ 4 ∷ []
  pub read : be (1 ∷ 2 ∷ 3 ∷ 4 ∷ []) ≡ 0x01020304
  pub padded : be_bytes 8 0x16 ≡ 0 ∷ 0 ∷ 0 ∷ 0 ∷ 0 ∷ 0 ∷ 0 ∷ 0x16 ∷ []
  -- the first byte counts for as much as all bytes after it together, and one
  pub first_is_highest : (b : ℕ) (s : List ℕ) → be (b ∷ s) ≡ b * 256 ^ length s + be s
  -- a field is there as soon as its last byte is
  pub whole_field : field_at 2 (9 ∷ 1 ∷ 2 ∷ []) 1 ≡ some 0x0102
  pub cut_field : field_at 2 (9 ∷ 1 ∷ []) 1 ≡ none
  pub far_field : field_at 1 (9 ∷ 1 ∷ []) 2 ≡ none

-- two's complement
pub record SignedLaws : Type 0 where
  -- a negative number's value and its magnitude are together one more than the largest value
  pub complement : (n k : ℕ) → 0 < n → k < half n → value n (negsuc k) + (k + 1) ≡ 256 ^ n
  -- -1 is all ones
  pub all_ones : (n : ℕ) → 0 < n → int_bytes n (negsuc 0) ≡ replicate n 255
  pub minus_two : int_bytes 4 (negsuc 1) ≡ 255 ∷ 255 ∷ 255 ∷ 254 ∷ []
  pub largest_byte : int 1 127 ≡ pos 127
  pub smallest_byte : int 1 128 ≡ negsuc 127
  pub last_byte : int 1 255 ≡ negsuc 0
  pub read_minus_one : int_at 2 (255 ∷ 255 ∷ []) 0 ≡ some (negsuc 0)
  pub read_smallest : int_at 2 (128 ∷ 0 ∷ []) 0 ≡ some (negsuc 32767)

-- bytes written over a buffer
pub record PlacedLaws : Type 0 where
  pub over : put (1 ∷ 2 ∷ 3 ∷ 4 ∷ []) 1 (8 ∷ 9 ∷ []) ≡ 1 ∷ 8 ∷ 9 ∷ 4 ∷ []
  pub there : (d : List ℕ) (i : ℕ) (src : List ℕ) → i + length src ≤ length d → at (put d i src) i (length src) ≡ src
  pub fits : placed (1 ∷ 2 ∷ 3 ∷ []) 1 (8 ∷ 9 ∷ []) ≡ (3, 1 ∷ 8 ∷ 9 ∷ [])
  pub short : placed (1 ∷ 2 ∷ 3 ∷ []) 2 (8 ∷ 9 ∷ []) ≡ (nowhere, 1 ∷ 2 ∷ 3 ∷ [])
  pub empty_text : placed (1 ∷ []) 1 [] ≡ (1, 1 ∷ [])
  pub empty_text_outside : placed (1 ∷ []) 2 [] ≡ (nowhere, 1 ∷ [])
  -- in a buffer that any machine can have, nowhere is the answer exactly where the text does not fit
  pub says_nowhere : (d : List ℕ) (i : ℕ) (src : List ℕ) → length d < 2 ^ 63 → (placed d i src).0 ≡ nowhere → length d < i + length src
  pub says_a_place : (d : List ℕ) (i : ℕ) (src : List ℕ) → length d < i + length src → (placed d i src).0 ≡ nowhere
  pub copied_short : copied (1 ∷ 2 ∷ []) (7 ∷ 8 ∷ 9 ∷ []) ≡ (2, 7 ∷ 8 ∷ [])
  pub copied_whole : copied (1 ∷ 2 ∷ 3 ∷ []) (7 ∷ []) ≡ (1, 7 ∷ 2 ∷ 3 ∷ [])

-- the search for a byte: it stands at the place that is found and at none before, or at none at all
pub record FindLawsOf : Type 0 where
  pub found : (b : ℕ) (s : List ℕ) (i : ℕ) → index_of b s ≡ some i
      → (i < length s) × (get_or s i 0 ≡ b) × ((j : ℕ) → j < i → get_or s j 0 ≡ b → ⊥)
  pub missing : (b : ℕ) (s : List ℕ) → index_of b s ≡ none → (j : ℕ) → j < length s → get_or s j 0 ≡ b → ⊥

-- What data give, by their first letter and their layout: which letters are boundaries, which refusal cut or short data get, that all other data are
-- read, and that the parts that an answer names lie within the data. SCOPE 3.9; 01, "Where each call turns back", 14 to 18.
use Rattle.std.specs.Prelude.{◌≡◌, Bool, true, false, List, [], ◌∷◌, ◌++◌, ℕ, ◌+◌, ◌≤◌, ◌<◌, ◌^◌, length, replicate, pos, negsuc}
use Rattle.wire.specs.Bytes.{be}
use Rattle.wire.specs.Find.{NoZero}
use Rattle.pgoutput.specs.Boundary.{Said, begin, commit, message, no_boundary, refused, boundary_of}

-- which value data were read as
abbrev pub is_begin : Said → Bool
is_begin (begin final time xid) = true
is_begin (commit position end time) = false
is_begin (message flag position pf pl cf cl) = false
is_begin no_boundary = false
is_begin (refused n) = false

abbrev pub is_commit : Said → Bool
is_commit (begin final time xid) = false
is_commit (commit position end time) = true
is_commit (message flag position pf pl cf cl) = false
is_commit no_boundary = false
is_commit (refused n) = false

-- the fields of a Message up to its prefix, in bytes: flags, a position of 8 bytes, a prefix
abbrev pub message_front : ℕ → List ℕ → List ℕ → List ℕ → List ℕ
message_front flags position prefix rest = 77 ∷ flags ∷ (position ++ (prefix ++ rest))

-- by the letter: only `B`, `C` and `M` are boundaries, and data of these are a value or refused
pub record LetterLaws : Type 0 where
  pub no_data : boundary_of [] ≡ no_boundary
  pub other_letter : (b : ℕ) (s : List ℕ) → (b ≡ 66 → ⊥) → (b ≡ 67 → ⊥) → (b ≡ 77 → ⊥) → boundary_of (b ∷ s) ≡ no_boundary
  pub begin_is_one : (s : List ℕ) → boundary_of (66 ∷ s) ≡ no_boundary → ⊥
  pub commit_is_one : (s : List ℕ) → boundary_of (67 ∷ s) ≡ no_boundary → ⊥
  pub message_is_one : (s : List ℕ) → boundary_of (77 ∷ s) ≡ no_boundary → ⊥

-- `B`: two fields of 64 bits, one of 32
pub record BeginRefusals : Type 0 where
  pub cut_64 : (s : List ℕ) → length s < 16 → boundary_of (66 ∷ s) ≡ refused 16
  pub cut_32 : (s : List ℕ) → 16 ≤ length s → length s < 20 → boundary_of (66 ∷ s) ≡ refused 15
  pub whole : (s : List ℕ) → 20 ≤ length s → is_begin (boundary_of (66 ∷ s)) ≡ true

-- `C`: one field of 8 bits, three of 64
pub record CommitRefusals : Type 0 where
  pub cut_8 : boundary_of (67 ∷ []) ≡ refused 14
  pub cut_64 : (s : List ℕ) → 1 ≤ length s → length s < 25 → boundary_of (67 ∷ s) ≡ refused 16
  pub whole : (s : List ℕ) → 25 ≤ length s → is_commit (boundary_of (67 ∷ s)) ≡ true

-- `M`: one field of 8 bits, one of 64, a text to a zero byte, one of 32, and that many bytes
pub record MessageRefusals : Type 0 where
  pub cut_8 : boundary_of (77 ∷ []) ≡ refused 14
  pub cut_64 : (s : List ℕ) → 1 ≤ length s → length s < 9 → boundary_of (77 ∷ s) ≡ refused 16
  pub unterminated : (flags : ℕ) (position prefix : List ℕ) → length position ≡ 8 → NoZero prefix
      → boundary_of (message_front flags position prefix []) ≡ refused 17
  pub cut_32 : (flags : ℕ) (position prefix rest : List ℕ) → length position ≡ 8 → NoZero prefix → length rest < 4
      → boundary_of (message_front flags position prefix (0 ∷ rest)) ≡ refused 15
  pub negative : (flags : ℕ) (position prefix count rest : List ℕ) → length position ≡ 8 → NoZero prefix → length count ≡ 4 → 2 ^ 31 ≤ be count
      → boundary_of (message_front flags position prefix (0 ∷ (count ++ rest))) ≡ refused 18
  pub too_short : (flags : ℕ) (position prefix count rest : List ℕ) → length position ≡ 8 → NoZero prefix → length count ≡ 4 → length rest < be count
      → boundary_of (message_front flags position prefix (0 ∷ (count ++ rest))) ≡ refused 18

-- the parts that a Message names lie within the data, whatever these are
abbrev pub PartsWithin : Type 0
PartsWithin =
    (s : List ℕ) (flag : Bool) (position pf pl cf cl : ℕ) → boundary_of s ≡ message flag position pf pl cf cl → (pf + pl ≤ length s)
    × (cf + cl ≤ length s)

-- in plain bytes
pub record BoundaryCases : Type 0 where
  pub none_without_data : boundary_of [] ≡ no_boundary
  pub relation_is_none : boundary_of (82 ∷ 0 ∷ []) ≡ no_boundary
  pub insert_is_none : boundary_of (73 ∷ []) ≡ no_boundary
  pub fourteen : boundary_of (67 ∷ []) ≡ refused 14
  pub fourteen_of_message : boundary_of (77 ∷ []) ≡ refused 14
  pub fifteen : boundary_of (66 ∷ replicate 19 7) ≡ refused 15
  pub fifteen_of_message : boundary_of (77 ∷ 1 ∷ 0 ∷ 0 ∷ 0 ∷ 0 ∷ 0 ∷ 0 ∷ 0 ∷ 9 ∷ 112 ∷ 0 ∷ 0 ∷ 0 ∷ 0 ∷ []) ≡ refused 15
  pub sixteen : boundary_of (67 ∷ replicate 24 7) ≡ refused 16
  pub sixteen_of_begin : boundary_of (66 ∷ replicate 15 7) ≡ refused 16
  pub seventeen : boundary_of (77 ∷ 1 ∷ 0 ∷ 0 ∷ 0 ∷ 0 ∷ 0 ∷ 0 ∷ 0 ∷ 9 ∷ 112 ∷ 113 ∷ []) ≡ refused 17
  pub eighteen : boundary_of (77 ∷ 1 ∷ 0 ∷ 0 ∷ 0 ∷ 0 ∷ 0 ∷ 0 ∷ 0 ∷ 9 ∷ 112 ∷ 0 ∷ 0 ∷ 0 ∷ 0 ∷ 2 ∷ 65 ∷ []) ≡ refused 18
  pub eighteen_negative : boundary_of (77 ∷ 1 ∷ 0 ∷ 0 ∷ 0 ∷ 0 ∷ 0 ∷ 0 ∷ 0 ∷ 9 ∷ 112 ∷ 0 ∷ 255 ∷ 255 ∷ 255 ∷ 255 ∷ 65 ∷ []) ≡ refused 18
  -- final position 0x10, time -1, xid 7
  pub a_begin : boundary_of (66 ∷ 0 ∷ 0 ∷ 0 ∷ 0 ∷ 0 ∷ 0 ∷ 0 ∷ 0x10 ∷ 255 ∷ 255 ∷ 255 ∷ 255 ∷ 255 ∷ 255 ∷ 255 ∷ 255 ∷ 0 ∷ 0 ∷ 0 ∷ 7 ∷ [])
      ≡ begin 0x10 (negsuc 0) 7
  -- position 0x10, end 0x20, time 3
  pub a_commit : boundary_of (67 ∷ 0 ∷ 0 ∷ 0 ∷ 0 ∷ 0 ∷ 0 ∷ 0 ∷ 0 ∷ 0x10 ∷ 0 ∷ 0 ∷ 0 ∷ 0 ∷ 0 ∷ 0 ∷ 0 ∷ 0x20 ∷ 0 ∷ 0 ∷ 0 ∷ 0 ∷ 0 ∷ 0 ∷ 0 ∷ 3 ∷ [])
      ≡ commit 0x10 0x20 (pos 3)
  -- flag, position 9, prefix "p", content "AB", and a surplus
  pub a_message : boundary_of (77 ∷ 1 ∷ 0 ∷ 0 ∷ 0 ∷ 0 ∷ 0 ∷ 0 ∷ 0 ∷ 9 ∷ 112 ∷ 0 ∷ 0 ∷ 0 ∷ 0 ∷ 2 ∷ 65 ∷ 66 ∷ 67 ∷ []) ≡ message true 9 10 1 16 2
  pub not_transactional : boundary_of (77 ∷ 2 ∷ 0 ∷ 0 ∷ 0 ∷ 0 ∷ 0 ∷ 0 ∷ 0 ∷ 9 ∷ 0 ∷ 0 ∷ 0 ∷ 0 ∷ 0 ∷ []) ≡ message false 9 10 0 15 0

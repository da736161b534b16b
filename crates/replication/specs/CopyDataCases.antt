-- Which refusal a CopyData payload gets, by its letter and its length; that no other payload is refused; and that the part that an answer names lies
-- within the payload. SCOPE 3.8; 01, "Where each call turns back", 10 to 13.
use Rattle.std.specs.Prelude.{◌≡◌, true, false, List, [], ◌∷◌, ℕ, ◌+◌, ◌≤◌, ◌<◌, length, replicate, ℤ, pos, negsuc}
use Rattle.replication.specs.CopyData.{w, k, refused, copy_data_of, is_xlog_data, is_keep_alive, asks_reply}

-- every payload, by its letter and how many bytes follow it
pub record CopyDataLaws : Type 0 where
  -- a payload without a byte: 10
  pub no_letter : copy_data_of [] ≡ refused 10
  -- `w` under 24 bytes: 11; from 24 on an XLogData
  pub w_short : (s : List ℕ) → length s < 24 → copy_data_of (119 ∷ s) ≡ refused 11
  pub w_whole : (s : List ℕ) → 24 ≤ length s → is_xlog_data (copy_data_of (119 ∷ s)) ≡ true
  -- `k` under 17 bytes: 12; from 17 on a keepalive
  pub k_short : (s : List ℕ) → length s < 17 → copy_data_of (107 ∷ s) ≡ refused 12
  pub k_whole : (s : List ℕ) → 17 ≤ length s → is_keep_alive (copy_data_of (107 ∷ s)) ≡ true
  -- any other letter, whatever follows it: 13
  pub other_letter : (b : ℕ) (s : List ℕ) → (b ≡ 119 → ⊥) → (b ≡ 107 → ⊥) → copy_data_of (b ∷ s) ≡ refused 13
  -- the data are all that follows the three fields, and nothing else
  pub data_within : (payload : List ℕ) (start end : ℕ) (time : ℤ) (from len : ℕ) → copy_data_of payload ≡ w start end time from len
      → (from ≡ 25) × (from + len ≡ length payload)

-- in plain bytes
pub record CopyDataCases : Type 0 where
  pub ten : copy_data_of [] ≡ refused 10
  pub eleven : copy_data_of (119 ∷ []) ≡ refused 11
  pub eleven_by_one : copy_data_of (119 ∷ replicate 23 7) ≡ refused 11
  pub twelve : copy_data_of (107 ∷ []) ≡ refused 12
  pub twelve_by_one : copy_data_of (107 ∷ replicate 16 7) ≡ refused 12
  pub thirteen : copy_data_of (120 ∷ replicate 24 7) ≡ refused 13
  pub thirteen_alone : copy_data_of (0 ∷ []) ≡ refused 13
  -- start 1, end 2, time -1, two bytes of data
  pub xlog_data : copy_data_of
      (119 ∷ 0 ∷ 0 ∷ 0 ∷ 0 ∷ 0 ∷ 0 ∷ 0 ∷ 1 ∷ 0 ∷ 0 ∷ 0 ∷ 0 ∷ 0 ∷ 0 ∷ 0 ∷ 2 ∷ 255 ∷ 255 ∷ 255 ∷ 255 ∷ 255 ∷ 255 ∷ 255 ∷ 255 ∷ 66 ∷ 67 ∷ [])
      ≡ w 1 2 (negsuc 0) 25 2
  -- wal_end 0x10, time 3; a reply is asked for by any byte but 0
  pub keepalive : copy_data_of (107 ∷ 0 ∷ 0 ∷ 0 ∷ 0 ∷ 0 ∷ 0 ∷ 0 ∷ 0x10 ∷ 0 ∷ 0 ∷ 0 ∷ 0 ∷ 0 ∷ 0 ∷ 0 ∷ 3 ∷ 0 ∷ []) ≡ k 0x10 (pos 3) false
  pub keepalive_reply : copy_data_of (107 ∷ 0 ∷ 0 ∷ 0 ∷ 0 ∷ 0 ∷ 0 ∷ 0 ∷ 0x10 ∷ 0 ∷ 0 ∷ 0 ∷ 0 ∷ 0 ∷ 0 ∷ 0 ∷ 3 ∷ 1 ∷ []) ≡ k 0x10 (pos 3) true
  pub keepalive_odd_reply : asks_reply (copy_data_of (107 ∷ 0 ∷ 0 ∷ 0 ∷ 0 ∷ 0 ∷ 0 ∷ 0 ∷ 0x10 ∷ 0 ∷ 0 ∷ 0 ∷ 0 ∷ 0 ∷ 0 ∷ 0 ∷ 3 ∷ 2 ∷ [])) ≡ true

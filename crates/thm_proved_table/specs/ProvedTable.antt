-- The cases marked P (SCOPE 11.1; 01, "Proved table (P) and run cases"), proved of the definitions for every filling of which they speak: any
-- tag, any bytes after a letter, any limit.
use Rattle.std.specs.Prelude.{◌≡◌, true, false, List, [], ◌∷◌, ◌++◌, ℕ, ◌+◌, ◌<◌, ◌^◌, length, replicate}
use Rattle.std.proofs.Math.Option.{Option, some, none}
use Rattle.wire.specs.Bytes.{be_bytes}
use Rattle.frames.specs.Message.{framed, front_of, in_payload, bad_length, too_large, whole}
use Rattle.framing.specs.Read.{fresh, read_of}
use Rattle.framing.specs.Read as R
use Rattle.replication.specs.CopyData.{w, k, refused as not_read, copy_data_of, is_keep_alive}
use Rattle.replication.specs.CopyData as C
use Rattle.pgoutput.specs.Boundary.{boundary_of}
use Rattle.pgoutput.specs.Boundary as B
use Rattle.pgoutput.specs.BoundaryCases.{is_begin, is_commit}
use Rattle.lsn.specs.Position.{position_of}
use Rattle.lossy.specs.Lossy.{lossy_of}

-- the outcome of a position text that is accepted: no refusal, and the position
abbrev accepted : ℕ → ℕ × ℕ
accepted p = (0, p)

-- U+FFFD before what follows
abbrev mark : List ℕ → List ℕ
mark s = 0xEF ∷ 0xBF ∷ 0xBD ∷ s

-- a header: a tag and a length field
abbrev pub headed : ℕ → ℕ → List ℕ
headed tag n = tag ∷ be_bytes 4 n

-- what a fresh reader with a limit of 10 and a buffer of 10 bytes answers to a header
abbrev pub answered : ℕ → ℕ → R.Said
answered tag n = (read_of 10 fresh (headed tag n) false (replicate 10 0)).0

-- where the data of an XLogData begin and how long they are
abbrev pub data_part : C.Said → Option (ℕ × ℕ)
data_part (w start end time from len) = some (from, len)
data_part (k end time reply) = none
data_part (not_read n) = none

-- every case, together
pub record ProvedTable : Type 0 where
  -- length 4: an empty payload, under every limit and tag
  pub length_four : (limit tag : ℕ) → front_of limit (headed tag 4) ≡ whole tag 0
  -- length 3: 6
  pub length_three : (limit tag : ℕ) → front_of limit (headed tag 3) ≡ bad_length
  -- limit 10: length 14 passes
  pub within_limit : (tag : ℕ) → front_of 10 (headed tag 14) ≡ in_payload
  -- limit 10: length 15 gives 7
  pub over_limit : (tag : ℕ) → front_of 10 (headed tag 15) ≡ too_large
  -- a payload of exactly the limit passes, and one byte more does not
  pub at_the_limit : (tag : ℕ) (payload : List ℕ) → length payload < 2 ^ 30
      → front_of (length payload) (framed tag payload) ≡ whole tag (length payload)
  pub past_the_limit : (tag limit : ℕ) (payload : List ℕ) → length payload ≡ limit + 1 → limit < 2 ^ 30
      → front_of limit (framed tag payload) ≡ too_large
  -- what a fresh reader answers to the four lengths
  pub read_four : answered 100 4 ≡ R.whole 100 0
  pub read_three : answered 100 3 ≡ R.refused 6
  pub read_within : answered 100 14 ≡ R.more
  pub read_over : answered 100 15 ≡ R.refused 7
  -- `k` with 16 bytes after the letter: 12
  pub keepalive_sixteen : (s : List ℕ) → length s ≡ 16 → copy_data_of (107 ∷ s) ≡ C.refused 12
  -- `k` with 18 passes
  pub keepalive_eighteen : (s : List ℕ) → length s ≡ 18 → is_keep_alive (copy_data_of (107 ∷ s)) ≡ true
  -- `w` with 23: 11
  pub xlog_data_short : (s : List ℕ) → length s ≡ 23 → copy_data_of (119 ∷ s) ≡ C.refused 11
  -- `w` with 24: empty data
  pub xlog_data_empty : (s : List ℕ) → length s ≡ 24 → data_part (copy_data_of (119 ∷ s)) ≡ some (25, 0)
  -- after `B`: 20 pass
  pub begin_twenty : (s : List ℕ) → length s ≡ 20 → is_begin (boundary_of (66 ∷ s)) ≡ true
  -- after `B`: 19 give 15
  pub begin_nineteen : (s : List ℕ) → length s ≡ 19 → boundary_of (66 ∷ s) ≡ B.refused 15
  -- after `C`: 25 pass
  pub commit_twenty_five : (s : List ℕ) → length s ≡ 25 → is_commit (boundary_of (67 ∷ s)) ≡ true
  -- after `C`: 24 give 16
  pub commit_twenty_four : (s : List ℕ) → length s ≡ 24 → boundary_of (67 ∷ s) ≡ B.refused 16
  -- `16/B374D848` is 0x16B374D848
  pub plain_position : position_of (49 ∷ 54 ∷ 47 ∷ 66 ∷ 51 ∷ 55 ∷ 52 ∷ 68 ∷ 56 ∷ 52 ∷ 56 ∷ []) ≡ accepted 0x16B374D848
  -- `+1/2`: 23, by 02, wish 6
  pub signed_position : position_of (43 ∷ 49 ∷ 47 ∷ 50 ∷ []) ≡ (23, 0)
  -- `100000000/0`, nine digits: 23, by 02, wish 6
  pub nine_digits : position_of (49 ∷ 48 ∷ 48 ∷ 48 ∷ 48 ∷ 48 ∷ 48 ∷ 48 ∷ 48 ∷ 47 ∷ 48 ∷ []) ≡ (23, 0)
  -- 41 E2 82 42 has one mark
  pub one_mark : lossy_of (0x41 ∷ 0xE2 ∷ 0x82 ∷ 0x42 ∷ []) ≡ 0x41 ∷ mark (0x42 ∷ [])
  -- ED A0 80 has three
  pub three_marks : lossy_of (0xED ∷ 0xA0 ∷ 0x80 ∷ []) ≡ mark (mark (mark []))

-- every refusal that these leaves give, in plain bytes, beside the cases above
pub record RefusalTable : Type 0 where
  -- 3: a buffer one byte short of the limit
  pub three : (read_of 10 fresh (headed 100 4) false (replicate 9 0)).0 ≡ R.refused 3
  -- 6: a length below 4, and a negative one
  pub six : answered 100 0 ≡ R.refused 6
  pub six_negative : answered 100 0xFFFFFFFF ≡ R.refused 6
  -- 7: a payload of one byte more than the limit
  pub seven : answered 100 15 ≡ R.refused 7
  -- 8: the input ended before a header, and in one
  pub eight : (read_of 10 fresh [] true (replicate 10 0)).0 ≡ R.refused 8
  pub eight_within : (read_of 10 (read_of 10 fresh (100 ∷ 0 ∷ []) true (replicate 10 0)).1 [] true (replicate 10 0)).0 ≡ R.refused 8
  -- 9: the input ended in a payload
  pub nine : (read_of 10 (read_of 10 fresh (headed 100 6 ++ (1 ∷ [])) true (replicate 10 0)).1 [] true (replicate 10 0)).0 ≡ R.refused 9
  -- an input that ended counts only where no byte is unread
  pub still_more : (read_of 10 fresh (100 ∷ []) true (replicate 10 0)).0 ≡ R.more
  -- 10 to 13
  pub ten : copy_data_of [] ≡ C.refused 10
  pub eleven : copy_data_of (119 ∷ []) ≡ C.refused 11
  pub twelve : copy_data_of (107 ∷ []) ≡ C.refused 12
  pub thirteen : copy_data_of (100 ∷ []) ≡ C.refused 13
  -- 14 to 18
  pub fourteen : boundary_of (77 ∷ []) ≡ B.refused 14
  pub fifteen : boundary_of (77 ∷ 0 ∷ 0 ∷ 0 ∷ 0 ∷ 0 ∷ 0 ∷ 0 ∷ 0 ∷ 1 ∷ 0 ∷ []) ≡ B.refused 15
  pub sixteen : boundary_of (66 ∷ []) ≡ B.refused 16
  pub seventeen : boundary_of (77 ∷ 0 ∷ 0 ∷ 0 ∷ 0 ∷ 0 ∷ 0 ∷ 0 ∷ 0 ∷ 1 ∷ 112 ∷ []) ≡ B.refused 17
  pub eighteen : boundary_of (77 ∷ 0 ∷ 0 ∷ 0 ∷ 0 ∷ 0 ∷ 0 ∷ 0 ∷ 0 ∷ 1 ∷ 0 ∷ 0 ∷ 0 ∷ 0 ∷ 1 ∷ []) ≡ B.refused 18
  -- 22 to 24
  pub twenty_two : position_of (49 ∷ []) ≡ (22, 0)
  pub twenty_three : position_of (47 ∷ 49 ∷ []) ≡ (23, 0)
  pub twenty_four : position_of (49 ∷ 47 ∷ []) ≡ (24, 0)

-- XLogData, field by field: after each field stands the next, and after the last the data.
use mathlib.Core.Path.{◌≡◌, refl, sym, ap, ◌∙◌}
use mathlib.Core.Bool.{true}
use mathlib.Core.List.{List, ◌∷◌, ◌++◌}
use Prim.Native.Nat.{ℕ, ◌+◌, ◌-◌, ◌≤◌, ◌<◌, ◌^◌}
use native.Mathlib.Omega.{arith}
use lib.ListN.{length, take, drop, length-append, length-drop}
use lib.Seq.{take_all, take-length}
use lib.IntN.{ℤ}
use lib.Signed.{mag}
use lib.Dec.{ltb}
use lib.Pow.{are_bytes}
use borrow.Author.Tests.{le-ltb, ltb-false}
use Rattle.wire.specs.Bytes.{be_bytes}
use Rattle.wire.specs.Int.{int_bytes}
use Rattle.wire.proofs.Laws.{length_be_bytes, by_test, impossible}
use Rattle.wire.proofs.FieldLaws.{part_read, int_part_read, int_part_there, part_there, part_bytes, first_byte}
use Rattle.replication.specs.CopyData.{w, lsn_at, time_at, xlog_of, keep_alive_of, copy_data_of, xlog_data}
use Rattle.replication.proofs.Laws.{by_letter}
use Rattle.replication.specs.CopyDataLayout.{XLogDataIsRead, SentXLogData, ReadIsXLogData}

-- ---- from the bytes to the values

laid : (s : List ℕ) (a b : ℕ) (z : ℤ) (rest : List ℕ) → a < 2 ^ 64 → b < 2 ^ 64 → mag z < 2 ^ 63
    → s ≡ be_bytes 8 a ++ (be_bytes 8 b ++ (int_bytes 8 z ++ rest)) → (xlog_of s ≡ w a b z 25 (length rest)) × (drop 24 s ≡ rest)
laid s a b z rest ha hb hz e =
    let p = part_read 8 s 0 a (be_bytes 8 b ++ (int_bytes 8 z ++ rest)) ha e in
    let q = part_read 8 s 8 b (int_bytes 8 z ++ rest) hb p.1 in
    let r = int_part_read 8 s 16 (omega arith) z rest hz q.1 in
    let l : length s ≡ 24 + length rest = ap length e ∙ simp (length-append, length_be_bytes) (omega arith) in
    let t : 24 ≤ length s = omega arith in
    let n : length s - 24 ≡ length rest = omega arith in
    (simp (le-ltb _ _ t, p.0, q.0, r.0, n), r.1)

pub xlog_data_is_read : XLogDataIsRead
unfolding copy_data_of xlog_data
xlog_data_is_read start end time sent hs he ht =
    let p = laid _ start end time sent hs he ht refl in
    (p.0, rw p.1 (take-length sent))

-- ---- from the values to the bytes

pub xlog_fields : (s : List ℕ) (a b : ℕ) (z : ℤ) (from len : ℕ) → xlog_of s ≡ w a b z from len
    → (24 ≤ length s) × (lsn_at s 0 ≡ a) × (lsn_at s 8 ≡ b) × (time_at s 16 ≡ z) × (25 ≡ from) × (length s - 24 ≡ len)
xlog_fields s a b z from len e =
    by_test (ltb (length s) 24)
    (λ t. impossible cc)
    (λ t.
    let q : w (lsn_at s 0) (lsn_at s 8) (time_at s 16) 25 (length s - 24) ≡ w a b z from len = rw t at e in
    (ltb-false _ _ t, cc, cc, cc, cc, cc))

pub no_keep_alive : (s : List ℕ) (a b : ℕ) (z : ℤ) (from len : ℕ) → keep_alive_of s ≡ w a b z from len → ⊥
no_keep_alive s a b z from len e =
    by_test (ltb (length s) 17)
    (λ t. impossible cc)
    (λ t. impossible cc)

-- the three fields and the data, of a body that is long enough
body : (s : List ℕ) → are_bytes s ≡ true → 24 ≤ length s
    → s ≡ be_bytes 8 (lsn_at s 0) ++ (be_bytes 8 (lsn_at s 8) ++ (int_bytes 8 (time_at s 16) ++ drop 24 s))
body s e l =
    let p : s ≡ be_bytes 8 (lsn_at s 0) ++ drop 8 s = part_there 8 s 0 e (omega arith) in
    let q : drop 8 s ≡ be_bytes 8 (lsn_at s 8) ++ drop 16 s = part_there 8 s 8 e (omega arith) in
    let r : drop 16 s ≡ int_bytes 8 (time_at s 16) ++ drop 24 s = (int_part_there 8 s 16 (omega arith) e (omega arith)).1 in
    p ∙ ap (λ (x : List ℕ). be_bytes 8 (lsn_at s 0) ++ x) (q ∙ ap (λ (x : List ℕ). be_bytes 8 (lsn_at s 8) ++ x) r)

sent : (s : List ℕ) (a b : ℕ) (z : ℤ) (from len : ℕ) → are_bytes s ≡ true → xlog_of s ≡ w a b z from len → SentXLogData (119 ∷ s) a b z from len
unfolding xlog_data
sent s a b z from len e p =
    let f = xlog_fields s a b z from len p in
    let d : take (length s - 24) (drop 24 s) ≡ drop 24 s = take_all (length s - 24) (drop 24 s) (simp length-drop (omega arith)) in
    rw (← f.1, ← f.2, ← f.3, ← f.4, ← f.5)
    record {
      start_fits = (part_bytes s 0 8 e (omega (arith, f.0))).1;
      end_fits = (part_bytes s 8 8 e (omega (arith, f.0))).1;
      time_fits = (int_part_there 8 s 16 (omega arith) e (omega (arith, f.0))).0;
      there = rw (d, length-drop);
      whole = rw d (ap (λ (x : List ℕ). 119 ∷ x) (body s e f.0));
    }

pub read_is_xlog_data : ReadIsXLogData
read_is_xlog_data payload start end time from len e p =
    by_letter payload
    (λ s q x. rw q (sent s start end time from len (first_byte 119 s (rw q at e)).1 (sym x ∙ p)))
    (λ s q x. absurd (no_keep_alive s start end time from len (sym x ∙ p)))
    (λ n x. impossible cc)

-- the data that are named lie within the payload, of any list of numbers
pub data_within : (payload : List ℕ) (start end : ℕ) (time : ℤ) (from len : ℕ) → copy_data_of payload ≡ w start end time from len → from + len ≤ length payload
data_within payload start end time from len p =
    by_letter payload
    (λ s q x. let f = xlog_fields s start end time from len (sym x ∙ p) in rw q (omega (arith, f.0, f.4, f.5)))
    (λ s q x. absurd (no_keep_alive s start end time from len (sym x ∙ p)))
    (λ n x. impossible cc)

-- Keepalive, field by field: after each field stands the next, and after the reply byte a surplus that is not read.
use mathlib.Core.Path.{◌≡◌, refl, sym, ap, ◌∙◌}
use mathlib.Core.Bool.{Bool, true, not}
use mathlib.Core.List.{List, ◌∷◌, ◌++◌, append_assoc}
use Prim.Native.Nat.{ℕ, ◌+◌, ◌≤◌, ◌<◌, ◌^◌}
use native.Mathlib.Omega.{arith}
use lib.ListN.{length, drop, get_or, length-append}
use lib.Seq.{drop-cons, get_or-drop}
use lib.IntN.{ℤ}
use lib.Signed.{mag}
use lib.Dec.{eqb, ltb}
use lib.Pow.{are_bytes}
use borrow.Author.Tests.{le-ltb, ltb-false}
use Rattle.wire.specs.Bytes.{be_bytes}
use Rattle.wire.specs.Int.{int_bytes}
use Rattle.wire.proofs.Laws.{length_be_bytes, by_test, impossible}
use Rattle.wire.proofs.FieldLaws.{part_read, int_part_read, int_part_there, part_there, part_bytes, first_byte, byte_at}
use Rattle.replication.specs.CopyData.{k, lsn_at, time_at, xlog_of, keep_alive_of, copy_data_of, keep_alive}
use Rattle.replication.specs.CopyDataLayout.{KeepAliveIsRead, SentKeepAlive, ReadIsKeepAlive}
use Rattle.replication.proofs.Laws.{by_letter}

-- ---- from the bytes to the values

laid : (s : List ℕ) (a : ℕ) (z : ℤ) (b : ℕ) (rest : List ℕ) → a < 2 ^ 64 → mag z < 2 ^ 63
    → s ≡ be_bytes 8 a ++ (int_bytes 8 z ++ (b ∷ rest)) → keep_alive_of s ≡ k a z (not (eqb b 0))
laid s a z b rest ha hz e =
    let p = part_read 8 s 0 a (int_bytes 8 z ++ (b ∷ rest)) ha e in
    let q = int_part_read 8 s 8 (omega arith) z (b ∷ rest) hz p.1 in
    let g : get_or s 16 0 ≡ b = sym (get_or-drop 16 s 0 0) ∙ ap (λ (x : List ℕ). get_or x 0 0) q.1 in
    let l : length s ≡ 17 + length rest = ap length e ∙ simp (length-append, length_be_bytes) (omega arith) in
    let t : 17 ≤ length s = omega arith in
    simp (le-ltb _ _ t, p.0, q.0, g)

pub keep_alive_is_read : KeepAliveIsRead
unfolding copy_data_of keep_alive
keep_alive_is_read end time byte surplus he ht hb = laid (drop 1 (keep_alive end time byte ++ surplus)) end time byte surplus he ht (simp append_assoc)

-- ---- from the values to the bytes

fields : (s : List ℕ) (a : ℕ) (z : ℤ) (r : Bool) → keep_alive_of s ≡ k a z r
    → (17 ≤ length s) × (lsn_at s 0 ≡ a) × (time_at s 8 ≡ z) × (not (eqb (get_or s 16 0) 0) ≡ r)
fields s a z r e =
    by_test (ltb (length s) 17)
    (λ t. impossible cc)
    (λ t.
    let q : k (lsn_at s 0) (time_at s 8) (not (eqb (get_or s 16 0) 0)) ≡ k a z r = rw t at e in
    (ltb-false _ _ t, cc, cc, cc))

no_xlog_data : (s : List ℕ) (a : ℕ) (z : ℤ) (r : Bool) → xlog_of s ≡ k a z r → ⊥
no_xlog_data s a z r e =
    by_test (ltb (length s) 24)
    (λ t. impossible cc)
    (λ t. impossible cc)

-- the two fields, the reply byte and the surplus, of a body that is long enough
body : (s : List ℕ) → are_bytes s ≡ true → 17 ≤ length s
    → s ≡ be_bytes 8 (lsn_at s 0) ++ (int_bytes 8 (time_at s 8) ++ (get_or s 16 0 ∷ drop 17 s))
body s e l =
    let p : s ≡ be_bytes 8 (lsn_at s 0) ++ drop 8 s = part_there 8 s 0 e (omega arith) in
    let q : drop 8 s ≡ int_bytes 8 (time_at s 8) ++ drop 16 s = (int_part_there 8 s 8 (omega arith) e (omega arith)).1 in
    let r : drop 16 s ≡ get_or s 16 0 ∷ drop 17 s = drop-cons s 16 0 l in
    p ∙ ap (λ (x : List ℕ). be_bytes 8 (lsn_at s 0) ++ x) (q ∙ rw r)

sent : (s : List ℕ) (a : ℕ) (z : ℤ) (r : Bool) → are_bytes s ≡ true → keep_alive_of s ≡ k a z r → SentKeepAlive (107 ∷ s) a z r
unfolding keep_alive
sent s a z r e p =
    let f = fields s a z r p in
    rw (← f.1, ← f.2, ← f.3)
    record {
      end_fits = (part_bytes s 0 8 e (omega (arith, f.0))).1;
      time_fits = (int_part_there 8 s 8 (omega arith) e (omega (arith, f.0))).0;
      byte = get_or s 16 0;
      byte_fits = byte_at s 16 e;
      asks = refl;
      surplus = drop 17 s;
      whole = ap (λ (x : List ℕ). 107 ∷ x) (body s e f.0) ∙ simp append_assoc;
    }

pub read_is_keep_alive : ReadIsKeepAlive
read_is_keep_alive payload end time reply e p =
    by_letter payload
    (λ s q x. absurd (no_xlog_data s end time reply (sym x ∙ p)))
    (λ s q x. rw q (sent s end time reply (first_byte 107 s (rw q at e)).1 (sym x ∙ p)))
    (λ n x. impossible cc)

-- A payload by its letter, and an XLogData by its fields.
use Rattle.std.proofs.Common.{◌≡◌, ℕ, ◌+◌, ◌-◌, ◌<◌, ◌≤◌, eqb, ltb, List, [], ◌∷◌, length, get_or, drop, ℤ, sym, refl, arith, length-drop, drop-drop, ltb-false, ltb-true, le-ltb, lt-ltb, eq-eqb, ne_eqb, eqb-true}
use mathlib.Core.Option.{some, none}
use Rattle.wire.specs.Bytes.{at, be}
use Rattle.wire.specs.Field.{field_at}
use Rattle.wire.specs.Int.{int, int_at}
use Rattle.wire.proofs.Laws.{by_test, impossible}
use Rattle.wire.proofs.FieldLaws.{field_whole, int_whole, int_within}
use Rattle.replication.specs.CopyData.{xlog_of, keep_alive_of, copy_data_of}
use Rattle.replication.specs.CopyData as C
use Rattle.framing.specs.WholeFront.{there}
use Rattle.std.specs.Prelude.{Option as Answer, Some, None}
use borrow.Author.Tests.{eqb-false}
use Rattle.advance.specs.declared.at_hand.AtHand.{AtHand}
use Rattle.advance.specs.AtHand.{nothing, by_copy_data, copy_data_at_hand, HasLength, Holds}

-- a field that is cut, and one that is not
pub field_short : (n : ℕ) (s : List ℕ) (i : ℕ) → none ≡ field_at n s i → length s < i + n
field_short n s i e = by_test (ltb (length s) (i + n)) (λ t. ltb-true _ _ t) (λ t. impossible (cc (field_whole n s i (ltb-false _ _ t))))

pub int_short : (n : ℕ) (s : List ℕ) (i : ℕ) → none ≡ int_at n s i → length s < i + n
int_short n s i e = by_test (ltb (length s) (i + n)) (λ t. ltb-true _ _ t) (λ t. impossible (cc (int_whole n s i (ltb-false _ _ t))))

field_is : (n : ℕ) (s : List ℕ) (i v : ℕ) → i + n ≤ length s → some v ≡ field_at n s i → v ≡ be (at s i n)
field_is n s i v h e = cc (field_whole n s i h)

int_is : (n : ℕ) (s : List ℕ) (i : ℕ) (z : ℤ) → i + n ≤ length s → some z ≡ int_at n s i → z ≡ int n (be (at s i n))
int_is n s i z h e = cc (int_whole n s i h)

pub xlog_short : (s : List ℕ) → length s < 25 → nothing ≡ by_copy_data s (xlog_of (drop 1 s))
xlog_short s h = let l = length-drop 1 s in let k : length (drop 1 s) < 24 = omega arith in rw (lt-ltb _ _ k)

pub xlog_fields : (s : List ℕ) (a b : ℕ) (z : ℤ) → some a ≡ field_at 8 s 1 → some b ≡ field_at 8 s 9 → some z ≡ int_at 8 s 17
    → (25 ≤ length s) × (C.w a b z 25 (length s - 25) ≡ xlog_of (drop 1 s))
xlog_fields s a b z e f g =
    let h : 17 + 8 ≤ length s = int_within 8 s 17 z (sym g) in
    let l = length-drop 1 s in
    let k : 24 ≤ length (drop 1 s) = omega arith in
    let n : length s - 25 ≡ length (drop 1 s) - 24 = omega arith in
    let va : a ≡ be (at (drop 1 s) 0 8) = field_is 8 s 1 a (omega arith) e in
    let vb : b ≡ be (at (drop 1 s) 8 8) = rw (drop-drop 8 1 s) (field_is 8 s 9 b (omega arith) f) in
    let vz : z ≡ int 8 (be (at (drop 1 s) 16 8)) = rw (drop-drop 16 1 s) (int_is 8 s 17 z (omega arith) g) in
    (omega arith, rw (va, vb, vz, n) (simp (le-ltb _ _ k)))

-- ---- by the letter

pub no_payload : (s : List ℕ) → length s ≡ 0 → nothing ≡ copy_data_at_hand s
unfolding copy_data_at_hand copy_data_of
no_payload [] e = refl
no_payload (b ∷ t) e = absurd (omega arith)

pub is_xlog : (s : List ℕ) → (length s ≡ 0 → ⊥) → get_or s 0 0 ≡ 119 → by_copy_data s (xlog_of (drop 1 s)) ≡ copy_data_at_hand s
unfolding copy_data_at_hand copy_data_of
is_xlog [] n e = absurd (n refl)
is_xlog (b ∷ t) n e = rw (eq-eqb b 119 e)

pub is_other : (s : List ℕ) → (length s ≡ 0 → ⊥) → (get_or s 0 0 ≡ 119 → ⊥) → nothing ≡ copy_data_at_hand s
unfolding copy_data_at_hand copy_data_of
is_other [] n e = absurd (n refl)
is_other (b ∷ t) n e =
    by_test (eqb b 107)
    (λ h. by_test (ltb (length t) 17) (λ k. rw (ne_eqb b 119 e, h, k)) (λ k. rw (ne_eqb b 119 e, h, k)))
    (λ h. rw (ne_eqb b 119 e, h))

-- ---- by the length of a message at hand

pub no_length : (n : ℕ) → none ≡ there n → n ≡ 0
no_length n e = by_test (eqb n 0) (λ t. eqb-true _ _ t) (λ t. impossible (cc (rw t at e)))

pub some_length : (n k : ℕ) → some k ≡ there n → (k ≡ n) × (0 < n)
some_length n k e =
    by_test (eqb n 0) (λ t. impossible (cc (rw t at e)))
    (λ t.
    let z : some k ≡ some n = rw t at e in
    let h : (n ≡ 0) → ⊥ = eqb-false n 0 t in
    (cc z, omega arith))

pub held : (a : Answer AtHand) (n k : ℕ) → 0 < n → n ≤ k → HasLength a n → Holds a k
held (Some a) n k h l e = (omega arith, omega arith)
held None n k h l e = tt

-- What the fields of a body say where the body is long enough.
use mathlib.Core.Path.{◌≡◌, refl, ap}
use mathlib.Core.List.{List, [], ◌∷◌}
use mathlib.Core.Bool.{not}
use mathlib.Core.Option.{some, none}
use Prim.Native.Nat.{ℕ, ◌+◌, ◌-◌, ◌≤◌, ◌<◌}
use native.Mathlib.Omega.{arith}
use lib.ListN.{length, take, drop, get_or}
use lib.IntN.{ℤ}
use lib.Dec.{eqb, ltb}
use borrow.Author.Tests.{lt-ltb, le-ltb, eq-eqb, ne_eqb, eqb-true, ltb-true, ltb-false}
use Rattle.wire.specs.Bytes.{be, at}
use Rattle.wire.specs.Field.{field_at}
use Rattle.wire.specs.Int.{int, int_at}
use Rattle.wire.proofs.Laws.{tail_whole, by_test, impossible}
use Rattle.wire.proofs.FieldLaws.{field_whole, int_whole, be_one}
use Rattle.replication.specs.CopyData.{Said, w, k, refused, xlog_of, keep_alive_of, copy_data_of}

-- a field that is there has its value
value : (n : ℕ) (s : List ℕ) (i v : ℕ) → i + n ≤ length s → some v ≡ field_at n s i → v ≡ be (at s i n)
value n s i v h e = cc (field_whole n s i h)

time : (n : ℕ) (s : List ℕ) (i : ℕ) (z : ℤ) → i + n ≤ length s → some z ≡ int_at n s i → z ≡ int n (be (at s i n))
time n s i z h e = cc (int_whole n s i h)

-- a field that is cut ends after the body
cut_short : (n : ℕ) (s : List ℕ) (i : ℕ) → none ≡ field_at n s i → length s < i + n
cut_short n s i e = by_test (ltb (length s) (i + n)) (λ t. ltb-true _ _ t) (λ t. let h : i + n ≤ length s = ltb-false _ _ t in impossible (cc (field_whole n s i h)))

time_cut_short : (n : ℕ) (s : List ℕ) (i : ℕ) → none ≡ int_at n s i → length s < i + n
time_cut_short n s i e = by_test (ltb (length s) (i + n)) (λ t. ltb-true _ _ t) (λ t. let h : i + n ≤ length s = ltb-false _ _ t in impossible (cc (int_whole n s i h)))

xlog_short : (s : List ℕ) → length s < 24 → refused 11 ≡ xlog_of s
xlog_short s h = simp (lt-ltb _ _ h)

keep_alive_short : (s : List ℕ) → length s < 17 → refused 12 ≡ keep_alive_of s
keep_alive_short s h = simp (lt-ltb _ _ h)

-- a body one of whose fields is cut is short
pub xlog_cut : (n : ℕ) (s : List ℕ) (i : ℕ) → i + n ≤ 24 → none ≡ field_at n s i → refused 11 ≡ xlog_of s
xlog_cut n s i h e = xlog_short s (omega (arith, cut_short n s i e))

pub xlog_time_cut : (n : ℕ) (s : List ℕ) (i : ℕ) → i + n ≤ 24 → none ≡ int_at n s i → refused 11 ≡ xlog_of s
xlog_time_cut n s i h e = xlog_short s (omega (arith, time_cut_short n s i e))

pub keep_alive_cut : (n : ℕ) (s : List ℕ) (i : ℕ) → i + n ≤ 17 → none ≡ field_at n s i → refused 12 ≡ keep_alive_of s
keep_alive_cut n s i h e = keep_alive_short s (omega (arith, cut_short n s i e))

pub keep_alive_time_cut : (n : ℕ) (s : List ℕ) (i : ℕ) → i + n ≤ 17 → none ≡ int_at n s i → refused 12 ≡ keep_alive_of s
keep_alive_time_cut n s i h e = keep_alive_short s (omega (arith, time_cut_short n s i e))

pub xlog_read : (s : List ℕ) (a b : ℕ) (z : ℤ) → 24 ≤ length s → some a ≡ field_at 8 s 0 → some b ≡ field_at 8 s 8
    → some z ≡ int_at 8 s 16 → w a b z 25 (length s - 24) ≡ xlog_of s
xlog_read s a b z h e f g =
    rw (value 8 s 0 a (omega arith) e, value 8 s 8 b (omega arith) f, time 8 s 16 z (omega arith) g)
    (simp (le-ltb _ _ h))

pub keep_alive_read : (s : List ℕ) (a : ℕ) (z : ℤ) (b : ℕ) → 17 ≤ length s → some a ≡ field_at 8 s 0
    → some z ≡ int_at 8 s 8 → some b ≡ field_at 1 s 16 → k a z (not (eqb b 0)) ≡ keep_alive_of s
keep_alive_read s a z b h e g f =
    rw (value 8 s 0 a (omega arith) e, time 8 s 8 z (omega arith) g, value 1 s 16 b (omega arith) f, be_one s 16 (omega arith))
    (simp (le-ltb _ _ h))

-- ---- by the letter

pub empty : (s : List ℕ) → length s ≡ 0 → refused 10 ≡ copy_data_of s
unfolding copy_data_of
empty [] e = refl
empty (b ∷ t) e = absurd (omega arith)

pub by_w : (s : List ℕ) (x : Said) → (length s ≡ 0 → ⊥) → get_or s 0 0 ≡ 119 → x ≡ xlog_of (take (length s - 1) (drop 1 s)) → x ≡ copy_data_of s
unfolding copy_data_of
by_w [] x n e p = absurd (n refl)
by_w (b ∷ t) x n e p = simp (eq-eqb b 119 e) (rw (tail_whole (b ∷ t) 1) at p)

pub by_k : (s : List ℕ) (x : Said) → (length s ≡ 0 → ⊥) → (get_or s 0 0 ≡ 119 → ⊥) → get_or s 0 0 ≡ 107 → x ≡ keep_alive_of (take (length s - 1) (drop 1 s)) → x ≡ copy_data_of s
unfolding copy_data_of
by_k [] x n d e p = absurd (n refl)
by_k (b ∷ t) x n d e p = simp (ne_eqb b 119 d, eq-eqb b 107 e) (rw (tail_whole (b ∷ t) 1) at p)

pub by_other : (s : List ℕ) → (length s ≡ 0 → ⊥) → (get_or s 0 0 ≡ 119 → ⊥) → (get_or s 0 0 ≡ 107 → ⊥) → refused 13 ≡ copy_data_of s
unfolding copy_data_of
by_other [] n d e = absurd (n refl)
by_other (b ∷ t) n d e = simp (ne_eqb b 119 d, ne_eqb b 107 e)

-- what a payload says is what one of the two bodies says, or a refusal
pub by_letter : {X : Type 0} (payload : List ℕ) → ((s : List ℕ) → payload ≡ 119 ∷ s → copy_data_of payload ≡ xlog_of s → X)
    → ((s : List ℕ) → payload ≡ 107 ∷ s → copy_data_of payload ≡ keep_alive_of s → X) → ((n : ℕ) → copy_data_of payload ≡ refused n → X) → X
unfolding copy_data_of
by_letter [] f g h = h 10 refl
by_letter (b ∷ s) f g h =
    by_test (eqb b 119)
    (λ t. f s (ap (λ (x : ℕ). x ∷ s) (eqb-true b 119 t)) (simp t))
    (λ t. by_test (eqb b 107)
    (λ u. g s (ap (λ (x : ℕ). x ∷ s) (eqb-true b 107 u)) (simp (t, u)))
    (λ u. h 13 (simp (t, u))))

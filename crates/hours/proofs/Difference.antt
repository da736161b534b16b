-- Integers as differences of two numbers, so that sums, multiples and equations of integers are those of numbers.
use mathlib.Core.Path.{◌≡◌, refl, sym, ap, ◌∙◌}
use Prim.Native.Nat.{ℕ, zero, suc, ◌+◌, ◌*◌}
use native.Mathlib.Omega.{arith}
use lib.IntN.{ℤ, pos, negsuc, neg_ℤ, nat_abs, ◌+ℤ◌, ◌*ℤ◌, +ℤ_assoc, +ℤ_comm, +ℤ_idl, +ℤ_idr, neg_ℤ-+ℤ, -ℤ-+ℤ_cancel, +ℤ-neg_ℤ_cancel, *ℤ_comm, suc_ℤ-*ℤ, zero-*ℤ}

-- a - b
unfoldable pub less : ℕ → ℕ → ℤ
less a b = pos a +ℤ neg_ℤ (pos b)

pub record Difference (z : ℤ) : Type 0 where
  pub up : ℕ
  pub down : ℕ
  pub same : z ≡ less up down

pub less_pos : (n : ℕ) → pos n ≡ less n 0
unfolding less
less_pos n = sym (+ℤ_idr (pos n))

pub less_negsuc : (k : ℕ) → negsuc k ≡ less 0 (suc k)
unfolding less
less_negsuc k = sym (+ℤ_idl (negsuc k))

pub difference : (z : ℤ) → Difference z
difference (pos n) = record { up = n; down = 0; same = less_pos n }
difference (negsuc k) = record { up = 0; down = suc k; same = less_negsuc k }

swap : (a b c d : ℤ) → (a +ℤ b) +ℤ (c +ℤ d) ≡ (a +ℤ c) +ℤ (b +ℤ d)
swap a b c d =
    +ℤ_assoc a b (c +ℤ d) ∙ ap (λ (x : ℤ). a +ℤ x) (sym (+ℤ_assoc b c d) ∙ ap (λ (x : ℤ). x +ℤ d) (+ℤ_comm b c) ∙ +ℤ_assoc c b d)
    ∙ sym (+ℤ_assoc a c (b +ℤ d))

pub less_sum : (a b c d : ℕ) → less a b +ℤ less c d ≡ less (a + c) (b + d)
unfolding less
less_sum a b c d =
    swap (pos a) (neg_ℤ (pos b)) (pos c) (neg_ℤ (pos d)) ∙ ap (λ (x : ℤ). pos (a + c) +ℤ x) (sym (neg_ℤ-+ℤ (pos b) (pos d)))

times_suc : (z : ℤ) (m : ℕ) → z *ℤ pos (suc m) ≡ z *ℤ pos m +ℤ z
times_suc z m = *ℤ_comm z (pos (suc m)) ∙ suc_ℤ-*ℤ (pos m) z ∙ ap (λ (x : ℤ). x +ℤ z) (*ℤ_comm (pos m) z)

pub less_times : (a b m : ℕ) → less a b *ℤ pos m ≡ less (a * m) (b * m)
less_times a b zero =
    let e : a * 0 ≡ 0 = omega arith in
    let f : b * 0 ≡ 0 = omega arith in
    rw (e, f) (*ℤ_comm (less a b) (pos 0) ∙ zero-*ℤ (less a b) ∙ less_pos 0)
less_times a b (suc m) =
    let e : a * suc m ≡ a * m + a = omega arith in
    let f : b * suc m ≡ b * m + b = omega arith in
    times_suc (less a b) m ∙ ap (λ (x : ℤ). x +ℤ less a b) (less_times a b m) ∙ less_sum (a * m) (b * m) a b ∙ rw (e, f) refl

cancelled : (a b : ℕ) → less a b +ℤ pos b ≡ pos a
unfolding less
cancelled a b = -ℤ-+ℤ_cancel (pos a) (pos b)

-- both sides with both subtrahends added
raised : (a b d : ℕ) → less a b +ℤ pos (b + d) ≡ pos (a + d)
raised a b d = sym (+ℤ_assoc (less a b) (pos b) (pos d)) ∙ ap (λ (x : ℤ). x +ℤ pos d) (cancelled a b)

pub less_same : (a b c d : ℕ) → a + d ≡ c + b → less a b ≡ less c d
less_same a b c d e =
    let n : b + d ≡ d + b = omega arith in
    let l : less a b +ℤ pos (b + d) ≡ less c d +ℤ pos (b + d) =
    raised a b d ∙ ap pos e ∙ sym (ap (λ (k : ℕ). less c d +ℤ pos k) n ∙ raised c d b) in
    sym (+ℤ-neg_ℤ_cancel (less a b) (pos (b + d))) ∙ ap (λ (x : ℤ). x +ℤ neg_ℤ (pos (b + d))) l ∙ +ℤ-neg_ℤ_cancel (less c d) (pos (b + d))

pub same_less : (a b c d : ℕ) → less a b ≡ less c d → a + d ≡ c + b
same_less a b c d e =
    let n : b + d ≡ d + b = omega arith in
    ap nat_abs (sym (raised a b d) ∙ ap (λ (x : ℤ). x +ℤ pos (b + d)) e ∙ ap (λ (k : ℕ). less c d +ℤ pos k) n ∙ raised c d b)

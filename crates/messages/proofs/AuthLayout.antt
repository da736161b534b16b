-- An authentication request and its layout.
use mathlib.Core.Path.{◌≡◌, refl, sym, ap, ◌∙◌}
use mathlib.Core.List.{List, ◌++◌}
use Prim.Native.Nat.{ℕ, ◌-◌, ◌≤◌, ◌<◌}
use native.Mathlib.Omega.{arith}
use lib.ListN.{length, drop, length-append, length-drop}
use lib.Seq.{take-length}
use lib.IntN.{ℤ, pos}
use lib.Dec.{leb}
use borrow.Author.Tests.{leb-true, leb-false}
use Rattle.wire.specs.Bytes.{at, be}
use Rattle.wire.specs.Int.{int, int_bytes}
use Rattle.wire.proofs.Laws.{by_test, length_be_bytes}
use Rattle.wire.proofs.FieldLaws.{field_cut, int_whole, int_read, int_part_there}
use Rattle.messages.specs.Auth.{auth_of}
use Rattle.messages.specs.AuthLayout.{SentAuthIsRead, ReadAuthIsSent, ShortAuthIsRefused, AuthIsWithin}

short_auth : (payload : List ℕ) → length payload < 4 → auth_of payload ≡ (21, pos 0, 0, 0)
unfolding auth_of
short_auth payload h = rw (field_cut 4 payload 0 (omega arith))

pub short_auth_is_refused : ShortAuthIsRefused
short_auth_is_refused payload h = short_auth payload h

whole_auth : (payload : List ℕ) → 4 ≤ length payload → auth_of payload ≡ (0, int 4 (be (at payload 0 4)), 4, length payload - 4)
unfolding auth_of
whole_auth payload h = rw (int_whole 4 payload 0 (omega arith))

pub auth_is_within : AuthIsWithin
auth_is_within payload =
    by_test (leb 4 (length payload))
    (λ t. let h : 4 ≤ length payload = leb-true _ _ t in rw (whole_auth payload h) (omega arith))
    (λ t. rw (short_auth payload (leb-false _ _ t)) (omega arith))

pub sent_auth_is_read : SentAuthIsRead
unfolding auth_of
sent_auth_is_read code rest h =
    let payload : List ℕ = int_bytes 4 code ++ rest in
    let r = int_read 4 payload 0 (omega arith) code rest h refl in
    let n : length payload - 4 ≡ length rest = simp (length-append, length_be_bytes) (omega arith) in
    (rw (r.0, n), rw r.1 (take-length rest))

pub read_auth_is_sent : ReadAuthIsSent
read_auth_is_sent payload code from len b e =
    by_test (leb 4 (length payload))
    (λ t.
    let h : 4 ≤ length payload = leb-true _ _ t in
    let w = whole_auth payload h in
    let p = int_part_there 4 payload 0 (omega arith) b (omega arith) in
    let q : (0, int 4 (be (at payload 0 4)), 4, length payload - 4) ≡ (0, code, from, len) = sym w ∙ e in
    let c : int 4 (be (at payload 0 4)) ≡ code = ap (λ (x : ℕ × ℤ × ℕ × ℕ). x.1) q in
    let f : from ≡ 4 = sym (ap (λ (x : ℕ × ℤ × ℕ × ℕ). x.2) q) in
    let n : length payload - 4 ≡ len = ap (λ (x : ℕ × ℤ × ℕ × ℕ). x.3) q in
    let a : at payload 4 len ≡ drop 4 payload = rw (← n, ← length-drop 4 payload) (take-length (drop 4 payload)) in
    (rw c at p.0, rw (f, a) (rw c at p.1)))
    (λ t. let w = short_auth payload (leb-false _ _ t) in let z : ◌≡◌ {A = ℕ} 0 21 = ap (λ (x : ℕ × ℤ × ℕ × ℕ). x.0) (sym e ∙ w) in absurd (omega arith))

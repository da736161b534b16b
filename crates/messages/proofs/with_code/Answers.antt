-- The four pieces are placed one after the other.
use mathlib.Core.Path.{◌≡◌, refl, sym}
use mathlib.Core.List.{List}
use Prim.Native.Nat.{ℕ, ◌≤◌, ◌+◌}
use native.Mathlib.Omega.{arith}
use lib.ListN.{length}
use Rattle.wire.specs.Bytes.{placed}
use Rattle.wire.proofs.Pieces.{filling_start, filling_next, filling_last}
use Rattle.error.specs.Writer.{writing}
use Rattle.error.proofs.Laws.{no_room, wrote_placed}
use Rattle.lossy.specs.Lossy.{lossy_of}
use Rattle.lossy.proofs.Laws.{measured_fits, measured_over, marked}
use Rattle.messages.specs.ErrorText.{coded, opened, closed}
use Rattle.messages.proofs.with_code.Goals as goal

four_pieces : (d m k : List ℕ) {n : ℕ} {q1 q2 q3 q4 : List ℕ} {r1 r2 r3 r4 : ℕ} → length (coded m k) ≡ n → n ≤ length d
    → (r1, q1) ≡ placed d 0 m → (r2, q2) ≡ placed q1 r1 opened → (r3, q3) ≡ placed q2 r2 k → (r4, q4) ≡ placed q3 r3 closed
    → ((0, n), q4) ≡ writing 0 (coded m k) d
unfolding coded
four_pieces d m k {n} e f e1 e2 e3 e4 =
    let h : 0 + length (coded m k) ≤ length d = omega arith in
    wrote_placed 0 (coded m k) d (omega arith) e f (filling_last h (filling_next h k (filling_next h opened (filling_next h m (filling_start refl) e1) e2) e3) e4)

pub returns-in_default : goal.returns-in_default
returns-in_default c = marked 4 0 0 _ (no_room 0 _ _ (omega arith) (measured_over _ _ _ c.measure_coded.ensures c.in_default.is)) refl

pub returns : goal.returns
returns c =
    let a = c.args in
    let m = lossy_of a.text.now in
    let k = lossy_of a.code.now in
    let h = measured_fits _ _ _ c.measure_coded.ensures c.in-Some.is in
    marked 0 _ _ _ (four_pieces _ m k h.0 h.1 c.place-a.ensures c.place-b.ensures c.place-c.ensures c.place.ensures) (sym h.2)

-- What is lacking of the header, then the judgement.
use native.Mathlib.Nat.{min-le_right}
use Rattle.framing.specs.Read.{Result}
use Rattle.framing.proofs.Laws.{header_more, header_whole, judged_taken}
use Prim.Native.Nat.{◌≤◌, ◌-◌}
use mathlib.Core.Path.{◌≡◌, ap}
use native.Mathlib.Omega.{arith}
use lib.ListN.{length, take, drop, length-take, length-drop}
use Rattle.framing.proofs.fill_header.Goals as goal

pub returns-then-filled-k-lt5 : goal.returns-then-filled-k-lt5
returns-then-filled-k-lt5 c =
    header_more _ _ _ _ _ _ _ c.min-k.ensures c.head_with-h.ensures _ _ c.lacking.ensures c.at_byte.ensures c.if-filled-k-lt5.true

pub overflow_add-result : goal.overflow_add-result
overflow_add-result c =
    let a = c.args in
    let n = c.min-k.result in
    let v = take (length a.unread.now - n) (drop n a.unread.now) in
    let e : c.judge-s.result.taken ≤ length v = rw (ap (λ (x : Result). x.2) c.judge-s.ensures) (judged_taken a.limit _ v a.payload.now) in
    let m = min-le_right (5 - a.r.filled) (length a.unread.now) in
    let l : length v ≡ length a.unread.now - n = simp (length-take, length-drop) (omega arith) in
    omega (arith, e)

pub returns : goal.returns
returns c =
    let a = c.args in
    header_whole _ _ _ _ _ c.min-k.result _ c.min-k.ensures c.head_with-h.ensures (length a.unread.now - c.min-k.result) _ (omega arith) c.judge-s.ensures c.if-filled-k-lt5.false
